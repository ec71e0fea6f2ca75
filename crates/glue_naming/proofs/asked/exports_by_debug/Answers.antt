use Rattle.std.proofs.Common.{rules, Bor}
use Rattle.std.proofs.lemmas.Cmp.{nat_list_cmp_total, nat_cmp_total, on_total, then_total}
use Rattle.glue_shared.specs.declared.aux.AuxExport.{AuxExport}
use Rattle.glue_naming.specs.Wanted.{debug_order}
use Rattle.glue_naming.proofs.Arranged.{arranged_by_sort}
use Rattle.glue_naming.proofs.asked.exports_by_debug.Goals as goal

pub returns : goal.returns
returns c = record {
  sorted = rw c.in_ok-sorted.ensures.list at (arranged_by_sort (λ (e : Bor AuxExport). e.now) debug_order
      (then_total (on_total (λ (e : AuxExport). e.debug) nat_list_cmp_total) (on_total (λ (e : AuxExport). e.adapter) nat_cmp_total))
      c.in_ok-sorted.sorted.items c.sort_by.new.self.items c.in_ok-sort_by.ensures.permutation c.in_ok-sort_by.ensures.sorted (λ a r q k. search rules));
}
