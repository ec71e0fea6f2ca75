use Rattle.glue_context.proofs.Common.{Bor, rules}
use Rattle.std.proofs.lemmas.Cmp.{nat_list_cmp_total, on_total}
use Rattle.glue_shared.specs.declared.aux.AuxStringEnum.{AuxStringEnum}
use Rattle.glue_context.specs.ListedItems.{enum_order}
use Rattle.glue_context.proofs.Lists.{arranged_by_sort}
use Rattle.glue_context.proofs.listed.enums_by_name.Goals as goal

pub returns : goal.returns
returns c = record {
  sorted = rw c.in_ok-sorted.ensures.chosen at (arranged_by_sort (λ (e : Bor AuxStringEnum). e.now) enum_order
      (on_total (λ (e : AuxStringEnum). e.name) nat_list_cmp_total)
      c.in_ok-sorted.sorted.items c.sort_by.new.self.items c.in_ok-sort_by.ensures.permutation c.in_ok-sort_by.ensures.sorted (λ a r q k. search rules));
}
