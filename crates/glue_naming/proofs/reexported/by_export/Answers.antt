use Rattle.std.proofs.Common.{rules, Bor, ap, ◌∙◌}
use Rattle.std.proofs.lemmas.Cmp.{nat_list_cmp_total, on_total}
use Rattle.glue_published.specs.Reexports.{Reexport}
use Rattle.glue_naming.specs.Arranged.{in_order}
use Rattle.glue_naming.specs.Reexported.{export_order}
use Rattle.glue_naming.proofs.InOrder.{in_order_by_sort}
use Rattle.glue_naming.proofs.reexported.by_export.Goals as goal

pub returns : goal.returns
returns c = record {
  sorted = in_order_by_sort (λ (r : Bor Reexport). r.now) export_order (on_total (λ (r : Reexport). r.0) nat_list_cmp_total)
      c.in_ok-sorted.sorted.items c.sort_by.new.self.items c.in_ok-sort_by.ensures.sorted c.in_ok-sort_by.ensures.stable (λ a r q k. search rules)
      ∙ ap (in_order export_order) c.in_ok-sorted.ensures.list;
}
