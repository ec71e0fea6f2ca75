use Rattle.std.proofs.Common.{rules, ℕ, List}
use Rattle.std.proofs.lemmas.Cmp.{nat_list_cmp_total}
use Rattle.std.proofs.lemmas.List.{map-id}
use Rattle.glue_naming.specs.Arranged.{text_order}
use Rattle.glue_naming.proofs.Arranged.{arranged_by_sort}
use Rattle.glue_naming.proofs.asked.enums_by_name.Goals as goal

pub returns : goal.returns
returns c = record {
  sorted = rw c.in_ok-keys.ensures.keys at (simp map-id at (arranged_by_sort (λ (k : List ℕ). k) text_order nat_list_cmp_total
      c.in_ok-keys.keys.items c.sort_by.new.self.items c.in_ok-sort_by.ensures.permutation c.in_ok-sort_by.ensures.sorted (λ a r q k. search rules)));
}
