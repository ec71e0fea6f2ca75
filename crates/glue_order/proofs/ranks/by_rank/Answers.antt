use Rattle.std.proofs.Common.{rules}
use Rattle.std.proofs.lemmas.Cmp.{nat_cmp_total, nat_list_cmp_total, on_total, then_total}
use Rattle.glue_order.specs.declared.ranks.Ranked.{Ranked}
use Rattle.glue_order.specs.Walks.{rank_order}
use Rattle.glue_order.proofs.Arranged.{arranged_by_sort}
use Rattle.glue_order.proofs.ranks.by_rank.Goals as goal

pub returns : goal.returns
returns c =
    let total = then_total (on_total (λ (r : Ranked). r.sweep) nat_cmp_total) (on_total (λ (r : Ranked). r.name) nat_list_cmp_total) in
    record {
      sorted = arranged_by_sort rank_order total _ _ c.in_ok-sort_by.ensures.permutation c.in_ok-sort_by.ensures.sorted c.in_ok-sort_by.ensures.stable (λ a r q k. search rules);
    }
