use Rattle.std.proofs.Common.{rules, IsPermutation}
use Rattle.std.proofs.lemmas.Cmp.{nat_list_cmp_total, nat_cmp_total, on_total, then_total}
use Rattle.wasm_core.specs.ids.ImportId.{ImportId}
use Rattle.glue_naming.specs.Pairs.{place_name, place_order}
use Rattle.glue_naming.proofs.Arranged.{arranged_by_sort}
use Rattle.glue_naming.proofs.pairs.sorted_places.Goals as goal

pub returns : goal.returns
returns c =
    let l = c.args.lowered.now in
    let moved : IsPermutation c.args.places.items c.sort_by.new.self.items = search rules in
    let total = then_total (on_total (place_name l) nat_list_cmp_total) nat_cmp_total in
    record {
      sorted = arranged_by_sort (λ (id : ImportId). id.0) (place_order l) total _ _ moved c.in_ok-sort_by.ensures.sorted (λ a r q k. search rules);
    }
