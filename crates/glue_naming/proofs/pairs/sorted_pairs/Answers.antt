use Rattle.std.proofs.Common.{rules, ℕ, IsPermutation}
use Rattle.std.proofs.lemmas.Cmp.{nat_list_cmp_total, nat_cmp_total, on_total, then_total}
use Rattle.std.proofs.lemmas.List.{map-id}
use Rattle.wasm_core.specs.ids.ImportId.{ImportId}
use Rattle.glue_naming.specs.Pairs.{place_name, pair_order}
use Rattle.glue_naming.proofs.Arranged.{arranged_by_sort}
use Rattle.glue_naming.proofs.pairs.sorted_pairs.Goals as goal

pub returns : goal.returns
returns c =
    let l = c.args.lowered.now in
    let moved : IsPermutation c.args.pairs.items c.sort_by.new.self.items = search rules in
    let total = then_total (on_total (λ (p : ImportId × ℕ). place_name l p.0.0) nat_list_cmp_total) (on_total (λ (p : ImportId × ℕ). p.1) nat_cmp_total) in
    record {
      sorted = simp map-id at (arranged_by_sort (λ (p : ImportId × ℕ). p) (pair_order l) total _ _ moved c.in_ok-sort_by.ensures.sorted (λ a r q k. search rules));
    }
