use Rattle.std.proofs.Common.{◌≡◌, ℕ, ◌+◌, List, [], ◌∷◌, ◌++◌, cond, take, ap, sym, ◌∙◌}
use Rattle.std.specs.Prelude.{is_some}
use Rattle.std.specs.List.{list_any}
use Rattle.std.proofs.lemmas.List.{take_more}
use Rattle.values.specs.Map.{look_up}
use Rattle.wasm_core.specs.ids.ExportId.{ExportId}
use Rattle.glue_names.specs.Once.{each_pair, is_same_pair, number_pair_order}
use Rattle.glue_names.proofs.SeenNames.{once_push, pair_seen}
use Rattle.glue_names.proofs.closures.each_pair.Goals as goal

pub loop-pair-preserved : goal.loop-pair-preserved
loop-pair-preserved c =
    let pairs = c.args.pairs.now in
    let i = c.loop-pair.pair-index in
    let x = c.pair-item.result in
    let seen = c.loop-pair.seen in
    let inv = c.loop-pair.invariant in
    let is : take (i + 1) pairs ≡ take i pairs ++ x ∷ [] = take_more pairs i x c.loop-pair-test.true ∙ ap (λ (y : ExportId × ℕ). take i pairs ++ y ∷ []) (sym c.pair-item.is) in
    record {
      once = c.in_ok-push_pair.ensures.pushed
          ∙ ap (λ (once : List (ExportId × ℕ)). once ++ cond (is_some (look_up number_pair_order seen (x.0.0, x.1))) [] (x ∷ [])) inv.once
          ∙ ap (λ b. each_pair (take i pairs) ++ cond b [] (x ∷ [])) (inv.seen x)
          ∙ sym (once_push is_same_pair (take i pairs) x)
          ∙ ap each_pair (sym is);
      seen = λ q.
          ap (λ es. is_some (look_up number_pair_order es (q.0.0, q.1))) c.in_ok-push_pair.ensures.seen
          ∙ pair_seen seen _ (take i pairs) x inv.seen q
          ∙ ap (list_any (is_same_pair q)) (sym is);
    }
