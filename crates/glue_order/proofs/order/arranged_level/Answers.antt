use Rattle.std.proofs.Common.{◌≡◌, ◌-◌, ◌∙◌, List, ap, length, map, refl, ℕ}
use Rattle.std.proofs.lemmas.List.{length-map}
use Rattle.glue_order.specs.declared.walks.Walk.{Walk}
use Rattle.glue_order.specs.Order.{Entry}
use Rattle.glue_order.specs.Walks.{first_step, rank_order, ranked_entry, sweeps_from, walks}
use Rattle.glue_order.proofs.Arranged.{arranged_back}
use Rattle.glue_order.proofs.Parents.{behind_parents}
use Rattle.glue_order.proofs.Sweeps.{all_ranked, rank_of, steps_small}
use Rattle.glue_order.proofs.order.arranged_level.Goals as goal

pub far_walks-requires : goal.far_walks-requires
far_walks-requires c = record {
  small = rw (c.deref.ensures.value, c.in_ok-steps.ensures.steps, c.as_slice.ensures) (steps_small c.args.entries c.args.entries);
}

pub returns : goal.returns
returns c =
    let level = c.args.entries in
    let steps = map (first_step level) level in
    let stepped : c.deref.result.now ≡ steps = c.deref.ensures.value ∙ c.in_ok-steps.ensures.steps ∙ ap (λ (es : List Entry). map (first_step es) es) c.as_slice.ensures in
    let walked : c.deref-2.result.now ≡ walks steps (length level - 1) =
    c.deref-2.ensures.value ∙ c.in_ok-walks.ensures.walks ∙ ap (λ (ws : List Walk). walks ws (length ws - 1)) stepped
    ∙ ap (λ (n : ℕ). walks steps (n - 1)) (length-map level (first_step level)) in
    let made : c.in_ok-ranked.ranked.items ≡ map (rank_of level) level =
    c.in_ok-ranked.ensures.ranked ∙ ap (λ (ws : List Walk). sweeps_from ws 0 level) walked ∙ all_ranked level in
    let arranged =
    arranged_back (rank_of level) ranked_entry (λ e. refl) rank_order level c.in_ok-sorted.sorted.items (rw made at c.in_ok-sorted.ensures.sorted) in
    record {
      parents = rw c.in_ok-level.ensures.level (behind_parents level (map ranked_entry c.in_ok-sorted.sorted.items) arranged);
      arranged = rw c.in_ok-level.ensures.level arranged;
    }
