use Rattle.std.proofs.Common.{ℕ, ◌+◌, map, drop, sym, ap, ◌∙◌}
use Rattle.values.specs.TextSet.{TextSet, with_texts}
use Rattle.glue_shared.specs.Names.{placed_names}
use Rattle.glue_names.specs.Taken.{entry_names}
use Rattle.glue_names.proofs.TakenNames.{placed_step}
use Rattle.glue_names.proofs.taken.with_placed.Goals as goal

pub loop-entry-preserved : goal.loop-entry-preserved
loop-entry-preserved g c =
    let v = c.loop-entry.invariant in
    let i = c.loop-entry.entry-index in
    let entries = c.args.entries.now in
    let stems = map (λ w. w.now) c.args.stems.now in
    let taken = g.N.Names.bound c.loop-entry.more in
    record {
      placed = ap (λ (k : ℕ). k + 1) v.placed;
      rest =
          ap (λ (s : TextSet). with_texts s (placed_names stems (i + 1) (drop (i + 1) entries)))
          (c.in_ok-more.ensures.bound ∙ ap (λ (k : ℕ). with_texts taken (entry_names stems k c.entry-item.result)) v.placed)
          ∙ sym (placed_step taken stems i entries c.entry-item.result c.loop-entry-test.true c.entry-item.is) ∙ v.rest;
    }
