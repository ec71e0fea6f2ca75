use Rattle.std.proofs.Common.{ap, ◌+◌, ◌∙◌, sym}
use Rattle.glue_shared.proofs.Sets.{placed_found, placed_on}
use Rattle.glue_shared.proofs.name_tests.is_placed.Goals as goal

pub returns-then-is_named_by : goal.returns-then-is_named_by
returns-then-is_named_by g c =
    let v = c.loop-entry.invariant in
    placed_found c.args.stems.now c.loop-entry.entry-index c.loop-entry.place c.args.entries.now c.entry-item.result c.args.name.now _ c.loop-entry-test.true c.entry-item.is v.0 v.1 (sym c.is_named_by.ensures ∙ c.if-is_named_by.true)

pub loop-entry-preserved : goal.loop-entry-preserved
loop-entry-preserved g c =
    let v = c.loop-entry.invariant in (
      ap (λ k. k + 1) v.0,
      placed_on c.args.stems.now c.loop-entry.entry-index c.loop-entry.place c.args.entries.now c.entry-item.result c.args.name.now _ c.loop-entry-test.true c.entry-item.is v.0 v.1 (sym c.is_named_by.ensures ∙ c.if-is_named_by.false),
    )
