use Rattle.std.proofs.Common.{ap, ◌∙◌}
use Rattle.glue_shared.specs.Indexed.{is_own_by}
use Rattle.glue_shared.specs.Names.{own_places}
use Rattle.glue_shared.proofs.Owned.{own_next, own_end}
use Rattle.glue_shared.proofs.own.own_places.Goals as goal

pub loop-place-preserved : goal.loop-place-preserved
loop-place-preserved c =
    own_next (is_own_by c.args.settings.now c.args.«module».now c.args.implemented.now c.args.handed_on.now) c.imports-import-items.result.now c.loop-place.place c.import-item.result
    _ _ _ c.loop-place-test.true c.import-item.is c.in_ok-push_own.ensures.pushed c.loop-place.invariant

pub returns : goal.returns
returns c =
    let own = is_own_by c.args.settings.now c.args.«module».now c.args.implemented.now c.args.handed_on.now in
    record {
      places = own_end own c.imports-import-items.result.now c.loop-place.place _ _ c.loop-place-test.false c.loop-place.invariant
          ∙ ap (own_places own 0) c.imports-import-items.ensures;
    }
