use Rattle.glue_context.proofs.Edited.{edits_fit}
use Rattle.glue_context.proofs.edits.edits_of.Goals as goal

pub returns-clause-fit : goal.returns-clause-fit
returns-clause-fit g c =
    rw (c.in_ok-imports.ensures.moves, c.in_ok-exports.ensures.added, c.in_ok-shim.ensures.global, c.has_start.ensures.test) (edits_fit c.args.settings.now c.args.lowered.now)
