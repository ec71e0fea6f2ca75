use Rattle.glue_context.proofs.Common.{◌≡◌, ◌++◌, take, filter_map}
use Rattle.glue_context.specs.Rewritten.{handed_move}
use Rattle.glue_context.proofs.edits.push_handed_on.Given as goal

abbrev pub invariant-loop-import : goal.invariant-loop-import
invariant-loop-import l = l.moves ≡ l.initial.moves ++ filter_map (handed_move l.«module».imports) (take l.import-index l.handed)
