use Rattle.std.proofs.Common.{◌≡◌, ◌++◌, take}
use Rattle.std.specs.List.{flat_map}
use Rattle.glue_targets.specs.RoleWords.{access_words}
use Rattle.glue_exports.proofs.statements.push_chain.Given as goal

abbrev pub invariant-loop-segment : goal.invariant-loop-segment
invariant-loop-segment l = l.words ≡ l.initial.words ++ flat_map access_words (take l.segment-index l.rest)
