use Rattle.std.proofs.Common.{◌≡◌, ◌+◌, ◌++◌, drop}
use Rattle.glue_targets.specs.Targets.{modules_words}
use Rattle.glue_targets.proofs.targets.other_modules.Given as goal

abbrev pub invariant-loop-place : goal.invariant-loop-place
invariant-loop-place l = l.words ++ modules_words (l.place + 1) (drop l.place l.modules) ≡ modules_words 1 l.modules
