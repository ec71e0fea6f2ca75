use Rattle.std.proofs.Common.{◌≡◌, ◌++◌, take}
use Rattle.glue_words.specs.Functions.{further_parameters}
use Rattle.glue_tree.proofs.spelling.push_other_params.Given as goal

abbrev pub invariant-loop-name : goal.invariant-loop-name
invariant-loop-name l = l.words ≡ l.initial.words ++ further_parameters (take l.name-index l.names)
