use Rattle.std.proofs.Common.{◌≡◌, ◌++◌}
use Rattle.std.specs.Prelude.{map}
use Rattle.std.specs.List.{flat_map}
use Rattle.glue_scope.specs.Properties.{segment_words}
use Rattle.glue_scope.proofs.property.push_parts.Given as goal

-- the words so far access the parts that were passed
abbrev pub invariant-loop-segment : goal.invariant-loop-segment
invariant-loop-segment l = l.words.items ≡ l.initial.words.items ++ flat_map segment_words (map (λ x. x.now) l.yielded)
