use Rattle.std.proofs.Common.{◌≡◌, ◌∷◌}
use Rattle.std.specs.String.{string_bytes}
use Rattle.std.specs.List.{flat_map}
use Rattle.glue_words.specs.Literal.{escaped_char}
use Rattle.glue_words.proofs.literal.js_string_literal.Given as goal

abbrev pub invariant-loop-ch : goal.invariant-loop-ch
invariant-loop-ch l = string_bytes l.out ≡ 34 ∷ flat_map escaped_char l.yielded
