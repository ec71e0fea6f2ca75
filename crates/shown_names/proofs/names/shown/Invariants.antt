use Rattle.std.proofs.Common.{◌≡◌, ◌∷◌}
use Rattle.std.specs.String.{string_bytes}
use Rattle.std.specs.List.{flat_map}
use Rattle.shown_names.specs.Shown.{shown_char}
use Rattle.shown_names.proofs.names.shown.Given as goal

abbrev pub invariant-loop-ch : goal.invariant-loop-ch
invariant-loop-ch l = string_bytes l.out ≡ 34 ∷ flat_map shown_char l.yielded
