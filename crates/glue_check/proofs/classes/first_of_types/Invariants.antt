use Rattle.std.proofs.Common.{◌≡◌, drop}
use Rattle.glue_faults.specs.First.{first_of}
use Rattle.glue_check.specs.Classes.{unknown_type}
use Rattle.glue_check.proofs.classes.first_of_types.Given as goal

abbrev pub invariant-loop-ty : goal.invariant-loop-ty
invariant-loop-ty l = first_of (unknown_type l.classes) (drop l.ty-index l.types) ≡ first_of (unknown_type l.classes) l.types
