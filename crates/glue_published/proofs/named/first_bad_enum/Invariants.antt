use Rattle.std.proofs.Common.{◌≡◌, drop}
use Rattle.glue_faults.specs.First.{first_of}
use Rattle.glue_published.specs.Named.{bad_enum}
use Rattle.glue_published.proofs.named.first_bad_enum.Given as goal

abbrev pub invariant-loop-one : goal.invariant-loop-one
invariant-loop-one l = first_of bad_enum (drop l.one-index l.enums) ≡ first_of bad_enum l.enums
