use Rattle.std.proofs.Common.{◌≡◌, drop}
use Rattle.glue_faults.specs.First.{first_of}
use Rattle.glue_published.specs.Named.{bad_class}
use Rattle.glue_published.proofs.named.first_bad_class.Given as goal

abbrev pub invariant-loop-class : goal.invariant-loop-class
invariant-loop-class l = first_of bad_class (drop l.class-index l.classes) ≡ first_of bad_class l.classes
