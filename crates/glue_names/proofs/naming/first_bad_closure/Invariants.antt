use Rattle.std.proofs.Common.{◌≡◌, drop}
use Rattle.glue_faults.specs.First.{first_of}
use Rattle.glue_names.specs.Naming.{bad_closure}
use Rattle.glue_names.proofs.naming.first_bad_closure.Given as goal

abbrev pub invariant-loop-pair : goal.invariant-loop-pair
invariant-loop-pair l = first_of (bad_closure l.«module») (drop l.pair-index l.pairs) ≡ first_of (bad_closure l.«module») l.pairs
