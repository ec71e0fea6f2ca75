use Rattle.std.proofs.Common.{◌≡◌, drop}
use Rattle.glue_faults.specs.First.{first_of}
use Rattle.glue_names.specs.Taken.{taken_in}
use Rattle.glue_names.proofs.naming.first_taken.Given as goal

abbrev pub invariant-loop-name : goal.invariant-loop-name
invariant-loop-name g l =
    let found = taken_in (g.N.Names.bound l.taken) (g.N.Names.bound l.given) in first_of found (drop l.name-index l.described) ≡ first_of found l.described
