use Rattle.std.proofs.Common.{◌≡◌, drop}
use Rattle.glue_faults.specs.First.{first_of}
use Rattle.claimed_modules.specs.Modules.{reserved_in}
use Rattle.claimed_modules.proofs.modules.first_reexport.Given as goal

abbrev pub invariant-loop-entry : goal.invariant-loop-entry
invariant-loop-entry l = first_of (λ r. reserved_in r.1.name) (drop l.entry-index l.entries) ≡ first_of (λ r. reserved_in r.1.name) l.entries
