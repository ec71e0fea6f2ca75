use Rattle.std.proofs.Common.{◌≡◌, drop}
use Rattle.glue_faults.specs.First.{first_of}
use Rattle.glue_check.specs.Links.{unembedded}
use Rattle.glue_check.proofs.links.first_unembedded.Given as goal

abbrev pub invariant-loop-entry : goal.invariant-loop-entry
invariant-loop-entry l = first_of (unembedded l.split) (drop l.entry-index l.entries) ≡ first_of (unembedded l.split) l.entries
