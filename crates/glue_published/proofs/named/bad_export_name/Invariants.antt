use Rattle.std.proofs.Common.{◌≡◌, drop}
use Rattle.glue_faults.specs.First.{first_of}
use Rattle.glue_published.specs.Named.{bad_export}
use Rattle.glue_published.proofs.named.bad_export_name.Given as goal

abbrev pub invariant-loop-export : goal.invariant-loop-export
invariant-loop-export l = first_of bad_export (drop l.export-index l.exports) ≡ first_of bad_export l.exports
