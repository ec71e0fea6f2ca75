use Rattle.std.proofs.Common.{◌≡◌, drop}
use Rattle.glue_faults.specs.First.{first_of}
use Rattle.glue_check.specs.Missing.{part_lacked}
use Rattle.glue_check.proofs.missing.first_part.Given as goal

abbrev pub invariant-loop-part : goal.invariant-loop-part
invariant-loop-part l = first_of (part_lacked l.lowered l.code) (drop l.part-index l.parts) ≡ first_of (part_lacked l.lowered l.code) l.parts
