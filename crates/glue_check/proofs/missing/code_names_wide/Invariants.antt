use Rattle.std.proofs.Common.{◌≡◌, drop}
use Rattle.std.specs.List.{list_any}
use Rattle.glue_check.specs.Missing.{names_wide}
use Rattle.glue_check.proofs.missing.code_names_wide.Given as goal

abbrev pub invariant-loop-instruction : goal.invariant-loop-instruction
invariant-loop-instruction l = list_any (names_wide l.lowered) (drop l.instruction-index l.code) ≡ list_any (names_wide l.lowered) l.code
