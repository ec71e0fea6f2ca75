use Rattle.std.proofs.Common.{◌≡◌, take, option_map}
use Rattle.glue_lower.specs.Lowering.{glue_sections, listed}
use Rattle.glue_lower.proofs.lowering.glue_section.Given as goal

abbrev pub invariant-loop-custom : goal.invariant-loop-custom
invariant-loop-custom l = glue_sections (take l.custom-index l.customs) ≡ listed (option_map (λ c. c.now) l.found)
