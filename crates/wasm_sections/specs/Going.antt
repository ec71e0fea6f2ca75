-- Which custom sections the code is asked to leave out.
use Rattle.std.specs.Prelude.{ℕ, Bool, List}
use Rattle.wasm_sections.specs.Replaced.{is_debug_name, is_description_name}
use Rattle.wasm_sections.specs.declared.going.Going.{Going}
use Rattle.wasm_sections.specs.declared.going.Going.TheVariants as which

-- those of debugging information, or the description
abbrev pub is_going : Going → List ℕ → Bool
is_going which.DebugInfo = is_debug_name
is_going which.Description = is_description_name
