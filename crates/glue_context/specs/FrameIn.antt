-- What the frame goes by, read off the module that is written.
use Rattle.std.specs.Prelude.{ℕ, Bool, false, not, ◌&&◌, ◌||◌, is_some, List, [], ◌∷◌, map, take, Option, Some, None, if◌then◌else◌}
use Rattle.std.specs.List.{flat_map, list_any}
use Rattle.std.specs.Str.{bytes_eq}
use Rattle.wasm_core.specs.Contents.{Contents}
use Rattle.wasm_core.specs.declared.types.Import.{Import}
use Rattle.wasm_core.specs.declared.types.ImportKind.{ImportKind}
use Rattle.wasm_core.specs.declared.types.ImportKind.TheVariants as kinds
use Rattle.wasm_core.specs.declared.types.Memory.{Memory}
use Rattle.claimed_modules.specs.Modules.{glue_module}
use Rattle.glue_steps.specs.Resolving.{entry_at}
use Rattle.glue_targets.specs.Targets.{Frame}
use Rattle.glue_context.specs.Foreign.{path_of, is_strings, is_string_import}

-- what an import brings in is the first memory that stands
abbrev pub is_first_memory : List (Option Memory) → ImportKind → Bool
is_first_memory memories (kinds.Memory id) = is_some (entry_at memories id.0) && not (list_any is_some (take id.0 memories))
is_first_memory memories other = false

-- an import stands, comes from this module, and brings in the first memory
abbrev pub is_memory_of : List ℕ → List (Option Memory) → Option Import → Bool
is_memory_of own memories None = false
is_memory_of own memories (Some i) = bytes_eq i.«module» own && is_first_memory memories i.kind

-- the module of an import that stands, where it is neither this one nor that of string constants
abbrev pub foreign_path : List ℕ → Option (List ℕ) → List (List ℕ)
foreign_path own None = []
foreign_path own (Some path) = if bytes_eq path own || is_strings path then [] else path ∷ []

-- What the frame goes by for a module whose own imports come from the glue file's module: whether one of them brings in the first memory, the
-- modules of the other imports but for string constants, one for each import, in their order, and whether string constants are imported.
abbrev pub frame_in : List ℕ → Contents → Frame
frame_in stem m = record {
  memory = list_any (is_memory_of (glue_module stem) m.memories) m.imports;
  modules = flat_map (foreign_path (glue_module stem)) (map path_of m.imports);
  strings = list_any is_string_import (map path_of m.imports);
}
