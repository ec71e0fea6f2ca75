-- The file that a module is written as, and what is left of it without debugging information.
use Rattle.std.specs.Prelude.{◌≡◌, ℕ, not, true, List, [], ◌∷◌, ◌++◌, map, codes, None}
use Rattle.std.specs.List.{All, filter, flat_map}
use Rattle.std.specs.Str.{is_utf8}
use Rattle.wasm_bytes.specs.Spelling.{name_bytes}
use Rattle.wasm_file.specs.Frames.{preamble_bytes}
use Rattle.wasm_file.specs.Spelling.{section_bytes, first_sections, middle_sections, last_sections, custom_section}
use Rattle.wasm_file.specs.declared.entries.Custom.{Custom}
use Rattle.wasm_file.specs.declared.entries.Parts.{Parts}
use Rattle.wasm_file.specs.declared.entries.Section.{Section}
use Rattle.wasm_core.specs.Contents.{Contents}
use Rattle.wasm_emission.specs.Emission.{filed, too_large}
use Rattle.wasm_sections.specs.Replaced.{is_debug_name}
use Rattle.wasm_sections_laws.specs.Framed.{NamedSection, without_name, with_name, frames_from}

-- no section is too long to be written, and the names of custom ones are UTF-8
pub record IsWritable (m : Contents) : Type 0 where
  pub short : too_large m ≡ None
  pub texts : All (λ (c : Custom). is_utf8 c.name ≡ true) m.customs

-- the sections that aren't custom
abbrev pub core_sections : Parts → List (ℕ × List ℕ)
core_sections p = first_sections p ++ (middle_sections p ++ last_sections p)

-- the sections of a module's file with their names
abbrev pub named_sections : Contents → List NamedSection
named_sections m = map without_name (core_sections (filed m)) ++ map with_name (filed m).customs

-- the frames of a module's file: they begin behind the preamble
unfoldable pub module_frames : Contents → List Section
module_frames m = frames_from 8 (named_sections m)

-- the custom section that tells the address of debugging information
abbrev pub linked : List ℕ → Custom
linked url = record { name = codes "external_debug_info"; bytes = name_bytes url }

-- the sections of a module's file without debugging information, which is told to be at this address
unfoldable pub split_sections : List ℕ → Contents → List (ℕ × List ℕ)
split_sections url m = core_sections (filed m) ++ map custom_section (filter (λ c. not (is_debug_name c.name)) (filed m).customs ++ linked url ∷ [])

-- the file of these sections
unfoldable pub split_bytes : List ℕ → Contents → List ℕ
split_bytes url m = preamble_bytes ++ flat_map section_bytes (split_sections url m)
