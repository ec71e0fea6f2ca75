-- The frames of sections that stand one behind another.
use Rattle.std.specs.Prelude.{ℕ, ◌+◌, List, [], ◌∷◌, length, Option, Some, None}
use Rattle.wasm_file.specs.Spelling.{custom_section, section_bytes}
use Rattle.wasm_file.specs.declared.entries.Custom.{Custom}
use Rattle.wasm_file.specs.declared.entries.Section.{Section}

-- the id and the content of a section, and the name of a custom one
abbrev pub NamedSection : Type 0
NamedSection = (ℕ × List ℕ) × Option (List ℕ)

abbrev pub without_name : ℕ × List ℕ → NamedSection
without_name s = (s, None)

abbrev pub with_name : Custom → NamedSection
with_name c = (custom_section c, Some c.name)

-- its bytes
abbrev pub named_bytes : NamedSection → List ℕ
named_bytes x = section_bytes x.0

-- the frame of a section that begins at a place
abbrev pub frame_at : ℕ → NamedSection → Section
frame_at place x = record { id = x.0.0; name = x.1; begin = place; end = place + length (named_bytes x) }

-- the frames of sections from a place on
unfoldable pub frames_from : ℕ → List NamedSection → List Section
frames_from place [] = []
frames_from place (x ∷ xs) = frame_at place x ∷ frames_from (place + length (named_bytes x)) xs
