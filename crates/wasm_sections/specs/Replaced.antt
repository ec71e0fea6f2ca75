-- A file without some of its custom sections, and with one at its end.
use Rattle.std.specs.Prelude.{ℕ, ◌≤◌, Bool, false, List, [], ◌++◌, codes, nat_eq, Option, Some, None, Result, Ok, Err, if◌then◌else◌}
use Rattle.std.specs.List.{flat_map, between, list_any, starts_with}
use Rattle.wasm_bytes.specs.Spelling.{name_bytes}
use Rattle.wasm_file.specs.Customs.{is_same_text}
use Rattle.wasm_file.specs.Frames.{preamble_bytes, frames_of}
use Rattle.wasm_file.specs.Spelling.{custom_section, section_bytes}
use Rattle.wasm_file.specs.declared.entries.Section.{Section}

-- ---- which sections go

-- the name of a section of debugging information: it begins so
abbrev pub is_debug_name : List ℕ → Bool
is_debug_name name = starts_with nat_eq name (codes ".debug_")

-- the name of the section of the description
abbrev pub is_description_name : List ℕ → Bool
is_description_name name = is_same_text name (codes "__wbg_glue")

-- there is a name, and it passes the test
abbrev pub passes : (List ℕ → Bool) → Option (List ℕ) → Bool
passes test (Some name) = test name
passes test None = false

-- a custom section whose name passes the test
abbrev pub is_custom : (List ℕ → Bool) → Section → Bool
is_custom test f = passes test f.name

-- ---- what is left

-- a frame ends behind its begin, and within so many bytes
abbrev pub IsInside : ℕ → Section → Type 0
IsInside len f = (f.begin ≤ f.end) × (f.end ≤ len)

-- the bytes of a section with its frame, none where it goes
abbrev pub kept_frame : (List ℕ → Bool) → List ℕ → Section → List ℕ
kept_frame goes wasm f = if is_custom goes f then [] else between f.begin f.end wasm

-- a custom section with its frame
unfoldable pub put_section : List ℕ → List ℕ → List ℕ
put_section name content = section_bytes (custom_section (record { name = name; bytes = content }))

-- The preamble, the sections that don't go, byte for byte and in order, and a custom section.
unfoldable pub replaced_frames : (List ℕ → Bool) → List ℕ → List ℕ → List ℕ → List Section → List ℕ
replaced_frames goes name content wasm frames = preamble_bytes ++ (flat_map (kept_frame goes wasm) frames ++ put_section name content)

-- what is made of a file's frames, or the place of the first fault
abbrev pub framed_as : {A : Type 0} → (List Section → A) → Result (List Section) ℕ → Result A ℕ
framed_as make (Ok frames) = Ok (make frames)
framed_as make (Err place) = Err place

-- a file without the sections that go, and with one of this name and content at its end
unfoldable pub replaced : (List ℕ → Bool) → List ℕ → List ℕ → List ℕ → Result (List ℕ) ℕ
replaced goes name content wasm = framed_as (replaced_frames goes name content wasm) (frames_of wasm)

-- ---- the two uses

-- without debugging information, which is told to be at this address
unfoldable pub split_debug_info : List ℕ → List ℕ → Result (List ℕ) ℕ
split_debug_info url wasm = replaced is_debug_name (codes "external_debug_info") (name_bytes url) wasm

-- with this description in place of earlier ones
unfoldable pub described : List ℕ → List ℕ → Result (List ℕ) ℕ
described description wasm = replaced is_description_name (codes "__wbg_glue") description wasm

-- a description stands in the file
unfoldable pub has_description : List ℕ → Result Bool ℕ
has_description wasm = framed_as (list_any (is_custom is_description_name)) (frames_of wasm)
