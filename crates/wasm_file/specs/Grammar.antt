-- The grammar of a file.
use Rattle.std.specs.Prelude.{ℕ, Bool, ◌&&◌, ◌||◌, List, length, Result, Ok, Err, nat_lt, ◌==◌, if◌then◌else◌}
use Rattle.wasm_bytes.specs.Reading.{Input, ◌>>=◌, pure, byte, allowed, filled, nothing_left, until_end, end_of, value_of}
use Rattle.wasm_bytes.specs.Numbers.{number32}
use Rattle.wasm_file.specs.Frames.{preamble}
use Rattle.wasm_file.specs.Parts.{no_parts}
use Rattle.wasm_file.specs.Sections.{content, is_told}
use Rattle.wasm_file.specs.declared.entries.Parts.{Parts}

-- the lists so far, and the place of the last section in the order of sections
pub record Progress : Type 0 where
  pub rank : ℕ
  pub parts : Parts

-- before the first section
abbrev pub at_start : Progress
at_start = record { rank = 0; parts = no_parts }

-- The place of a section in the order of sections: types, imports, functions, tables, memories, tags, globals, exports, the
-- start function, element segments, the data count, code, data segments. 0 where a section has none.
abbrev pub rank_of : ℕ → ℕ
rank_of id =
    if id == 1 then 1 else
    if id == 2 then 2 else
    if id == 3 then 3 else
    if id == 4 then 4 else
    if id == 5 then 5 else
    if id == 13 then 6 else
    if id == 6 then 7 else
    if id == 7 then 8 else
    if id == 8 then 9 else
    if id == 9 then 10 else
    if id == 12 then 11 else
    if id == 10 then 12 else
    if id == 11 then 13 else 0

-- a custom section may come anywhere, another behind those of lower places
abbrev pub may_come : ℕ → ℕ → Bool
may_come rank id = (id == 0) || nat_lt rank (rank_of id)

-- the place of the last section that isn't a custom one
abbrev pub rank_after : ℕ → ℕ → ℕ
rank_after rank id = if id == 0 then rank else rank_of id

-- a section in its place, whose content is used up exactly
unfoldable pub «section» : Progress → Input → Result (Progress × Input) ℕ
«section» m = do
  id ← allowed (may_come m.rank) byte
  len ← number32
  p ← filled len (content id m.parts)
  pure (record { rank = rank_after m.rank id; parts = p })

-- sections up to the end
unfoldable pub all_sections : Input → Result (Progress × Input) ℕ
all_sections s = until_end (length s.bytes) «section» at_start s

-- each function has a body, and there are as many segments as are told
abbrev pub is_complete : Parts → Bool
is_complete p = (length p.functions == length p.bodies) && is_told p.data_count (length p.segments)

-- a file is its preamble and its sections, and nothing else
unfoldable pub whole : Input → Result (Parts × Input) ℕ
whole = do
  _ ← preamble
  m ← all_sections
  _ ← nothing_left
  (λ s. if is_complete m.parts then Ok (m.parts, s) else Err (end_of s))

-- the lists of a file, or the place of the first fault
unfoldable pub parts_of : List ℕ → Result Parts ℕ
parts_of bytes = value_of (whole (record { place = 0; bytes = bytes }))
