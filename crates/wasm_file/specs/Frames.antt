-- The frames of a file's sections: id, length and, of a custom section, its name. What else is in them isn't read.
use Rattle.std.specs.Prelude.{ℕ, List, [], ◌∷◌, ◌++◌, length, Option, Some, None, Result, Ok, nat_le, ◌==◌, if◌then◌else◌}
use Rattle.wasm_bytes.specs.Reading.{Input, followed, ◌>>=◌, pure, byte, allowed, frame, until_end, value_of}
use Rattle.wasm_bytes.specs.Numbers.{number32}
use Rattle.wasm_bytes.specs.Items.{name, exactly}
use Rattle.wasm_file.specs.declared.entries.Section.{Section}

-- these bytes, each an item
unfoldable pub preamble_of : List ℕ → Input → Result (Unit {0} × Input) ℕ
preamble_of [] = pure tt
preamble_of (b ∷ bs) = do
  _ ← exactly b
  preamble_of bs

-- the magic bytes and the version
abbrev pub preamble_bytes : List ℕ
preamble_bytes = 0x00 ∷ 0x61 ∷ 0x73 ∷ 0x6D ∷ 0x01 ∷ 0x00 ∷ 0x00 ∷ 0x00 ∷ []

unfoldable pub preamble : Input → Result (Unit {0} × Input) ℕ
preamble = preamble_of preamble_bytes

-- the name of a custom section, none of another
unfoldable pub frame_name : ℕ → Input → Result (Option (List ℕ) × Input) ℕ
frame_name id = if id == 0 then (do
  n ← name
  pure (Some n)) else pure None

-- what is found in a frame, while what is after it stands
abbrev pub inside_of : {A : Type 0} → Input → (Input → Result (A × Input) ℕ) → Input → Result (A × Input) ℕ
inside_of inside content s = followed (content inside) (λ x _. Ok (x, s))

-- the place of the next byte
abbrev pub here : Input → Result (ℕ × Input) ℕ
here s = Ok (s.place, s)

-- one section
unfoldable pub section_frame : Input → Result (Section × Input) ℕ
section_frame = do
  begin ← here
  id ← allowed (λ b. nat_le b 13) byte
  len ← number32
  inside ← frame len
  n ← inside_of inside (frame_name id)
  end ← here
  pure (record { id = id; name = n; begin = begin; end = end })

-- one more section
unfoldable pub next_frame : List Section → Input → Result (List Section × Input) ℕ
next_frame found = do
  f ← section_frame
  pure (found ++ f ∷ [])

-- the preamble, and sections up to the end
unfoldable pub all_frames : Input → Result (List Section × Input) ℕ
all_frames = do
  _ ← preamble
  (λ s. until_end (length s.bytes) next_frame [] s)

-- the sections of a file in order, or the place of the first fault
unfoldable pub frames_of : List ℕ → Result (List Section) ℕ
frames_of bytes = value_of (all_frames (record { place = 0; bytes = bytes }))
