-- The section that a byte of a file lies in, in words (WebAssembly core specification, 5.5).
use Rattle.std.specs.Prelude.{ℕ, Bool, zero, suc, ◌-◌, nat_lt, ◌==◌, ◌||◌, List, [], ◌∷◌, ◌++◌, length, drop, codes, Result, Ok, Err, if◌then◌else◌}
use Rattle.std.specs.Fmt.{decimal}
use Rattle.wasm_bytes.specs.Reading.{Input, followed, part}
use Rattle.wasm_bytes.specs.Numbers.{number32}
use Rattle.wasm_bytes.specs.Items.{name}
use Rattle.shown_names.specs.Shown.{shown}

-- bytes that are read from their first one on
abbrev pub input : List ℕ → Input
input bytes = record { place = 0; bytes = bytes }

-- how many of so many bytes a section takes, whose length was read behind its id: all but what is left behind its content
abbrev pub size_by : ℕ → Result (ℕ × Input) ℕ → ℕ
size_by most (Ok x) = most - (length x.1.bytes - x.0)
size_by most (Err place) = most

-- How many bytes the section takes that these begin with: its id, its length and its content. It takes all, where its length can't be
-- read or is greater than what is there.
unfoldable pub size_of : List ℕ → ℕ
size_of bytes = size_by (length bytes) (number32 (input (drop 1 bytes)))

-- a place so far on lies in the section that these bytes begin with, or there is none
abbrev pub is_there : ℕ → List ℕ → Bool
is_there left bytes = (length bytes == 0) || nat_lt left (size_of bytes)

-- the section that these bytes begin with, where it ends at a place so far on
abbrev pub ended_at : ℕ → List ℕ → List ℕ
ended_at left bytes = if left == size_of bytes then bytes else []

-- The bytes from the section on that ends at a place so far on, and from the one on that the place lies in; none where there is no such
-- section. The first begins with what ends where the second begins. At most so many sections are passed.
unfoldable pub around : ℕ → ℕ → List ℕ → List ℕ → List ℕ × List ℕ
around zero left before rest = (before, rest)
around (suc n) left before rest =
    if is_there left rest then (before, rest)
    else around n (left - size_of rest) (ended_at left rest) (drop (size_of rest) rest)

-- what stands in the sections with this id
unfoldable pub kind : ℕ → List ℕ
kind id =
    if id == 0 then codes "custom"
    else (if id == 1 then codes "types"
    else (if id == 2 then codes "imports"
    else (if id == 3 then codes "functions"
    else (if id == 4 then codes "tables"
    else (if id == 5 then codes "memories"
    else (if id == 6 then codes "globals"
    else (if id == 7 then codes "exports"
    else (if id == 8 then codes "start"
    else (if id == 9 then codes "elements"
    else (if id == 10 then codes "code"
    else (if id == 11 then codes "data"
    else (if id == 12 then codes "data count"
    else (if id == 13 then codes "tags"
    else codes "unknown")))))))))))))

-- the name of a custom section, which its content begins with, read behind the section's id
abbrev pub custom_name : List ℕ → Result (List ℕ × Input) ℕ
custom_name bytes = followed (number32 (input bytes)) (λ n content. name (part n content))

-- a name, where it could be read
abbrev pub name_words : Result (List ℕ × Input) ℕ → List ℕ
name_words (Ok x) = codes " " ++ shown x.0
name_words (Err place) = []

abbrev pub custom_words : ℕ → List ℕ → List ℕ
custom_words id bytes = if id == 0 then name_words (custom_name bytes) else []

-- The section that these bytes begin with: its id, what stands in it, and the name of a custom one.
unfoldable pub section : List ℕ → List ℕ
section [] = []
section (id ∷ bytes) = codes "section " ++ (decimal id ++ (codes " (" ++ (kind id ++ (custom_words id bytes ++ codes ")"))))

-- what ends and what goes on at a place, each as the bytes from its section on
abbrev pub lying : List ℕ → List ℕ → List ℕ
lying [] [] = codes ", behind the last section"
lying [] (b ∷ rest) = codes ", in " ++ section (b ∷ rest)
lying (b ∷ before) [] = codes ", at the end of " ++ section (b ∷ before)
lying (b ∷ before) (c ∷ rest) = codes ", between " ++ (section (b ∷ before) ++ (codes " and " ++ section (c ∷ rest)))

-- where a byte of a file lies: in the eight bytes of the preamble, or in a section
unfoldable pub section_words : List ℕ → ℕ → List ℕ
section_words bytes place =
    if nat_lt place 8 then codes ", in the preamble"
    else (let found = around (length (drop 8 bytes)) (place - 8) [] (drop 8 bytes) in lying found.0 found.1)
