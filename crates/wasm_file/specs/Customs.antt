-- The custom sections whose content is read.
use Rattle.std.specs.Prelude.{ℕ, nat_eq, ◌+◌, Bool, true, false, ◌&&◌, ◌||◌, List, [], ◌∷◌, Option, Some, None, Result, Ok, Err, nat_le, ◌==◌, length, if◌then◌else◌}
use Rattle.std.specs.List.{list_any}
use Rattle.std.specs.Cmp.Lexicographic.{pointwise}
use Rattle.wasm_bytes.specs.Reading.{Input, followed, ◌>>=◌, pure, byte, allowed, frame, within, remaining, nothing_left, entries, until_end}
use Rattle.wasm_bytes.specs.Numbers.{number32}
use Rattle.wasm_bytes.specs.Items.{name, index}
use Rattle.wasm_types.specs.declared.ids.FuncId.{FuncId}
use Rattle.wasm_file.specs.declared.customs.Subsections.{Subsections}
use Rattle.wasm_file.specs.declared.entries.Names.{Names}
use Rattle.wasm_file.specs.declared.entries.ProducerField.{ProducerField}
use Rattle.wasm_file.specs.declared.entries.ProducerValue.{ProducerValue}

-- the value that is read, none where there is a fault
abbrev pub value_in : {A : Type 0} → Result (A × Input) ℕ → Option A
value_in (Ok x) = Some x.0
value_in (Err place) = None

-- content that is used up
abbrev pub used_up : {A : Type 0} → (Input → Result (A × Input) ℕ) → Input → Result (A × Input) ℕ
used_up content = do
  x ← content
  _ ← nothing_left
  pure x

-- what bytes hold, none where they don't read as content or aren't used up
abbrev pub held_by : {A : Type 0} → (Input → Result (A × Input) ℕ) → List ℕ → Option A
held_by content bytes = value_in (used_up content (record { place = 0; bytes = bytes }))

-- ---- names

-- a function, one of so many, and its name
unfoldable pub func_name : ℕ → Input → Result ((FuncId × List ℕ) × Input) ℕ
func_name funcs = do
  i ← index funcs
  n ← name
  pure (record { 0 = i }, n)

-- each function is greater than those before it, the first at least this
abbrev pub rise_from : ℕ → List (FuncId × List ℕ) → Bool
rise_from least [] = true
rise_from least (x ∷ xs) = nat_le least x.0.0 && rise_from (x.0.0 + 1) xs

-- names of functions, each function greater than those before it
unfoldable pub func_names : ℕ → Input → Result (List (FuncId × List ℕ) × Input) ℕ
func_names funcs = allowed (rise_from 0) (do
  n ← number32
  entries n (func_name funcs))

-- the names with those of a subsection: 0 holds the module's, 1 those of functions; another isn't read
unfoldable pub subsection_names : ℕ → ℕ → Names → Input → Result (Names × Input) ℕ
subsection_names id funcs names =
    if id == 0 then (do
      n ← name
      pure (record names { «module» = Some n })) else
    if id == 1 then (do
      xs ← func_names funcs
      pure (record names { funcs = xs })) else (do
        _ ← remaining
        pure names)

-- a subsection, whose id is greater than those before it
unfoldable pub subsection : Subsections → Input → Result (Subsections × Input) ℕ
subsection m = do
  id ← allowed (λ id. nat_le m.next id) byte
  len ← number32
  inside ← frame len
  names ← within inside (subsection_names id m.limit m.names)
  pure (record m { next = id + 1; names = names })

-- before the first subsection
abbrev pub no_names : Names
no_names = record { «module» = None; funcs = [] }

-- subsections up to the end, in a file of so many functions
unfoldable pub all_names : ℕ → Input → Result (Names × Input) ℕ
all_names funcs = do
  m ← (λ s. until_end (length s.bytes) subsection (record { limit = funcs; next = 0; names = no_names }) s)
  pure m.names

-- the names that a name section gives, where it reads in a file of so many functions
unfoldable pub names_of : ℕ → List ℕ → Option Names
names_of funcs bytes = held_by (all_names funcs) bytes

-- ---- producers

-- a name and a version
unfoldable pub producer_value : Input → Result (ProducerValue × Input) ℕ
producer_value = do
  n ← name
  version ← name
  pure (record { name = n; version = version })

-- the name of a field and its list
unfoldable pub producer_field : Input → Result (ProducerField × Input) ℕ
producer_field = do
  n ← name
  count ← number32
  xs ← entries count producer_value
  pure (record { name = n; values = xs })

-- a list of fields
unfoldable pub producers : Input → Result (List ProducerField × Input) ℕ
producers = do
  n ← number32
  entries n producer_field

-- the fields of a producers section, where it reads
unfoldable pub producers_of : List ℕ → Option (List ProducerField)
producers_of bytes = held_by producers bytes

-- ---- target features

-- two texts are one
abbrev pub is_same_text : List ℕ → List ℕ → Bool
is_same_text a b = pointwise nat_eq a b

-- an entry, a byte and a name: whether it has a plus and this name
unfoldable pub is_plus : List ℕ → Input → Result (Bool × Input) ℕ
is_plus wanted = do
  prefix ← byte
  n ← name
  pure ((prefix == 0x2B) && is_same_text n wanted)

-- the same of each entry of a list
unfoldable pub pluses : List ℕ → Input → Result (List Bool × Input) ℕ
pluses wanted = do
  n ← number32
  entries n (is_plus wanted)

-- one of them is true
abbrev pub is_any : List Bool → Bool
is_any marks = list_any (λ b. b) marks

-- one of those that are read is true, or one stood before
abbrev pub with_any : Bool → Result (List Bool × Input) ℕ → Result (Bool × Input) ℕ
with_any found read = followed read (λ marks rest. Ok (found || is_any marks, rest))

-- the same of a list that may not read
abbrev pub is_any_of : Option (List Bool) → Bool
is_any_of (Some marks) = is_any marks
is_any_of None = false

-- whether a section of target features reads, and lists this one with a plus
unfoldable pub lists_feature : List ℕ → List ℕ → Bool
lists_feature bytes wanted = is_any_of (held_by (pluses wanted) bytes)
