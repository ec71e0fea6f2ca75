-- Reading from left to right: a value and what is left, or the place of the first fault.
use Rattle.std.specs.Prelude.{ℕ, zero, suc, ◌+◌, Bool, List, [], ◌∷◌, length, take, drop, Option, Some, None, Result, Ok, Err, nat_lt, ◌==◌, if◌then◌else◌}

-- What is left up to the end of the module, section or body that is being read, and the offset at which it begins.
pub record Input : Type 0 where
  pub place : ℕ
  pub bytes : List ℕ

-- A value and what is left after it, or the offset of the fault.
abbrev pub followed : {A B : Type 0} → Result (A × Input) ℕ → (A → Input → Result (B × Input) ℕ) → Result (B × Input) ℕ
followed (Ok x) f = f x.0 x.1
followed (Err place) f = Err place

infixl 10 ◌>>=◌
abbrev pub ◌>>=◌ : {A B : Type 0} → (Input → Result (A × Input) ℕ) → (A → Input → Result (B × Input) ℕ) → Input → Result (B × Input) ℕ
(r >>= f) s = followed (r s) f

abbrev pub pure : {A : Type 0} → A → Input → Result (A × Input) ℕ
pure x s = Ok (x, s)

abbrev pub fault : {A : Type 0} → ℕ → Input → Result (A × Input) ℕ
fault place s = Err place

-- the offset at which the bytes end
abbrev pub end_of : Input → ℕ
end_of s = s.place + length s.bytes

-- n bytes further
abbrev pub advanced : ℕ → Input → Input
advanced n s = record { place = s.place + n; bytes = drop n s.bytes }

abbrev pub first_of : ℕ → List ℕ → Result (ℕ × Input) ℕ
first_of place [] = Err place
first_of place (b ∷ bytes) = Ok (b, record { place = place + 1; bytes = bytes })

-- one byte
abbrev pub byte : Input → Result (ℕ × Input) ℕ
byte s = first_of s.place s.bytes

-- n raw bytes, one item
abbrev pub raw : ℕ → Input → Result (List ℕ × Input) ℕ
raw n s = if nat_lt (length s.bytes) n then Err (end_of s) else Ok (take n s.bytes, advanced n s)

-- an item whose value is allowed by a test, else a fault at the item's first byte
abbrev pub allowed : {A : Type 0} → (A → Bool) → (Input → Result (A × Input) ℕ) → Input → Result (A × Input) ℕ
allowed test item s = followed (item s) (λ x rest. if test x then Ok (x, rest) else Err s.place)

-- nothing is left over
abbrev pub nothing_at : ℕ → List ℕ → Result (Unit {0} × Input) ℕ
nothing_at place [] = Ok (tt, record { place = place; bytes = [] })
nothing_at place (b ∷ bytes) = Err place

abbrev pub nothing_left : Input → Result (Unit {0} × Input) ℕ
nothing_left s = nothing_at s.place s.bytes

-- the next n bytes, to be read by themselves
abbrev pub frame : ℕ → Input → Result (Input × Input) ℕ
frame n s = if nat_lt (length s.bytes) n then Err (end_of s) else Ok (record { place = s.place; bytes = take n s.bytes }, advanced n s)

-- content that uses up its bytes, while what is after them stands
abbrev pub within : {A : Type 0} → Input → (Input → Result (A × Input) ℕ) → Input → Result (A × Input) ℕ
within inside content s = followed (content inside) (λ x rest. followed (nothing_left rest) (λ _ _. Ok (x, s)))

-- content of that many bytes, used up exactly
abbrev pub framed : {A : Type 0} → ℕ → (Input → Result (A × Input) ℕ) → Input → Result (A × Input) ℕ
framed n content = do
  inside ← frame n
  within inside content

-- the next n bytes, as far as they are there, to be read by themselves
abbrev pub part : ℕ → Input → Input
part n s = record { place = s.place; bytes = take n s.bytes }

-- Like framed, but read from left to right as far as the bytes are there: that some are missing is found behind the content.
abbrev pub filled : {A : Type 0} → ℕ → (Input → Result (A × Input) ℕ) → Input → Result (A × Input) ℕ
filled n content s = followed (content (part n s)) (λ x rest. followed (nothing_left rest) (λ _ _. followed (frame n s) (λ _ after. Ok (x, after))))

-- so many entries, one after another
unfoldable pub entries : {A : Type 0} → ℕ → (Input → Result (A × Input) ℕ) → Input → Result (List A × Input) ℕ
entries zero entry = pure []
entries (suc n) entry = do
  x ← entry
  xs ← entries n entry
  pure (x ∷ xs)

abbrev pub or_fault : {A : Type 0} → Option A → Input → ℕ → Result (A × Input) ℕ
or_fault (Some x) rest place = Ok (x, rest)
or_fault None rest place = Err place

-- an item that stands for something, else a fault at the item's first byte
abbrev pub meant : {A B : Type 0} → (A → Option B) → (Input → Result (A × Input) ℕ) → Input → Result (B × Input) ℕ
meant meaning item s = followed (item s) (λ x rest. or_fault (meaning x) rest s.place)

-- all that is left, one item
abbrev pub remaining : Input → Result (List ℕ × Input) ℕ
remaining s = Ok (s.bytes, record { place = end_of s; bytes = [] })

-- up to the end of the bytes, step by step, at most so many
unfoldable pub until_end : {A : Type 0} → ℕ → (A → Input → Result (A × Input) ℕ) → A → Input → Result (A × Input) ℕ
until_end zero step x s = Ok (x, s)
until_end (suc n) step x s = if length s.bytes == 0 then Ok (x, s) else followed (step x s) (until_end n step)

-- an entry before the others, none ends them
abbrev pub gathered : {A : Type 0} → Option A → (Input → Result (List A × Input) ℕ) → Input → Result (List A × Input) ℕ
gathered None others s = Ok ([], s)
gathered (Some x) others s = followed (others s) (λ xs rest. Ok (x ∷ xs, rest))

-- Entries up to the first step that gives none, at most so many. Each step sees a state and leaves one.
unfoldable pub collected : {A S : Type 0} → ℕ → (S → Input → Result ((Option A × S) × Input) ℕ) → S → Input → Result (List A × Input) ℕ
collected zero step state s = Err (end_of s)
collected (suc n) step state s = followed (step state s) (λ found. gathered found.0 (collected n step found.1))

-- an entry for each of these, one after another
unfoldable pub for_each : {A B : Type 0} → List A → (A → Input → Result (B × Input) ℕ) → Input → Result (List B × Input) ℕ
for_each [] entry = pure []
for_each (x ∷ xs) entry = do
  y ← entry x
  ys ← for_each xs entry
  pure (y ∷ ys)

-- the value alone
abbrev pub value_of : {A : Type 0} → Result (A × Input) ℕ → Result A ℕ
value_of (Ok x) = Ok x.0
value_of (Err place) = Err place
