-- The numbers that a module's entries have in the file that is written.
use Rattle.std.specs.Prelude.{ℕ, ◌+◌, Bool, false, not, List, map, take, count_by, Option, Some, None, is_some, if◌then◌else◌}
use Rattle.std.specs.List.{enumerate_from}
use Rattle.wasm_ops.specs.declared.ops.Numbering.{Numbering}
use Rattle.wasm_emission.specs.declared.numbering.Next.{Next}
use Rattle.wasm_core.specs.Contents.{Contents}

-- a live entry that passes the test
abbrev pub is_first : {A : Type 0} → (A → Bool) → Option A → Bool
is_first test (Some x) = test x
is_first test None = false

-- a live entry that doesn't pass it
abbrev pub is_other : {A : Type 0} → (A → Bool) → Option A → Bool
is_other test (Some x) = not (test x)
is_other test None = false

-- The number of a place. Live entries that pass the test stand first, in order, and after them the other live ones.
abbrev pub number_of : {A : Type 0} → (A → Bool) → List (Option A) → ℕ × Option A → ℕ
number_of test xs p =
    if is_first test p.1 then count_by (is_first test) (take p.0 xs)
    else count_by (is_first test) xs + count_by (is_other test) (take p.0 xs)

-- the number of each place
unfoldable pub numbers : {A : Type 0} → (A → Bool) → List (Option A) → List ℕ
numbers test xs = map (number_of test xs) (enumerate_from 0 xs)

-- no entry stands first: each has as its number how many live ones stand before it
abbrev pub never : {A : Type 0} → A → Bool
never x = false

-- Of the kinds that can be imported the imported ones stand first.
unfoldable pub numbering : Contents → Numbering
numbering m = record {
  types = numbers never m.types;
  funcs = numbers (λ f. is_some f.«import») m.funcs;
  tables = numbers (λ t. is_some t.«import») m.tables;
  memories = numbers (λ x. is_some x.«import») m.memories;
  globals = numbers (λ g. is_some g.«import») m.globals;
  tags = numbers (λ t. is_some t.«import») m.tags;
  elems = numbers never m.elems;
  segments = numbers never m.segments;
}

-- ---- numbering one entry after another

-- the next number of an entry: that of an imported one, or that of another
abbrev pub next_number : {A : Type 0} → (A → Bool) → Next → Option A → ℕ
next_number test next x = if is_first test x then next.imported else next.own

-- the next numbers after an entry
abbrev pub advanced : {A : Type 0} → (A → Bool) → Next → Option A → Next
advanced test next x = record {
  imported = next.imported + (if is_first test x then 1 else 0);
  own = next.own + (if is_other test x then 1 else 0);
}
