-- Scopes of names: sets of bound names, and the names that are drawn from them.
use Rattle.std.specs.Prelude.{◌≡◌, ℕ, ◌<◌, ◌≤◌, true, false, ◌⊎◌, List, [], ◌∷◌, Some, map, String}
use Rattle.std.specs.FinMap as finite
use Rattle.std.specs.FinSet as set
use Rattle.std.specs.Global.{Global}
use Rattle.std.specs.String.{string_bytes}
use Rattle.std.specs.Ordering.{nat_cmp}
use Rattle.std.specs.Cmp.Lexicographic.{slice_cmp}
use Rattle.values.specs.TextSet.{TextSet, with_texts}
use Rattle.glue_words.specs.Ident.{to_ident, numbered}

-- a map from names to numbers
abbrev pub Numbers : Type 0
Numbers = finite.FinMap (slice_cmp nat_cmp) ℕ

-- the map that the entries of a tree are
abbrev pub number_map : List (String Global × ℕ) → Numbers
number_map entries = finite.from_entries (map (λ e. (string_bytes e.0, e.1)) entries)

-- n is the least number from `start` up at which the name with the number is free
pub record IsLeastFree (bound : TextSet) (name : List ℕ) (start n : ℕ) : Type 0 where
  pub above : start ≤ n
  pub free : set.contains bound (numbered name n) ≡ false
  pub taken : (j : ℕ) → start ≤ j → j < n → set.contains bound (numbered name j) ≡ true

-- the answer is the name where it is free, else the name followed by the least number from 2 up at which it is free
abbrev pub IsFirstFree : TextSet → List ℕ → List ℕ → Type 0
IsFirstFree bound name answer =
    ((set.contains bound name ≡ false) × (answer ≡ name))
    ⊎ ((set.contains bound name ≡ true) × ((n : ℕ) × (answer ≡ numbered name n) × IsLeastFree bound name 2 n))

-- the names are drawn for the wanted names in turn: each is the first free one, made an identifier, once those before it are bound
abbrev pub AreDrawn : TextSet → List (List ℕ) → List (List ℕ) → Type 0
AreDrawn bound [] [] = Unit {0}
AreDrawn bound [] (name ∷ names) = ⊥
AreDrawn bound (wanted ∷ others) [] = ⊥
AreDrawn bound (wanted ∷ others) (name ∷ names) = IsFirstFree bound (to_ident wanted) name × AreDrawn (set.insert bound name) others names

-- the names that have a number
unfoldable pub key_set : Numbers → TextSet
key_set numbers = set.from_list (finite.keys numbers)

-- the number that is kept for a name is at least 2, and the name with each number from 2 up that is below it has an entry
pub record IsKept (numbers : Numbers) (name : List ℕ) (start : ℕ) : Type 0 where
  pub least : 2 ≤ start
  pub taken : (j : ℕ) → 2 ≤ j → j < start → set.contains (key_set numbers) (numbered name j) ≡ true

-- each number that is kept is right for its name
abbrev pub KeepsTaken : Numbers → Type 0
KeepsTaken numbers = (name : List ℕ) (start : ℕ) → finite.get numbers name ≡ Some start → IsKept numbers name start
