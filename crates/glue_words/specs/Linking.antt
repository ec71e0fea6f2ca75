-- Items that are linked. Each part is a fact about an item with the items before and after it.
use Rattle.std.specs.Prelude.{ℕ, Bool, true, false, not, ◌||◌, ◌==◌, List, [], ◌∷◌, ◌++◌, Option, Some, IsTrue}
use Rattle.std.specs.List.{list_all}
use Rattle.values.specs.Lists.{IsIn, AreDistinct, AreApart}
use Rattle.glue_words.specs.Names.{bound_in, used_in, hosted_in, local_bound_in, local_in, wasm_in, spliced_in, bound_names}
use Rattle.glue_words.specs.Words.{words_of}
use Rattle.glue_words.specs.Limits.{keeps_limits, is_computed}
use Rattle.glue_words.specs.Spacing.{stands, each_next, front_word, begins_apart, is_open, notes_stand, is_wasm}
use Rattle.glue_words.specs.declared.word.Word.{Word}
use Rattle.glue_words.specs.declared.word.Word.TheVariants.{Punct, Refer}
use Rattle.glue_words.specs.declared.item.Item.{Item}
use Rattle.glue_words.specs.declared.punct.TheConstants as punct

-- each item of the list has a fact, which may speak of the items before and after it
abbrev pub EachItem : (List Item → Item → List Item → Type 0) → List Item → List Item → Type 0
EachItem P before [] = Unit {0}
EachItem P before (item ∷ after) = P before item after × EachItem P (before ++ item ∷ []) after

-- each of the first is one of the second
abbrev pub AreAmong : {A : Type 0} → List A → List A → Type 0
AreAmong [] ys = Unit {0}
AreAmong (x ∷ xs) ys = IsIn x ys × AreAmong xs ys

-- the words declare distinct names, none of them a host's, and none that is declared already
pub record BindsOnce (hosts declared : List (List ℕ)) (words : List Word) : Type 0 where
  pub distinct : AreDistinct (bound_in words)
  pub no_host : AreApart (bound_in words) hosts
  pub new : AreApart (bound_in words) declared

-- the names of the module's scope that the words use are declared, and the host's names are the host's
pub record Resolves (hosts declared : List (List ℕ)) (words : List Word) : Type 0 where
  pub bound : AreAmong (used_in words) declared
  pub known : AreAmong (hosted_in words) hosts

-- each local name is declared in the words, and none that is declared there hides a name from outside
pub record KeepsLocals (words : List Word) : Type 0 where
  pub bound : AreAmong (local_in words) (local_bound_in words)
  pub apart : AreApart (local_bound_in words) (used_in words ++ hosted_in words)

-- `[`, `.` or `?.`
abbrev pub is_access_place : ℕ → Bool
is_access_place place = place == punct.OPEN_BRACKET || (place == punct.DOT || (place == punct.OPTIONAL))

-- the exports of the module are taken in no other way than by an access that names one
abbrev pub is_named_access : Word → Option Word → Bool
is_named_access (Refer name now) (Some (Punct place)) = not (is_access_place place) || not (is_wasm name)
is_named_access word next = true

-- each export that the words take is there, and no other access of `wasm` stands in them
pub record TakesExports (exports : List (List ℕ)) (words : List Word) (next : Option Word) : Type 0 where
  pub known : AreAmong (wasm_in words) exports
  pub named : IsTrue (each_next is_named_access words next)

-- each computed key of the words is described, and has the form of one
pub record TakesKeys (keys : List (List ℕ)) (words : List Word) : Type 0 where
  pub known : AreAmong (spliced_in words) keys
  pub formed : IsTrue (list_all is_computed (spliced_in words))

-- the words keep their limits, none runs into the next in the text, and notes stand as notes do. The truth says whether a note of
-- several lines is open before them
pub record AreSpaced (inside : Bool) (words : List Word) (next : Option Word) : Type 0 where
  pub limits : IsTrue (list_all keeps_limits words)
  pub spaced : IsTrue (each_next stands words next)
  pub apart : IsTrue (begins_apart words)
  pub notes : IsTrue (notes_stand inside words)

-- the names that the item declares are new, distinct, and no host's
abbrev pub IsBoundOnce : List (List ℕ) → List Item → Item → List Item → Type 0
IsBoundOnce hosts before item after = BindsOnce hosts (bound_names before) item.words

-- the names that the item uses are declared by some item, or the host's
abbrev pub IsResolved : List (List ℕ) → List Item → Item → List Item → Type 0
IsResolved hosts before item after = Resolves hosts (bound_names (before ++ item ∷ after)) item.words

-- the item's local names are its own
abbrev pub IsLocal : List Item → Item → List Item → Type 0
IsLocal before item after = KeepsLocals item.words

-- the item takes exports that are there, each by an access that names it
abbrev pub IsExported : List (List ℕ) → List Item → Item → List Item → Type 0
IsExported exports before item after = TakesExports exports item.words (front_word after)

-- the item's computed keys are described
abbrev pub IsDescribed : List (List ℕ) → List Item → Item → List Item → Type 0
IsDescribed keys before item after = TakesKeys keys item.words

-- the item's words keep their limits, and none runs into the next in the file's text
abbrev pub IsSpaced : List Item → Item → List Item → Type 0
IsSpaced before item after = AreSpaced (is_open false (words_of before)) item.words (front_word after)
