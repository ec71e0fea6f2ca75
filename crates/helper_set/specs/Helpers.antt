-- The helpers that are held, and their entries.
use Rattle.std.specs.Prelude.{◌≡◌, ℕ, Bool, true, List, Option, Some}
use Rattle.std.specs.List.{filter_map}
use Rattle.std.specs.Ordering.{nat_cmp}
use Rattle.std.specs.Cmp.Lexicographic.{slice_cmp}
use Rattle.values.specs.Map.{look_up, AreInOrder}
use Rattle.glue_words.specs.declared.word.Word.{Word}
use Rattle.glue_words.specs.declared.item.Item.{Item}
use Rattle.glue_words.specs.declared.item.Role.TheVariants.{Helper}
use Rattle.glue_words.specs.Names.{used_in}
use Rattle.least_set.specs.Least.{IsLeast}

-- the helpers that words refer to, by who binds a name
abbrev pub referred : (List ℕ → Option ℕ) → List Word → List ℕ
referred binder words = filter_map binder (used_in words)

-- the entries are the held helpers' words by their keys, in byte order of the keys
pub record AreEntries (key : ℕ → List ℕ) (words : ℕ → List Word) (Held : ℕ → Type 0) (entries : List (List ℕ × List Word)) : Type 0 where
  pub in_order : AreInOrder (slice_cmp nat_cmp) entries
  pub each : (i : ℕ) → Held i → look_up (slice_cmp nat_cmp) entries (key i) ≡ Some (words i)
  pub only : (k : List ℕ) (ws : List Word) → look_up (slice_cmp nat_cmp) entries k ≡ Some ws → (i : ℕ) × (Held i × (k ≡ key i) × (ws ≡ words i))

-- the entries are those of the least set of helpers that holds the needed ones and each that a held one's words refer to
pub record AreHelpers (key : ℕ → List ℕ) (words : ℕ → List Word) (binder : List ℕ → Option ℕ) (needed : List ℕ) (entries : List (List ℕ × List Word)) : Type 0 where
  pub held : ℕ → Bool
  pub least : IsLeast (λ i. referred binder (words i)) needed held
  pub entries_are : AreEntries key words (λ i. held i ≡ true) entries

-- the item of a held helper
abbrev pub held_item : (List ℕ × List Word) → Item
held_item entry = record { role = Helper entry.0; words = entry.1 }
