-- The order of the entries of a level, and of those of each level inside it: by sweep and then by name, so that a class stands behind its parent.
use Rattle.std.specs.Prelude.{◌≡◌, ◌≢◌, ◌<◌, ℕ, zero, suc, ◌+◌, Bool, true, false, slice_get, List, [], ◌∷◌, length, Option, Some, None}
use Rattle.std.specs.Cmp.Lexicographic.{slice_cmp}
use Rattle.std.specs.List.{find}
use Rattle.std.specs.List.Sorted.{IsPermutation, IsSorted, IsStable}
use Rattle.std.specs.Option.{option_and_then}
use Rattle.std.specs.Ordering.{nat_cmp, ordering_then}
use Rattle.std.specs.Str.{bytes_eq}
use Rattle.std.specs.declared.cmp.Ordering.{Ordering}
use Rattle.std.specs.declared.cmp.Ordering.TheVariants.{Less}
use Rattle.glue_words.specs.declared.item.Thing.{Thing}
use Rattle.glue_words.specs.declared.item.Thing.TheVariants.{Class}
use Rattle.glue_order.specs.declared.entry.ExportEntry.{ExportEntry, Namespace'}
use Rattle.glue_order.specs.declared.entry.ExportEntry.TheVariants.{Definition, Namespace}
use Rattle.glue_order.specs.declared.entry.ExportedNamespace.{ExportedNamespace}
use Rattle.glue_exports.specs.declared.definition.ExportDefinition.{ExportDefinition}

-- an entry with its name on the level
abbrev pub Entry : Type 0
Entry = List ℕ × ExportEntry

-- the qualified name of a class
abbrev pub class_name : Thing → Option (List ℕ)
class_name (Class name) = Some name
class_name other = None

-- the qualified name of the class that an entry is
abbrev pub class_of : ExportEntry → Option (List ℕ)
class_of (Definition d) = class_name d.thing
class_of (Namespace' id thing shape below) = option_and_then class_name thing

-- the name is this one
abbrev pub is_named : List ℕ → Option (List ℕ) → Bool
is_named name None = false
is_named name (Some own) = bytes_eq name own

-- an entry is the class of this qualified name
abbrev pub is_class : List ℕ → Entry → Bool
is_class name e = is_named name (class_of e.1)

-- the qualified name of the class that an entry's own class extends
abbrev pub parent_name : ExportEntry → Option (List ℕ)
parent_name (Definition d) = d.parent
parent_name (Namespace' id thing shape below) = None

-- the entry of that class on the level, the first one
abbrev pub parent_of : List Entry → Entry → Option Entry
parent_of level e = option_and_then (λ name. find (is_class name) level) (parent_name e.1)

-- names by their bytes
abbrev pub name_order : List ℕ → List ℕ → Ordering
name_order = slice_cmp nat_cmp

-- one more sweep, where an entry's name stands before its parent's
abbrev pub rise : Ordering → ℕ
rise Less = 1
rise other = 0

-- the sweep of an entry that has this parent, from the parent's sweep
abbrev pub sweep_below : (Entry → ℕ) → Entry → Option Entry → ℕ
sweep_below sweep e None = 0
sweep_below sweep e (Some parent) = rise (name_order e.0 parent.0) + sweep parent

-- the sweep of an entry, as far as so many parents tell it
abbrev pub sweep_within : ℕ → List Entry → Entry → ℕ
sweep_within zero level e = 0
sweep_within (suc count) level e = sweep_below (sweep_within count level) e (parent_of level e)

-- The sweep of an entry: 0 without a parent on the level, and else the parent's, plus 1 where the entry's name stands before
-- the parent's. Where parents come back to an entry, no more of them count than the level has entries.
abbrev pub sweep : List Entry → Entry → ℕ
sweep level e = sweep_within (length level) level e

-- entries by sweep, and then by name
abbrev pub entry_order : List Entry → Entry → Entry → Ordering
entry_order level x y = ordering_then (nat_cmp (sweep level x) (sweep level y)) (name_order x.0 y.0)

-- the same items, each as often, none of them before one that is less, and those that tie as they stood
pub record IsArranged {A : Type 0} (order : A → A → Ordering) (xs arranged : List A) : Type 0 where
  pub same : IsPermutation xs arranged
  pub rises : IsSorted order arranged
  pub stable : IsStable order xs arranged

-- what holds of an entry without a parent, and of one with a parent where it holds of the parent
abbrev pub ends_below : (Entry → Bool) → Option Entry → Bool
ends_below ends None = true
ends_below ends (Some parent) = ends parent

-- an entry and its parents are no more than so many, the last of them without a parent on the level
abbrev pub ends_within : ℕ → List Entry → Entry → Bool
ends_within zero level e = false
ends_within (suc count) level e = ends_below (ends_within count level) (parent_of level e)

-- each entry stands behind its parent, where its parents end and its name isn't the parent's
abbrev pub AreBehindParents : List Entry → List Entry → Type 0
AreBehindParents level arranged =
    (i j : ℕ) (e parent : Entry) → slice_get arranged i ≡ Some e → slice_get arranged j ≡ Some parent → parent_of level e ≡ Some parent
    → ends_within (length level) level e ≡ true → e.0 ≢ parent.0 → j < i

-- the entries of a level in its order
pub record IsLevelOrder (level sorted : List Entry) : Type 0 where
  pub arranged : IsArranged (entry_order level) level sorted
  pub parents : AreBehindParents level sorted

mutual
  -- a definition, itself; a namespace of the same identifier and thing, whose level has the entries of the given one's,
  -- with the levels inside them sorted, in the level's order
  pub data IsSortedInside : ExportEntry → ExportEntry → Type 0 where
    definition : (d : ExportDefinition) → IsSortedInside (Definition d) (Definition d)
    namespace : (given sorted : ExportedNamespace) (inner : List Entry) → given.id ≡ sorted.id → given.thing ≡ sorted.thing
        → AreSortedInside given.ns inner → IsLevelOrder inner sorted.ns → IsSortedInside (Namespace given) (Namespace sorted)

  -- entries of the same names, in the same places, with the levels inside them sorted
  pub data AreSortedInside : List Entry → List Entry → Type 0 where
    none : AreSortedInside [] []
    more : (name : List ℕ) (given sorted : ExportEntry) (before inner : List Entry) → IsSortedInside given sorted → AreSortedInside before inner
        → AreSortedInside ((name, given) ∷ before) ((name, sorted) ∷ inner)

-- the entries of a level, with the levels inside them sorted, in the level's order
pub record AreSorted (entries sorted : List Entry) : Type 0 where
  pub inner : List Entry
  pub inside : AreSortedInside entries inner
  pub order : IsLevelOrder inner sorted
