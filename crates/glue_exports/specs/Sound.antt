-- What the items of an export tree publish: exactly what is defined in it, but private ones at the top level.
use Rattle.std.specs.Prelude.{◌≡◌, Bool, true, false, ◌&&◌, ◌⊎◌, List, [], ◌∷◌, ◌++◌, if◌then◌else◌}
use Rattle.std.specs.List.{flat_map, list_all}
use Rattle.values.specs.Lists.{IsIn, AreDistinct}
use Rattle.glue_words.specs.declared.item.Item.{Item}
use Rattle.glue_words.specs.declared.item.Role.{Role}
use Rattle.glue_words.specs.declared.item.Role.TheVariants as role
use Rattle.glue_words.specs.Names.{bound_in}
use Rattle.glue_targets.specs.PublicTree.{PublicPair, groups_of}
use Rattle.glue_targets.specs.Published.{is_exported, published_pairs}
use Rattle.glue_exports.specs.declared.definition.ExportDefinition.{ExportDefinition}
use Rattle.glue_exports.specs.Tree.{Entry, is_reexport}
use Rattle.glue_exports.specs.Printed.{is_at_top}

-- ---- what is published

-- a definition at its path, where it isn't private at the top level
abbrev pub entry_pairs : Entry → List PublicPair
entry_pairs e = if e.1.private && is_at_top e.0 then [] else (e.0, e.1.thing) ∷ []

abbrev pub own_pairs : List Entry → List PublicPair
own_pairs tree = flat_map entry_pairs tree

-- these, and the objects of the namespaces that their paths run through and that have no pair of their own
abbrev pub tree_pairs : List Entry → List PublicPair
tree_pairs tree = own_pairs tree ++ groups_of (own_pairs tree)

-- items publish exactly these pairs of a tree, each once
pub record ArePublished (tree : List Entry) (items : List Item) : Type 0 where
  pub only : (pair : PublicPair) → IsIn pair (published_pairs items) → IsIn pair (tree_pairs tree)
  pub all : (pair : PublicPair) → IsIn pair (tree_pairs tree) → IsIn pair (published_pairs items)
  pub once : AreDistinct (published_pairs items)

-- ---- what a definition's items have to be

-- an item of the role declares no thing, and publishes and places none
abbrev pub is_plain : Role → Bool
is_plain (role.Declare t) = false
is_plain (role.Publish path t name) = false
is_plain (role.Namespace path) = false
is_plain (role.Assign path t name) = false
is_plain role = true

-- one item declares the thing under the identifier and isn't exported, and the others are plain
pub record IsDeclaration (d : ExportDefinition) : Type 0 where
  pub before : List Item
  pub item : Item
  pub after : List Item
  pub are : d.items ≡ before ++ item ∷ after
  pub declares : item.role ≡ role.Declare d.thing
  pub binds : bound_in item.words ≡ d.identifier ∷ []
  pub unexported : is_exported item ≡ false
  pub plain : list_all (λ (i : Item). is_plain i.role) (before ++ after) ≡ true

-- a re-export, or such a declaration
abbrev pub IsSound : ExportDefinition → Type 0
IsSound d = (is_reexport d ≡ true) ⊎ IsDeclaration d

abbrev pub AreSound : List Entry → Type 0
AreSound [] = Unit {0}
AreSound (e ∷ tree) = IsSound e.1 × AreSound tree
