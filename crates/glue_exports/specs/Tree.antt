-- The export tree: definitions by their paths, in the paths' order, and which of them can't stand beside one another.
use Rattle.std.specs.Prelude.{◌≡◌, ℕ, Bool, true, false, not, ◌&&◌, ◌||◌, is_some, List, [], ◌∷◌, Option, Some, None}
use Rattle.std.specs.List.{list_any}
use Rattle.std.specs.Map.{keys_of}
use Rattle.std.specs.BTreeMap.{insert_entry}
use Rattle.values.specs.Map.{look_up, AreInOrder}
use Rattle.glue_shared.specs.Paths.{Path}
use Rattle.glue_targets.specs.PublicTree.{fronts}
use Rattle.glue_exports.specs.declared.definition.ExportDefinition.{ExportDefinition}
use Rattle.glue_exports.specs.declared.tree.ExportFault.{ExportFault}
use Rattle.glue_exports.specs.declared.tree.ExportFault.TheVariants as faults
use Rattle.glue_exports.specs.Fronts.{path_order, is_run_through, AreKeys}

-- a definition at its path
abbrev pub Entry : Type 0
Entry = Path × ExportDefinition

-- nothing is in the list
abbrev pub has_none : {A : Type 0} → List A → Bool
has_none [] = true
has_none (x ∷ xs) = false

-- a re-export has no items of its own
abbrev pub is_reexport : ExportDefinition → Bool
is_reexport d = has_none d.items

-- a definition that isn't a re-export stands there
abbrev pub is_declared : Option ExportDefinition → Bool
is_declared None = false
is_declared (Some d) = not (is_reexport d)

-- what stands at a path of the tree
abbrev pub found : List Entry → Path → Option ExportDefinition
found tree path = look_up path_order tree path

-- A definition can't stand at a path of the tree: another stands there; or it is no re-export, and a path of the tree runs
-- through its own; or its path runs through one at which something stands that is no re-export.
abbrev pub clashes : List Entry → Path → ExportDefinition → Bool
clashes tree path d =
    is_some (found tree path)
    || ((not (is_reexport d) && is_run_through (keys_of tree) path)
    || list_any (λ front. is_declared (found tree front)) (fronts path))

-- the tree with a definition more
abbrev pub defined : List Entry → Path → ExportDefinition → List Entry
defined tree path d = insert_entry path_order tree path d

-- what becomes of a tree where a definition is put at a path, or isn't: it can stand there, and does; or it clashes, and
-- nothing changes
abbrev pub IsPut : List Entry → Path → ExportDefinition → Bool → List Entry → Type 0
IsPut tree path d true new = (clashes tree path d ≡ false) × (new ≡ defined tree path d)
IsPut tree path d false new = (clashes tree path d ≡ true) × (new ≡ tree)

-- why a definition of this name isn't put at its path of the tree
abbrev pub IsCause : List Entry → Path → List ℕ → ExportDefinition → ExportFault → Type 0
IsCause tree path name d (faults.Clash clashing) = (clashing ≡ name) × (clashes tree path d ≡ true)
IsCause tree path name d faults.OutOfMemory = Unit {0}

-- no path of the tree runs through one at which something stands that is no re-export
abbrev pub IsApart : List Entry → Type 0
IsApart tree = (path : Path) → is_declared (found tree path) ≡ true → is_run_through (keys_of tree) path ≡ false

-- definitions at paths that aren't empty, in the paths' order, none of which runs through a declared one
pub record IsTree (tree : List Entry) : Type 0 where
  pub ordered : AreInOrder path_order tree
  pub apart : IsApart tree
  pub rooted : list_any has_none (keys_of tree) ≡ false

-- what the parts of a tree keep: definitions, and the paths that theirs run through, unless memory ran out while one was put in
pub record AreParts (is_spent : Bool) (fronts : List (Path × Bool)) (tree : List Entry) : Type 0 where
  pub counted : is_spent ≡ false → AreKeys fronts (is_run_through (keys_of tree))
  pub are_tree : IsTree tree
