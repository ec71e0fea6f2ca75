-- The items of a description's tree, which publish its public tree.
use Rattle.std.specs.Prelude.{◌≡◌, ℕ, false, List, []}
use Rattle.std.specs.List.{AllZip}
use Rattle.values.specs.Lists.{IsIn, AreDistinct}
use Rattle.glue_words.specs.declared.item.Item.{Item}
use Rattle.glue_shared.specs.declared.aux.AuxExport.{AuxExport}
use Rattle.glue_shared.specs.declared.aux.WasmBindgenAux.{WasmBindgenAux}
use Rattle.glue_shared.specs.declared.name_map.NameMap.{NameMap}
use Rattle.glue_shared.specs.declared.settings.Settings.{Settings}
use Rattle.glue_targets.specs.PublicTree.{PublicPair, public_tree}
use Rattle.glue_targets.specs.Published.{published_pairs}
use Rattle.glue_exports.specs.Printed.{tree_items}
use Rattle.glue_exports.specs.Sound.{IsSound}
use Rattle.glue_exports.specs.Tree.{Entry}
use Rattle.glue_public.specs.Described.{FunctionItems, function_definition, lone_functions, described, ArePut}

-- the items of a function declare it, or there are none
abbrev pub IsDeclared : AuxExport → FunctionItems → Type 0
IsDeclared e f = IsSound (function_definition e f).definition

-- a description without classes, settings that don't ask for the function that resets the state, and for each function that
-- stands by itself items that declare it
pub record IsCovered (settings : Settings) (aux : WasmBindgenAux) (functions : List FunctionItems) : Type 0 where
  pub classless : aux.structs ≡ []
  pub unreset : settings.reset_state ≡ false
  pub declared : AllZip IsDeclared (lone_functions aux.exports) functions

-- items are those of the tree that a description's definitions make
pub record AreTreeItems (aux : WasmBindgenAux) (names : NameMap) (hosts : List (List ℕ)) (functions : List FunctionItems) (items : List Item) : Type 0 where
  pub tree : List Entry
  pub put : ArePut (described aux names functions) [] tree
  pub are : items ≡ tree_items names.namespaces hosts tree

-- items publish exactly the public tree of a description, each pair once
pub record ArePublic (settings : Settings) (aux : WasmBindgenAux) (items : List Item) : Type 0 where
  pub only : (pair : PublicPair) → IsIn pair (published_pairs items) → IsIn pair (public_tree settings aux)
  pub all : (pair : PublicPair) → IsIn pair (public_tree settings aux) → IsIn pair (published_pairs items)
  pub once : AreDistinct (published_pairs items)
