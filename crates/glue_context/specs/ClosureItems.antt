-- The functions of closures: each is that of a closure's adapter, under the name by which the functions that make such closures refer to it.
use Rattle.std.specs.Prelude.{◌≡◌, ℕ, ◌&&◌, Bool, is_some, List, [], ◌++◌, Option, Some}
use Rattle.std.specs.List.{AllZip}
use Rattle.std.specs.List.Sorted.{IsStrictlySortedBy}
use Rattle.std.specs.Ordering.{nat_cmp}
use Rattle.glue_words.specs.declared.word.Word.{Word}
use Rattle.glue_words.specs.declared.item.Item.{Item}
use Rattle.glue_words.specs.declared.item.Role.TheVariants.{Body}
use Rattle.glue_tree.specs.declared.tree.JsFunction.{JsFunction}
use Rattle.glue_shared.specs.declared.description.Lowered.{Lowered}
use Rattle.glue_shared.specs.declared.name_map.NameMap.{NameMap}
use Rattle.glue_shared.specs.declared.settings.Settings.{Settings}
use Rattle.glue_steps.specs.Resolving.{adapter_steps, callback_name}
use Rattle.printed_adapters.specs.Printed.{used_closures}
use Rattle.glue_context.specs.ExportedItems.{declaration_back, declaration_front}
use Rattle.glue_context.specs.Functions.{IsFunctionOf, usual_form}

-- `function name(..) {..}`, which nothing publishes
abbrev pub closure_item : List ℕ → List Word → Item
closure_item name function = record { role = Body; words = declaration_front name ++ (function ++ declaration_back) }

-- the item declares the function of a closure's adapter, under its name
pub record IsClosureItem (s : Settings) (m : NameMap) (l : Lowered) (id : ℕ) (item : Item) : Type 0 where
  pub name : List ℕ
  pub named : callback_name l id ≡ Some name
  pub function : JsFunction
  pub of_adapter : IsFunctionOf s m l id usual_form [] [] function
  pub is : item ≡ closure_item name function.words

-- one for each adapter of which a function of an adapter makes closures, in the order of the adapters' ids
pub record AreClosures (s : Settings) (m : NameMap) (l : Lowered) (items : List Item) : Type 0 where
  pub by_id : IsStrictlySortedBy nat_cmp (used_closures s l)
  pub are : AllZip (IsClosureItem s m l) (used_closures s l) items

-- a closure's adapter has steps, and its function a name
abbrev pub is_declarable : Settings → NameMap → Lowered → ℕ → Bool
is_declarable s m l id = is_some (adapter_steps s m l id) && is_some (callback_name l id)
