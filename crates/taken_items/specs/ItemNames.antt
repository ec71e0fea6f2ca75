-- The names of the exports that give items of the module to the glue file: those that the module has, and those that are added.
use Rattle.std.specs.Prelude.{◌≡◌, ℕ, zero, suc, ◌+◌, Bool, false, is_some, List, [], ◌∷◌, ◌++◌, codes, Option, Some, None, unwrap_or, fold, if◌then◌else◌}
use Rattle.std.specs.List.{flat_map}
use Rattle.std.specs.Ordering.{is_eq}
use Rattle.std.specs.BTreeMap.{insert_entry}
use Rattle.std.specs.FinSet as set
use Rattle.values.specs.TextSet.{TextSet, with_texts}
use Rattle.wasm_core.specs.Contents.{Contents}
use Rattle.wasm_core.specs.declared.types.Func.{Func}
use Rattle.wasm_core.specs.entries.Export.{Export}
use Rattle.wasm_core.specs.entries.ExportItem.{ExportItem}
use Rattle.wasm_core.specs.entries.ExportItem.TheVariants as items
use Rattle.glue_words.specs.Ident.{numbered, to_ident}
use Rattle.glue_shared.specs.declared.description.Lowered.{Lowered}
use Rattle.glue_shared.specs.declared.settings.Settings.{Settings}
use Rattle.glue_steps.specs.Exported.{export_name, export_names}
use Rattle.glue_steps.specs.Resolving.{entry_at, item_order}
use Rattle.glue_names.specs.Naming.{shim_name, start_name}
use Rattle.taken_items.specs.Asked.{asked_items}

-- ---- the set of items

-- an item more, in the order of items
abbrev pub with_item : List (ExportItem × Unit {0}) → ExportItem → List (ExportItem × Unit {0})
with_item set item = insert_entry item_order set item tt

-- each of these items once, in their order
abbrev pub each_item : List ExportItem → List (ExportItem × Unit {0})
each_item asked = fold with_item [] asked

-- ---- the names that they get

-- the name that a function of the module has itself, or one that is made for it
abbrev pub own_name : Option Func → List ℕ
own_name None = codes "__wbindgen_export"
own_name (Some f) = unwrap_or f.name (codes "__wbindgen_export")

-- the name that is wanted for the export of an item, where the module has none
abbrev pub wanted_export : Contents → ExportItem → List ℕ
wanted_export m (items.Memory id) = codes "memory"
wanted_export m (items.Func id) = own_name (entry_at m.funcs id.0)
wanted_export m other = codes "__wbindgen_export"

-- an export stands, and gives the item
abbrev pub gives : ExportItem → Option Export → Bool
gives item None = false
gives item (Some e) = is_eq (item_order e.item item)

-- the name of the first export that gives an item
abbrev pub export_of : ExportItem → List (Option Export) → Option (List ℕ)
export_of item [] = None
export_of item (entry ∷ exports) = if gives item entry then export_name entry else export_of item exports

-- the first of so many numbers, from a number on, with which a name is free, and where none is the one behind them
abbrev pub free_number : TextSet → List ℕ → (from many : ℕ) → ℕ
free_number bound name from zero = from
free_number bound name from (suc many) = if set.contains bound (numbered name from) then free_number bound name (from + 1) many else from

-- the name where it is free, and else followed by the least number from 2 up with which it is free: one of as many as there are bound names
-- is, or the next
abbrev pub fresh_name : TextSet → List ℕ → List ℕ
fresh_name bound name = if set.contains bound name then numbered name (free_number bound name 2 (set.len bound)) else name

-- the name that an item gets: that of the first export that gives it, and else the wanted one, made an identifier and fresh
abbrev pub item_name : Contents → TextSet → ExportItem → List ℕ
item_name m bound item = unwrap_or (export_of item m.exports) (fresh_name bound (to_ident (wanted_export m item)))

-- the names that are bound then
abbrev pub bound_with : Contents → TextSet → ExportItem → TextSet
bound_with m bound item = if is_some (export_of item m.exports) then bound else set.insert bound (item_name m bound item)

-- items with the names that they get in turn
abbrev pub named_items : Contents → TextSet → List (ExportItem × Unit {0}) → List (ExportItem × List ℕ)
named_items m bound [] = []
named_items m bound (e ∷ others) = (e.0, item_name m bound e.0) ∷ named_items m (bound_with m bound e.0) others

-- names of exports that may be added besides: of the start function, and of the function that moves the stack
abbrev pub further_exports : List (List ℕ)
further_exports = start_name ∷ shim_name ∷ []

-- the names that no added export may have: those of the module's exports, and these
abbrev pub bound_exports : Lowered → TextSet
bound_exports l = with_texts set.empty (export_names l.«module» ++ further_exports)

-- the items that are asked for, each once, with the names of the exports that give them
unfoldable pub item_names : Settings → Lowered → List (ExportItem × List ℕ)
item_names s l = named_items l.«module» (bound_exports l) (each_item (asked_items s l))

-- ---- the exports that are added

-- a named item, where no export of the module gives it
abbrev pub added : List (Option Export) → ExportItem × List ℕ → List (List ℕ × ExportItem)
added exports item = if is_some (export_of item.0 exports) then [] else (item.1, item.0) ∷ []

-- the exports that are added, in the order of their items
abbrev pub added_exports : Settings → Lowered → List (List ℕ × ExportItem)
added_exports s l = flat_map (added l.«module».exports) (item_names s l)

-- the names of these exports are new: none of them is bound, once those before it are
abbrev pub AreFresh : TextSet → List (List ℕ × ExportItem) → Type 0
AreFresh bound [] = Unit {0}
AreFresh bound (e ∷ others) = (set.contains bound e.0 ≡ false) × AreFresh (set.insert bound e.0) others

-- ---- the map of named items

abbrev pub put_named : List (ExportItem × List ℕ) → ExportItem × List ℕ → List (ExportItem × List ℕ)
put_named m item = insert_entry item_order m item.0 item.1

abbrev pub item_map : List (ExportItem × List ℕ) → List (ExportItem × List ℕ)
item_map named = fold put_named [] named
