-- The items of the glue file: lines that take modules, vendor constants, what the description declares, the frame with the definitions of
-- imports, the functions of closures, the lists of string enums, helpers, and loading.
use Rattle.std.specs.Prelude.{◌≡◌, ℕ, ◌<◌, ◌^◌, Bool, true, is_some, List, [], ◌∷◌, ◌++◌, length}
use Rattle.std.specs.List.{AllZip, flat_map}
use Rattle.wasm_core.specs.ids.ImportId.{ImportId}
use Rattle.glue_words.specs.declared.item.Item.{Item}
use Rattle.glue_tree.specs.declared.tree.JsFunction.{JsFunction}
use Rattle.glue_shared.specs.declared.aux.AuxExport.{AuxExport}
use Rattle.glue_shared.specs.declared.settings.Settings.{Settings}
use Rattle.glue_shared.specs.declared.description.Lowered.{Lowered}
use Rattle.glue_shared.specs.declared.name_map.NameMap.{NameMap}
use Rattle.glue_shared.specs.Names.{own_imports}
use Rattle.glue_steps.specs.Resolving.{adapter_steps}
use Rattle.glue_targets.specs.Targets.{Frame, frame_start, frame_end, loading_item}
pub use Rattle.glue_naming.specs.Arranged.{IsArranged, text_order}
use Rattle.glue_lines.specs.Grouped.{AreImportLines, Imported}
use Rattle.glue_naming.specs.Listed.{drawn_imports}
use Rattle.glue_naming.specs.Naming.{declared_name}
use Rattle.glue_exports.specs.Printed.{tree_items}
use Rattle.glue_exports.specs.Tree.{Entry}
use Rattle.glue_public.specs.Described.{ArePut, FunctionItems, described, lone_functions}
use Rattle.glue_naming.specs.Pairs.{own_pairs, pair_order, place_order}
use Rattle.helper_table.specs.Closed.{AreAsked}
use Rattle.glue_context.specs.declared.frame.FrameParts.{FrameParts}
use Rattle.glue_context.specs.ClosureItems.{AreClosures}
use Rattle.glue_context.specs.DefinedItems.{IsDefineItem, takes_memory}
use Rattle.glue_context.specs.Edits.{has_start}
use Rattle.glue_context.specs.ExportedItems.{declare_item, note_lines}
use Rattle.glue_context.specs.Foreign.{foreign_modules, foreign_lines, has_strings}
use Rattle.glue_context.specs.Functions.{IsFunctionOf, form_of}
use Rattle.glue_context.specs.ImportedItems.{line_form, vendor_items}
use Rattle.glue_context.specs.ListedItems.{AreLists}
use Rattle.glue_context.specs.Parts.{are_few, helper_parts}

-- a function is declared under the name that it was given, behind its note
pub record AreFunctionItems (s : Settings) (m : NameMap) (l : Lowered) (e : AuxExport) (items : FunctionItems) : Type 0 where
  pub function : JsFunction
  pub of_adapter : IsFunctionOf s m l e.adapter (form_of e) e.args [] function
  pub are : items ≡ (declared_name m e, declare_item (note_lines s m l e function.params) e.adapter (declared_name m e) function.words ∷ [])

-- an export's adapter has steps
abbrev pub is_bindable : Settings → NameMap → Lowered → AuxExport → Bool
is_bindable s m l e = is_some (adapter_steps s m l e.adapter)

-- ---- the order in which they stand

-- items of groups, one group behind the other
abbrev pub joined_groups : List (List Item) → List Item
joined_groups groups = flat_map (λ (group : List Item). group) groups

-- a frame by its parts
abbrev pub frame_by : FrameParts → Frame
frame_by parts = record { memory = parts.memory; modules = parts.modules; strings = parts.strings }

-- what the frame goes by beside the names of files
abbrev pub frame_of : Settings → Lowered → Frame
frame_of s l = record { memory = takes_memory s l; modules = foreign_modules s l; strings = has_strings s l }

-- The items up to loading but for helpers, one group behind the other, in the order in which they are printed: the import lines of described
-- modules, those of foreign modules, the vendor constants, the declarations of exports, the frame's start, the definitions of imports, the
-- frame's end, the functions of closures, and the lists of string enums.
abbrev pub front_groups : List ℕ → Frame → (lines constants declares defines closures lists : List Item) → List (List Item)
front_groups stem frame lines constants declares defines closures lists =
    lines ∷ foreign_lines 1 frame.modules ∷ constants ∷ declares ∷ (frame_start stem frame.memory ∷ []) ∷ defines
    ∷ (frame_end stem frame.modules frame.strings ∷ []) ∷ closures ∷ lists ∷ []

abbrev pub front_items : List ℕ → Frame → (lines constants declares defines closures lists : List Item) → List Item
front_items stem frame lines constants declares defines closures lists =
    joined_groups (front_groups stem frame lines constants declares defines closures lists)

-- all of them: helpers stand before loading, which depends on whether the module imports string constants, and has a start function
abbrev pub all_items : List ℕ → Bool → Frame → (lines constants declares defines closures lists helpers : List Item) → List Item
all_items stem starts frame lines constants declares defines closures lists helpers =
    front_items stem frame lines constants declares defines closures lists ++ (helpers ++ loading_item stem frame.strings starts ∷ [])

-- What a description publishes, as the items of its export tree: functions with their declarations, enums and re-exports. No name of
-- the host is among those of re-exports.
pub record AreTreeItems (s : Settings) (m : NameMap) (l : Lowered) (items : List Item) : Type 0 where
  pub functions : List FunctionItems
  pub made : AllZip (AreFunctionItems s m l) (lone_functions l.aux.exports) functions
  pub tree : List Entry
  pub put : ArePut (described l.aux m functions) [] tree
  pub are : items ≡ tree_items m.namespaces [] tree

-- the groups of items up to loading, but for helpers, where own imports have these places, these are called or re-exported, and this is what the frame goes by
pub record AreGroups (s : Settings) (m : NameMap) (l : Lowered) (places : List ℕ) (called : List Imported) (frame : Frame)
    (groups : List (List Item)) : Type 0 where
  pub lines : List Item
  pub imported : AreImportLines (line_form s.target) called lines
  pub declares : List Item
  pub declared : AreTreeItems s m l declares
  pub defines : List Item
  pub defined : AllZip (IsDefineItem s m l) places defines
  pub closures : List Item
  pub enclosed : AreClosures s m l closures
  pub lists : List Item
  pub listed : AreLists s l lists
  pub numbered : length frame.modules < 2 ^ 32
  pub are : groups ≡ front_groups s.stem frame lines (vendor_items called) declares defines closures lists

-- the items that settings and a description ask for, where these names are drawn: what is published stands by path, the definitions
-- of own imports by the import's name and then by its place; what the adapters of own imports call and re-exports name that is no name of the
-- host is bound: import lines stand by module, their entries and the vendor constants in the order in which they are first called, by the
-- import's name and then by the adapter's id, and behind that by the names of the re-exports; the functions of the closures that are made stand
-- by the ids of their adapters, and the lists of the string enums that are named by adapters with a printed function by the enums' names; the
-- helpers are those for which the items before them ask, and those for which these ask
pub record IsGlue (settings : Settings) (m : NameMap) (l : Lowered) (items : List Item) : Type 0 where
  pub pairs : List (ImportId × ℕ)
  pub by_import : IsArranged (pair_order l) (own_pairs settings l) pairs
  pub places : List ℕ
  pub by_place : IsArranged (place_order l) (own_imports settings l.«module» l.wit l.aux) places
  pub lines : List Item
  pub imported : AreImportLines (line_form settings.target) (drawn_imports settings l m pairs) lines
  pub declares : List Item
  pub defines : List Item
  pub helpers : List Item
  pub declared : AreTreeItems settings m l declares
  pub defined : AllZip (IsDefineItem settings m l) places defines
  pub closures : List Item
  pub enclosed : AreClosures settings m l closures
  pub lists : List Item
  pub listed : AreLists settings l lists
  pub numbered : length (foreign_modules settings l) < 2 ^ 32
  pub few : are_few l.«module» ≡ true
  pub asked : AreAsked (helper_parts settings l m)
      (front_items settings.stem (frame_of settings l) lines (vendor_items (drawn_imports settings l m pairs)) declares defines closures lists) helpers
  pub all : items ≡ all_items settings.stem (has_start l.«module») (frame_of settings l) lines
      (vendor_items (drawn_imports settings l m pairs)) declares defines closures lists helpers
