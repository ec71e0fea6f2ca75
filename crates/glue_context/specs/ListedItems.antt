-- The lists of the texts of string enums, in which functions look up a text's place, or the text at a place.
use Rattle.std.specs.Prelude.{◌≡◌, ℕ, Bool, List, map, filter}
use Rattle.std.specs.declared.cmp.Ordering.{Ordering}
use Rattle.glue_words.specs.declared.item.Item.{Item}
use Rattle.glue_shared.specs.declared.aux.AuxStringEnum.{AuxStringEnum}
use Rattle.glue_shared.specs.declared.description.Lowered.{Lowered}
use Rattle.glue_shared.specs.declared.settings.Settings.{Settings}
use Rattle.glue_shared.specs.Names.{is_one_of}
use Rattle.glue_lines.specs.Texts.{texts_constant}
use Rattle.glue_names.specs.Given.{values_name}
use Rattle.printed_adapters.specs.Printed.{named_enums}
use Rattle.glue_naming.specs.Arranged.{IsArranged, text_order}

-- the name of a string enum is one of these
abbrev pub is_chosen : (named : List (List ℕ)) → AuxStringEnum → Bool
is_chosen named e = is_one_of named e.name

-- the string enums that are named by adapters with a printed function
abbrev pub chosen_enums : Settings → Lowered → List AuxStringEnum
chosen_enums s l = filter (is_chosen (named_enums s l)) l.aux.string_enums

-- string enums by name
abbrev pub enum_order : AuxStringEnum → AuxStringEnum → Ordering
enum_order a b = text_order a.name b.name

-- `const __wbindgen_enum_S = ["a", "b"];`
abbrev pub list_item : AuxStringEnum → Item
list_item e = texts_constant (values_name e) e.variants

-- those of string enums, in their order
abbrev pub list_items : List AuxStringEnum → List Item
list_items enums = map list_item enums

-- one for each string enum that is named by an adapter with a printed function, by name
pub record AreLists (s : Settings) (l : Lowered) (items : List Item) : Type 0 where
  pub enums : List AuxStringEnum
  pub by_name : IsArranged enum_order (chosen_enums s l) enums
  pub are : items ≡ list_items enums
