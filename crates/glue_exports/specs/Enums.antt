-- Enums: a frozen object that has each variant's number by its name, and its name by its number.
use Rattle.std.specs.Prelude.{ℕ, ℤ, true, List, [], ◌∷◌, ◌++◌, codes, None}
use Rattle.std.specs.Fmt.{signed_decimal}
use Rattle.std.specs.List.{flat_map}
use Rattle.glue_words.specs.declared.word.Word.{Word}
use Rattle.glue_words.specs.declared.word.Word.TheVariants as w
use Rattle.glue_words.specs.declared.punct.TheConstants as punct
use Rattle.glue_words.specs.declared.key.TheConstants as key
use Rattle.glue_words.specs.declared.item.Item.{Item}
use Rattle.glue_words.specs.declared.item.Role.TheVariants as role
use Rattle.glue_words.specs.declared.item.Thing.{Thing}
use Rattle.glue_words.specs.declared.item.Thing.TheVariants as thing
use Rattle.glue_words.specs.Words.{space, line_feed}
use Rattle.glue_shared.specs.declared.aux.AuxEnum.{AuxEnum}
use Rattle.glue_shared.specs.Paths.{qualified_name}
use Rattle.glue_exports.specs.declared.definition.ExportDefinition.{ExportDefinition}
use Rattle.glue_exports.specs.Notes.{comment_lines, lines_of, note_words, note_of}

-- a variant: its name, its number and its comment
abbrev pub Variant : Type 0
Variant = List ℕ × ℤ × List ℕ

-- ---- the note

-- a number behind another
abbrev pub next_number : Variant → List ℕ
next_number v = codes " | " ++ signed_decimal v.1

-- the variants' numbers with ` | ` between them
abbrev pub numbers_text : List Variant → List ℕ
numbers_text [] = []
numbers_text (v ∷ vs) = signed_decimal v.1 ++ flat_map next_number vs

-- `@enum {1 | 2}`, by which type checkers know the numbers
abbrev pub type_line : List Variant → List ℕ
type_line variants = codes "@enum {" ++ (numbers_text variants ++ codes "}")

-- the enum's comment, and behind it that line
abbrev pub enum_lines : AuxEnum → List (List ℕ)
enum_lines e = lines_of e.comments ++ type_line e.variants ∷ []

-- ---- the object

-- `Name: 1, "1": "Name",`
abbrev pub entry_words : List ℕ → ℤ → List Word
entry_words name number =
    w.Prop name ∷ w.Punct punct.COLON ∷ space ∷ w.Num number ∷ w.Punct punct.COMMA ∷ space ∷ w.Text (signed_decimal number)
    ∷ w.Punct punct.COLON ∷ space ∷ w.Text name ∷ w.Punct punct.COMMA ∷ line_feed ∷ []

-- that behind the note of the variant's comment
abbrev pub variant_words : Variant → List Word
variant_words v = note_of (comment_lines v.2) ++ entry_words v.0 v.1

-- `const name = `
abbrev pub assigned_start : List ℕ → List Word
assigned_start name = w.Key key.CONST ∷ space ∷ w.Bind name ∷ space ∷ w.Punct punct.ASSIGN ∷ space ∷ []

-- `Object.freeze({`
abbrev pub freeze_start : List Word
freeze_start =
    w.Host (codes "Object") true ∷ w.Punct punct.DOT ∷ w.Prop (codes "freeze") ∷ w.Punct punct.OPEN_PAREN
    ∷ w.Punct punct.OPEN_BRACE ∷ line_feed ∷ []

-- `});`
abbrev pub object_end : List Word
object_end = w.Punct punct.CLOSE_BRACE ∷ w.Punct punct.CLOSE_PAREN ∷ w.Punct punct.SEMICOLON ∷ line_feed ∷ []

-- the object under this name
abbrev pub object_words : List ℕ → List Variant → List Word
object_words name variants = assigned_start name ++ (freeze_start ++ (flat_map variant_words variants ++ object_end))

-- ---- the enum

-- the note, and behind it the object under this name
abbrev pub enum_words : AuxEnum → List ℕ → List Word
enum_words e name = note_words (enum_lines e) ++ object_words name e.variants

-- the enum, by its qualified name
abbrev pub enum_thing : AuxEnum → Thing
enum_thing e = thing.Enum (qualified_name e.namespace e.name)

abbrev pub enum_item : AuxEnum → List ℕ → Item
enum_item e name = record { role = role.Declare (enum_thing e); words = enum_words e name }

-- what is published for an enum that goes by this name in the glue file
abbrev pub enum_definition : AuxEnum → List ℕ → ExportDefinition
enum_definition e name =
    record { thing = enum_thing e; identifier = name; items = enum_item e name ∷ []; private = e.private; parent = None }
