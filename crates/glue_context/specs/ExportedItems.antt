-- The declaration of an exported function, behind the note of its comment and of its types.
use Rattle.std.specs.Prelude.{ℕ, Bool, true, false, List, [], ◌∷◌, ◌++◌, Option, Some, None}
use Rattle.std.specs.Ordering.{nat_cmp}
use Rattle.values.specs.Map.{look_up}
use Rattle.glue_words.specs.declared.word.Word.{Word}
use Rattle.glue_words.specs.declared.word.Word.TheVariants as w
use Rattle.glue_words.specs.declared.item.Item.{Item}
use Rattle.glue_words.specs.declared.item.Role.TheVariants.{Declare}
use Rattle.glue_words.specs.declared.item.Thing.TheVariants as thing
use Rattle.glue_words.specs.declared.key.TheConstants as key
use Rattle.glue_words.specs.Words.{space, line_feed}
use Rattle.glue_shared.specs.declared.adapter.Adapter.{Adapter}
use Rattle.glue_shared.specs.declared.aux.AuxExport.{AuxExport}
use Rattle.glue_shared.specs.declared.description.Lowered.{Lowered}
use Rattle.glue_shared.specs.declared.name_map.NameMap.{NameMap}
use Rattle.glue_shared.specs.declared.settings.Settings.{Settings}
use Rattle.type_texts.specs.Notes.{signature_lines}
use Rattle.glue_targets.specs.RoleWords.{export_first}
use Rattle.glue_exports.specs.Notes.{lines_of, note_of}

-- the lines of the types of an adapter's function, whose parameters have these names, none where there is no adapter
abbrev pub adapter_lines : Settings → NameMap → AuxExport → Option Adapter → (params : List (List ℕ)) → List (List ℕ)
adapter_lines s m e None params = []
adapter_lines s m e (Some adapter) params = signature_lines s.ts_typed_array_buffers m e adapter params

-- these lines, where the description asks for them
abbrev pub type_lines : Settings → NameMap → Lowered → AuxExport → (params : List (List ℕ)) → (jsdoc : Bool) → List (List ℕ)
type_lines s m l e params false = []
type_lines s m l e params true = adapter_lines s m e (look_up nat_cmp l.wit.adapters e.adapter) params

-- the lines of the note before an export's function: those of its comment, and behind them those of its types
abbrev pub note_lines : Settings → NameMap → Lowered → AuxExport → (params : List (List ℕ)) → List (List ℕ)
note_lines s m l e params = lines_of e.comments ++ type_lines s m l e params e.jsdoc

-- `function name`
abbrev pub declaration_front : List ℕ → List Word
declaration_front name = w.Key key.FUNCTION ∷ space ∷ w.Bind name ∷ []

-- what stands behind the function
abbrev pub declaration_back : List Word
declaration_back = line_feed ∷ []

-- the note of these lines, and behind it `function name(..) {..}`, with `export` or without
abbrev pub declaration_words : (exported : Bool) (lines : List (List ℕ)) → List ℕ → List Word → List Word
declaration_words exported lines name function =
    note_of lines ++ (export_first exported ++ (declaration_front name ++ (function ++ declaration_back)))

-- the declaration of an adapter's function
abbrev pub declare_item : (lines : List (List ℕ)) → ℕ → List ℕ → List Word → Item
declare_item lines id name function =
    record { role = Declare (thing.Adapter id); words = declaration_words false lines name function }
