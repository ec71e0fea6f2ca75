-- What `export ` before words, behind their notes, changes: nothing but that they are exported.
use Rattle.std.proofs.Common.{◌≡◌, List, [], ◌∷◌, ◌++◌, refl, ap, sym, ◌∙◌, Bool, true, false, true≢false}
use Rattle.std.proofs.lemmas.List.Elements.{filter_map-append}
use Rattle.std.proofs.lemmas.List.Folds.{list_any-append}
use Rattle.std.specs.Prelude.{◌||◌, Option, None}
use Rattle.std.specs.List.{filter_map, list_any}
use Rattle.glue_words.specs.declared.item.Item.{Item}
use Rattle.glue_words.specs.declared.item.Role.{Role}
use Rattle.glue_words.specs.declared.item.Role.TheVariants as role
use Rattle.glue_words.specs.declared.item.Thing.{Thing}
use Rattle.glue_words.specs.declared.key.TheConstants as key
use Rattle.glue_words.specs.declared.word.Word.{Word}
use Rattle.glue_words.specs.declared.word.Word.TheVariants as w
use Rattle.glue_words.specs.Names.{bound_in, bound_name, is_export_key}
use Rattle.glue_words.specs.Words.{space}
use Rattle.glue_words.proofs.Spaced.{is_no_note}
use Rattle.glue_targets.specs.Published.{is_exported}
use Rattle.glue_targets.specs.RoleWords.{export_first}
use Rattle.glue_exports.specs.Printed.{export_behind, export_behind_notes, exported_by, exported_item}

-- words, and the same with `export ` at one place
record IsExportedForm (words exported : List Word) : Type 0 where
  front : List Word
  back : List Word
  are : words ≡ front ++ back
  with_export : exported ≡ front ++ (export_first true ++ back)

behind : (word : Word) (words exported : List Word) → IsExportedForm words exported → IsExportedForm (word ∷ words) (word ∷ exported)
behind word words exported f = record {
  front = word ∷ f.front;
  back = f.back;
  are = ap (λ (ws : List Word). word ∷ ws) f.are;
  with_export = ap (λ (ws : List Word). word ∷ ws) f.with_export;
}

is_form : (noted : Bool) (words : List Word) → IsExportedForm words (export_behind noted words)
is_form noted (w.Note kind text ∷ words) = behind (w.Note kind text) words (export_behind true words) (is_form true words)
is_form true (w.Gap text ∷ words) = behind (w.Gap text) words (export_behind true words) (is_form true words)
is_form noted words = record { front = []; back = words; are = refl; with_export = refl }

-- words that don't begin with a note have `export ` before them
pub before_no_note : (word : Word) (words : List Word) → is_no_note word ≡ true
    → export_behind_notes (word ∷ words) ≡ export_first true ++ (word ∷ words)
before_no_note (w.Note kind text) words h = absurd (true≢false (sym h))
before_no_note word words h = refl

module _ (words : List Word) where
  abbrev form : IsExportedForm words (export_behind_notes words)
  form = is_form false words

  -- what words give one by one, and neither the keyword nor a space does, stays as it is
  pub same_names : {A : Type 0} (name : Word → Option A) → name (w.Key key.EXPORT) ≡ None → name space ≡ None
      → filter_map name (export_behind_notes words) ≡ filter_map name words
  same_names name of_key of_space =
      ap (filter_map name) form.with_export
      ∙ filter_map-append name form.front (export_first true ++ form.back)
      ∙ rw (of_key, of_space) (sym (filter_map-append name form.front form.back))
      ∙ ap (filter_map name) (sym form.are)

  pub same_binds : bound_in (export_behind_notes words) ≡ bound_in words
  same_binds = same_names bound_name refl refl

  -- they hold the keyword
  pub holds_export : list_any is_export_key (export_behind_notes words) ≡ true
  holds_export =
      ap (list_any is_export_key) form.with_export
      ∙ list_any-append is_export_key form.front (export_first true ++ form.back)
      ∙ or_true (list_any is_export_key form.front)
    where
      or_true : (b : Bool) → (b || true) ≡ true
      or_true true = refl
      or_true false = refl

-- a declaration is exported, and declares the same
pub exported_is_exported : (item : Item) (t : Thing) → item.role ≡ role.Declare t → is_exported (exported_item item) ≡ true
exported_is_exported item t declares = rw declares (holds_export item.words)

-- an item keeps its role, and what it binds
role_by : (r : Role) (item : Item) → (exported_by r item).role ≡ item.role
role_by (role.Declare t) item = refl
role_by r item = refl

binds_by : (r : Role) (item : Item) → bound_in (exported_by r item).words ≡ bound_in item.words
binds_by (role.Declare t) item = same_binds item.words
binds_by r item = refl

pub exported_role : (item : Item) → (exported_item item).role ≡ item.role
exported_role item = role_by item.role item

pub exported_binds : (item : Item) → bound_in (exported_item item).words ≡ bound_in item.words
exported_binds item = binds_by item.role item
