-- Words behind the note of a comment, where there is one: they belong where they do by themselves, and declare, use and export the same.
use Rattle.std.proofs.Common.{◌≡◌, ℕ, Bool, true, false, List, [], ◌∷◌, ◌++◌, refl, sym, ap, subst, ◌∙◌}
use Rattle.std.proofs.lemmas.List.Elements.{filter_map-append}
use Rattle.std.proofs.lemmas.List.Folds.{list_any-append}
use Rattle.std.specs.List.{list_any}
use Rattle.glue_words.specs.declared.word.NoteKind.TheVariants.{Open}
use Rattle.glue_words.specs.declared.word.Word.{Word}
use Rattle.glue_words.specs.declared.word.Word.TheVariants as w
use Rattle.glue_words.specs.Facts.{Facts, facts}
use Rattle.glue_words.specs.Names.{bound_in, bound_name, is_export_key, used_in, hosted_in, local_bound_in}
use Rattle.glue_words.specs.Words.{line_feed}
use Rattle.glue_words.proofs.Belonging.{Context, Belongs}
use Rattle.glue_words.proofs.Fitting.{Fits, belongs_by_facts}
use Rattle.glue_words.proofs.LocalFacts.{of_locals}
use Rattle.glue_targets.specs.RoleWords.{export_first}
use Rattle.glue_exports.specs.Notes.{note_words, note_of}
use Rattle.glue_exports.specs.Printed.{export_behind_notes}
use Rattle.glue_exports.proofs.Behind.{behind_belong}
use Rattle.glue_exports.proofs.NoteFacts.{note_are, behind_note}

-- a note belongs into any file
note_belongs : (c : Context) (texts : List (List ℕ)) → Belongs c (note_words texts)
note_belongs c texts = belongs_by_facts c (note_words texts) (subst (Fits c) (sym (note_are texts)) (record {
  alone = refl;
  idents = refl;
  props = refl;
  resolved = tt;
  known = tt;
  local = tt;
  apart = tt;
  taken = tt;
  described = tt;
  formed = refl;
  opened = tt;
  gated = tt;
}))

note_binds : (texts : List (List ℕ)) → bound_in (note_of texts) ≡ []
note_binds [] = refl
note_binds (text ∷ texts) = ap (λ (f : Facts). f.binds) (note_are (text ∷ texts))

note_unexported : (texts : List (List ℕ)) → list_any is_export_key (note_of texts) ≡ false
note_unexported [] = refl
note_unexported (text ∷ texts) = ap (λ (f : Facts). f.exported) (note_are (text ∷ texts))

-- words belong behind a note where they do by themselves
pub noted_belong : (c : Context) (texts : List (List ℕ)) (words : List Word) → Belongs c words → Belongs c (note_of texts ++ words)
noted_belong c [] words b = b
noted_belong c (text ∷ texts) words b =
    let are = note_are (text ∷ texts) in
    behind_belong c (note_words (text ∷ texts)) words (note_belongs c (text ∷ texts)) b
    (ap (λ (f : Facts). f.uses) are) (ap (λ (f : Facts). f.hosts) are) (ap (λ (f : Facts). f.local_binds) are)

-- they declare the same
pub noted_binds : (texts : List (List ℕ)) (words : List Word) → bound_in (note_of texts ++ words) ≡ bound_in words
noted_binds texts words =
    filter_map-append bound_name (note_of texts) words ∙ ap (λ (names : List (List ℕ)). names ++ bound_in words) (note_binds texts)

-- and are exported where they are by themselves
pub noted_unexported : (texts : List (List ℕ)) (words : List Word) → list_any is_export_key words ≡ false
    → list_any is_export_key (note_of texts ++ words) ≡ false
noted_unexported texts words h = list_any-append is_export_key (note_of texts) words ∙ rw (note_unexported texts, h) refl

-- `export ` stands behind the note, before a keyword
pub noted_exported : (texts : List (List ℕ)) (k : ℕ) (words : List Word)
    → export_behind_notes (note_of texts ++ w.Key k ∷ words) ≡ note_of texts ++ (export_first true ++ w.Key k ∷ words)
noted_exported [] k words = refl
noted_exported (text ∷ texts) k words = behind_note (text ∷ texts) (w.Key k ∷ words)
