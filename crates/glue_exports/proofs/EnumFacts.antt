-- What the declaration of an enum declares, uses and takes of the host, and where it stands: for any described enum and name.
use Rattle.std.proofs.Common.{◌≡◌, ℕ, ℤ, List, [], ◌∷◌, ◌++◌, map, refl, ap, sym, ◌∙◌, subst, append_assoc, inl, Bool, true, false}
use Rattle.std.specs.Prelude.{◌||◌, Option, Some, None, codes}
use Rattle.std.specs.List.{flat_map, list_all, list_any}
use Rattle.glue_words.specs.declared.punct.TheConstants as punct
use Rattle.glue_words.specs.declared.key.TheConstants as key
use Rattle.glue_words.specs.declared.word.NoteKind.TheVariants.{Open}
use Rattle.glue_words.specs.declared.word.Word.{Word}
use Rattle.glue_words.specs.declared.word.Word.TheVariants as w
use Rattle.glue_words.specs.Facts.{Facts, Levels, Last, Below, Declares, facts, joined, meets_well}
use Rattle.glue_words.specs.Ident.{is_ident}
use Rattle.glue_words.specs.Limits.{is_prop}
use Rattle.glue_words.specs.Linking.{AreAmong}
use Rattle.glue_words.specs.Names.{bound_in, used_in, hosted_in, local_in, local_bound_in, wasm_in, spliced_in, is_export_key}
use Rattle.glue_words.specs.Spacing.{joins}
use Rattle.glue_words.specs.Tables.{punct_text}
use Rattle.glue_words.specs.Words.{line_feed}
use Rattle.glue_words.proofs.Belonging.{Context, Belongs, StandAlone}
use Rattle.glue_words.proofs.Fitting.{Fits, fits_alone, belongs_by_facts}
use Rattle.glue_words.proofs.Idents.{ascii_ident, ascii_prop}
use Rattle.glue_words.proofs.Joined.{joined_are}
use Rattle.glue_words.proofs.LocalFacts.{of_locals}
use Rattle.glue_shared.specs.declared.aux.AuxEnum.{AuxEnum}
use Rattle.glue_targets.specs.RoleWords.{export_first}
use Rattle.glue_exports.specs.Enums.{Variant, entry_words, variant_words, assigned_start, freeze_start, object_end, object_words}
use Rattle.glue_exports.specs.Enums.{enum_lines, enum_item, enum_definition}
use Rattle.glue_exports.specs.Notes.{comment_lines, note_words, note_of}
use Rattle.glue_exports.specs.Printed.{exported_item}
use Rattle.glue_exports.specs.Sound.{IsDeclaration}
use Rattle.glue_exports.proofs.NoteFacts.{note_are, behind_note}

-- ---- variants

-- what notes do, where there are any: the last one is closed
abbrev noted_turn : Bool → Option Bool
noted_turn true = Some false
noted_turn false = None

-- words that hold names of properties alone, with notes or without, between these two words
abbrev of_props : List (List ℕ) → (noted : Bool) → Levels → (first last : Word) → Facts
of_props props noted levels first last =
    record (of_locals [] [] first last) { props = props; turn = noted_turn noted; levels = levels }

entry_are : (name : List ℕ) (number : ℤ)
    → facts (entry_words name number) ≡ of_props (name ∷ []) false (Last [] 0) (w.Prop name) line_feed
unfolding joins punct_text
entry_are name number = refl

-- there are lines
abbrev is_noted : List (List ℕ) → Bool
is_noted [] = false
is_noted (text ∷ texts) = true

abbrev first_of : (lines : List (List ℕ)) → List ℕ → Word
first_of [] name = w.Prop name
first_of (text ∷ texts) name = w.Note Open []

noted_are : (lines : List (List ℕ)) (name : List ℕ) (number : ℤ)
    → facts (note_of lines ++ entry_words name number)
    ≡ of_props (name ∷ []) (is_noted lines) (Last [] 0) (first_of lines name) line_feed
noted_are [] name number = entry_are name number
noted_are (text ∷ texts) name number =
    joined_are (note_words (text ∷ texts)) (entry_words name number) _ _ (note_are (text ∷ texts)) (entry_are name number)

-- ---- variants up to the end of the object

abbrev pub variant_names : List Variant → List (List ℕ)
variant_names variants = map (λ v. v.0) variants

abbrev are_noted : List Variant → Bool
are_noted [] = false
are_noted (v ∷ vs) = is_noted (comment_lines v.2) || are_noted vs

abbrev front_of : List Variant → Word
front_of [] = w.Punct punct.CLOSE_BRACE
front_of (v ∷ vs) = first_of (comment_lines v.2) v.0

first_stands : (lines : List (List ℕ)) (name : List ℕ) → meets_well line_feed (first_of lines name) ≡ true
first_stands [] name = refl
first_stands (text ∷ texts) name = refl

front_stands : (vs : List Variant) → meets_well line_feed (front_of vs) ≡ true
front_stands [] = refl
front_stands (v ∷ vs) = first_stands (comment_lines v.2) v.0

variants_joined : (a b : Bool) (name : List ℕ) (names : List (List ℕ)) (first next : Word) → meets_well line_feed next ≡ true
    → joined (of_props (name ∷ []) a (Last [] 0) first line_feed) (of_props names b (Below [] (Last [] 0)) next line_feed)
    ≡ of_props (name ∷ names) (a || b) (Below [] (Last [] 0)) first line_feed
variants_joined true true name names first next h = rw h refl
variants_joined true false name names first next h = rw h refl
variants_joined false true name names first next h = rw h refl
variants_joined false false name names first next h = rw h refl

variants_are : (vs : List Variant)
    → facts (flat_map variant_words vs ++ object_end)
    ≡ of_props (variant_names vs) (are_noted vs) (Below [] (Last [] 0)) (front_of vs) line_feed
unfolding joins punct_text
variants_are [] = refl
variants_are (v ∷ vs) =
    ap facts (append_assoc (variant_words v) (flat_map variant_words vs) object_end)
    ∙ joined_are (variant_words v) (flat_map variant_words vs ++ object_end) _ _ (noted_are (comment_lines v.2) v.0 v.1) (variants_are vs)
    ∙ variants_joined (is_noted (comment_lines v.2)) (are_noted vs) v.0 (variant_names vs) (first_of (comment_lines v.2) v.0)
    (front_of vs) (front_stands vs)

-- ---- the object

-- words that declare this name, take `Object` of the host and name these properties, exported or not
abbrev of_enum : (exported : Bool) → List ℕ → (props : List (List ℕ)) → (turn : Option Bool) → Levels → (first : Word) → Facts
of_enum exported name props turn levels first =
    record (of_locals [] [] first line_feed) {
      binds = name ∷ [];
      hosts = codes "Object" ∷ [];
      hosts_now = codes "Object" ∷ [];
      props = props;
      order = Declares name ∷ [];
      turn = turn;
      levels = levels;
      exported = exported;
    }

-- the first word
abbrev object_key : Bool → Word
object_key true = w.Key key.EXPORT
object_key false = w.Key key.CONST

start_are : (exported : Bool) (name : List ℕ)
    → facts (export_first exported ++ (assigned_start name ++ freeze_start))
    ≡ of_enum exported name (codes "freeze" ∷ []) None (Last [] 1) (object_key exported)
unfolding joins punct_text
start_are true name = refl
start_are false name = refl

-- the object, exported or not
abbrev pub published_object : (exported : Bool) → List ℕ → List Variant → List Word
published_object exported name variants = export_first exported ++ object_words name variants

object_joined : (exported noted : Bool) (name : List ℕ) (names : List (List ℕ)) (next : Word) → meets_well line_feed next ≡ true
    → joined (of_enum exported name (codes "freeze" ∷ []) None (Last [] 1) (object_key exported))
    (of_props names noted (Below [] (Last [] 0)) next line_feed)
    ≡ of_enum exported name (codes "freeze" ∷ names) (noted_turn noted) (Last [] 0) (object_key exported)
object_joined true true name names next h = rw h refl
object_joined true false name names next h = rw h refl
object_joined false true name names next h = rw h refl
object_joined false false name names next h = rw h refl

object_split : (exported : Bool) (name : List ℕ) (variants : List Variant)
    → published_object exported name variants
    ≡ (export_first exported ++ (assigned_start name ++ freeze_start)) ++ (flat_map variant_words variants ++ object_end)
object_split true name variants = refl
object_split false name variants = refl

object_are : (exported : Bool) (name : List ℕ) (vs : List Variant)
    → facts (published_object exported name vs)
    ≡ of_enum exported name (codes "freeze" ∷ variant_names vs) (noted_turn (are_noted vs)) (Last [] 0) (object_key exported)
object_are exported name vs =
    ap facts (object_split exported name vs)
    ∙ joined_are (export_first exported ++ (assigned_start name ++ freeze_start)) (flat_map variant_words vs ++ object_end) _ _
    (start_are exported name) (variants_are vs)
    ∙ object_joined exported (are_noted vs) name (variant_names vs) (front_of vs) (front_stands vs)

-- ---- the enum

enum_joined : (exported noted : Bool) (name : List ℕ) (props : List (List ℕ))
    → joined (record (of_locals [] [] (w.Note Open []) (line_feed)) { turn = Some false })
    (of_enum exported name props (noted_turn noted) (Last [] 0) (object_key exported))
    ≡ of_enum exported name props (Some false) (Last [] 0) (w.Note Open [])
enum_joined true true name props = refl
enum_joined true false name props = refl
enum_joined false true name props = refl
enum_joined false false name props = refl

-- words that declare this name, take `Object` of the host, and hold no other name but those of properties: none of the
-- module that they use, no local one, no export, no computed key
pub record DeclaresEnum (name : List ℕ) (exported : Bool) (words : List Word) : Type 0 where
  pub binds : bound_in words ≡ name ∷ []
  pub hosts : hosted_in words ≡ codes "Object" ∷ []
  pub uses : used_in words ≡ []
  pub local_binds : local_bound_in words ≡ []
  pub locals : local_in words ≡ []
  pub takes : wasm_in words ≡ []
  pub keys : spliced_in words ≡ []
  pub keyword : list_any is_export_key words ≡ exported

module _ (e : AuxEnum) (name : List ℕ) where
  -- the words of an enum, exported or not
  abbrev pub declared_words : (exported : Bool) → List Word
  declared_words exported = note_words (enum_lines e) ++ published_object exported name e.variants

  abbrev props : List (List ℕ)
  props = codes "freeze" ∷ variant_names e.variants

  enum_are : (exported : Bool)
      → facts (declared_words exported) ≡ of_enum exported name props (Some false) (Last [] 0) (w.Note Open [])
  enum_are exported =
      joined_are (note_words (enum_lines e)) (published_object exported name e.variants) _ _ (note_are (enum_lines e))
      (object_are exported name e.variants)
      ∙ enum_joined exported (are_noted e.variants) name props

  -- an exported enum has `export ` behind its note
  pub exported_words : (exported_item (enum_item e name)).words ≡ declared_words true
  exported_words = behind_note (enum_lines e) (object_words name e.variants)

  -- what the words of an enum hold
  pub enum_declares : (exported : Bool) → DeclaresEnum name exported (declared_words exported)
  enum_declares exported =
      let are = enum_are exported in
      record {
        binds = ap (λ (f : Facts). f.binds) are;
        hosts = ap (λ (f : Facts). f.hosts) are;
        uses = ap (λ (f : Facts). f.uses) are;
        local_binds = ap (λ (f : Facts). f.local_binds) are;
        locals = ap (λ (f : Facts). f.locals) are;
        takes = ap (λ (f : Facts). f.takes) are;
        keys = ap (λ (f : Facts). f.keys) are;
        keyword = ap (λ (f : Facts). f.exported) are;
      }

  -- what is published for an enum declares it
  pub enum_is_declaration : IsDeclaration (enum_definition e name)
  enum_is_declaration =
      let d = enum_declares false in
      record {
        before = [];
        item = enum_item e name;
        after = [];
        are = refl;
        declares = refl;
        binds = d.binds;
        unexported = d.keyword;
        plain = refl;
      }

  -- it fits where the host gives `Object`, if the name that it goes by is an identifier, and its variants are named so that
  -- the names may stand for properties
  pub enum_fits : (c : Context) (exported : Bool) → is_ident name ≡ true → list_all is_prop (variant_names e.variants) ≡ true
      → AreAmong (codes "Object" ∷ []) c.hosts → Fits c (facts (declared_words exported))
  enum_fits c exported ident named known =
      subst (Fits c) (sym (enum_are exported)) (record {
        alone = refl;
        idents = rw (ident, ascii_ident (codes "Object") refl) refl;
        props = rw (ascii_prop (codes "freeze") refl) named;
        resolved = tt;
        known = known;
        local = tt;
        apart = tt;
        taken = tt;
        described = tt;
        formed = refl;
        opened = tt;
        gated = tt;
      })

  -- it stands alone, and belongs into such a file
  pub enum_belongs : (c : Context) (exported : Bool) → is_ident name ≡ true → list_all is_prop (variant_names e.variants) ≡ true
      → AreAmong (codes "Object" ∷ []) c.hosts → Belongs c (declared_words exported)
  enum_belongs c exported ident named known = belongs_by_facts c (declared_words exported) (enum_fits c exported ident named known)

  pub enum_alone : (exported : Bool) → is_ident name ≡ true → list_all is_prop (variant_names e.variants) ≡ true
      → StandAlone (declared_words exported)
  enum_alone exported ident named =
      let host_names : Context = record { hosts = codes "Object" ∷ []; exports = []; keys = []; declared = [] } in
      fits_alone host_names (declared_words exported) (enum_fits host_names exported ident named (inl refl, tt))
