-- The parts of each expression, and of the statements before it, may stand beside one another.
use Rattle.std.proofs.Common.{◌≡◌, ℕ, List, [], ◌∷◌, ◌++◌, map, refl, ap, sym, subst, ◌∙◌, append_assoc, append-nil, Bool, true, false, Option, Some, None, inl}
use Rattle.std.specs.Prelude.{codes, option_map}
use Rattle.values.specs.Lists.{IsIn}
use Rattle.glue_words.specs.declared.word.Word.{Word}
use Rattle.glue_words.specs.Ident.{is_ident}
use Rattle.glue_words.proofs.Idents.{ascii_ident}
use Rattle.glue_words.specs.Spacing.{is_wasm, joins}
use Rattle.glue_words.specs.Tables.{punct_text}
use Rattle.glue_words.specs.declared.key.TheConstants as key
use Rattle.glue_shared.specs.declared.adapter.AdapterJsImportKind.{AdapterJsImportKind}
use Rattle.glue_shared.specs.declared.adapter.AdapterJsImportKind.TheVariants as calls
use Rattle.glue_shared.specs.declared.import.AuxImport.{AuxImport}
use Rattle.glue_shared.specs.declared.import.AuxImport.TheVariants as what
use Rattle.glue_shared.specs.declared.import.AuxValue.{AuxValue}
use Rattle.glue_shared.specs.declared.import.AuxValue.TheVariants as v
use Rattle.glue_shared.specs.declared.import.Intrinsic.{Intrinsic}
use Rattle.glue_shared.specs.declared.import.Intrinsic.TheVariants as i
use Rattle.glue_shared.specs.declared.import.JsImport.{JsImport}
use Rattle.glue_shared.specs.declared.import.JsImportName.{JsImportName}
use Rattle.glue_shared.specs.declared.name_map.NameMap.{NameMap}
use Rattle.glue_shared.specs.declared.settings.Settings.{Settings}
use Rattle.glue_shared.specs.declared.settings.Target.{Target}
use Rattle.glue_shared.specs.declared.settings.Target.TheVariants as targets
use Rattle.glue_shared.specs.Names.{js_import, names_of}
use Rattle.glue_imports.specs.declared.part.Part.{Part}
use Rattle.glue_imports.specs.declared.part.Part.TheVariants as part
use Rattle.glue_imports.specs.declared.part.Expression.{Expression}
use Rattle.glue_imports.specs.Definitions.{typeof_front, if_function, else_not_defined, function_or_throw}
use Rattle.glue_imports.specs.Given.{Given, constants_set, false_set, last_of, set_text, statements, table_filled, texts_from}
use Rattle.glue_imports.specs.Roots.{begins, begins_with, drawn_name, plain_name, root}
use Rattle.glue_imports.specs.Preludes.{plain, line_end, catch_front, close_line, result_is, instance_of, cast, linked, present}
use Rattle.glue_imports.specs.Expressions.{around, assigned, index, new_front, delete_front, accessor_front, owner, described_call, value_parts, static_parts, loaded, intrinsic_expression, expression}
use Rattle.glue_imports.specs.Intrinsics.{declares_instance, declares_module, name_if}
use Rattle.glue_tree.specs.FixedWords.{semicolon, comma}
use Rattle.glue_operands.proofs.Parts.{bound_places}
use Rattle.glue_operands.proofs.Standing.{parts_fit, expression_fits}

-- an expression, where there is one, fits
abbrev fit_if : Option Expression → Bool
fit_if None = true
fit_if (Some e) = expression_fits e

-- a drawn name, or without one the name of the host, is an identifier; a drawn one isn't `wasm`
abbrev pub IsBegunWell : (drawn : Option (List ℕ)) → (name : List ℕ) → Type 0
IsBegunWell (Some drawn) name = (is_ident drawn ≡ true) × (is_wasm drawn ≡ false)
IsBegunWell None name = is_ident name ≡ true

-- so it is with what stands for a described name
abbrev pub IsWell : NameMap → JsImportName → Type 0
IsWell m n = IsBegunWell (drawn_name m n) (plain_name n)

-- so it is with what an import begins with
abbrev pub IsNamedWell : NameMap → Option JsImport → Type 0
IsNamedWell m js = (n : JsImportName) → IsIn n (names_of js) → IsWell m n

-- ---- properties that are read of a name one after the other

-- parts that may stand behind a property may stand behind several
fields_fit : (count : ℕ) (next : Option Word) (behind : List Part) → ((x : List ℕ) → parts_fit count next (part.Property x ∷ behind) ≡ true)
    → (first : List ℕ) (fields : List (List ℕ)) → parts_fit count next (part.Property first ∷ (map part.Property fields ++ behind)) ≡ true
unfolding joins punct_text
fields_fit count next behind h first [] = h first
fields_fit count next behind h first (field ∷ fields) = rw (fields_fit count next behind h field fields) refl

-- a name with them stands where the name does, and where properties do
root_fit : (count : ℕ) (next : Option Word) (name : List ℕ) (fields : List (List ℕ)) (behind : List Part) → is_ident name ≡ true → is_wasm name ≡ false
    → parts_fit count next (part.Name name ∷ behind) ≡ true → ((x : List ℕ) → parts_fit count next (part.Property x ∷ behind) ≡ true)
    → parts_fit count next (part.Name name ∷ (map part.Property fields ++ behind)) ≡ true
unfolding joins punct_text
root_fit count next name [] behind ident other here after = here
root_fit count next name (field ∷ fields) behind ident other here after = rw (ident, other, fields_fit count next behind after field fields) refl

fields_places : (fields : List (List ℕ)) (behind : List Part) → bound_places (map part.Property fields ++ behind) ≡ bound_places behind
fields_places [] behind = refl
fields_places (field ∷ fields) behind = fields_places fields behind

-- ---- a value with parts before and behind it

-- parts that stand around any name, global or drawn
record FitAround (front behind : List Part) : Type 0 where
  host : (name : List ℕ) (fields : List (List ℕ)) → is_ident name ≡ true → expression_fits (plain (front ++ part.Host name fields ∷ behind)) ≡ true
  here : (name : List ℕ) → is_ident name ≡ true → is_wasm name ≡ false → parts_fit 0 (Some semicolon) (part.Name name ∷ behind) ≡ true
  after : (x : List ℕ) → parts_fit 0 (Some semicolon) (part.Property x ∷ behind) ≡ true
  before : (name : List ℕ) (parts : List Part) → parts_fit 0 (Some semicolon) (part.Name name ∷ parts) ≡ true
      → parts_fit 0 (Some semicolon) (front ++ part.Name name ∷ parts) ≡ true
  places : (parts : List Part) → bound_places (front ++ parts) ≡ bound_places parts
  none : bound_places behind ≡ []

plain_fit : (value : List Part) → parts_fit 0 (Some semicolon) value ≡ true → bound_places value ≡ [] → expression_fits (plain value) ≡ true
plain_fit value h k = rw (h, k) refl

around_fit : (m : NameMap) (front : List Part) (j : JsImport) (behind : List Part) → IsNamedWell m (Some j) → FitAround front behind
    → expression_fits (plain (around m front j behind)) ≡ true
around_fit m front j behind well f = by (drawn_name m j.name) (well j.name (inl refl))
  where
    drawn : (name : List ℕ) → is_ident name ≡ true → is_wasm name ≡ false
        → expression_fits (plain (front ++ (part.Name name ∷ (map part.Property j.fields ++ behind)))) ≡ true
    drawn name ident other =
        let rest = map part.Property j.fields ++ behind in
        plain_fit (front ++ part.Name name ∷ rest)
        (f.before name rest (root_fit 0 (Some semicolon) name j.fields behind ident other (f.here name ident other) f.after))
        (f.places (part.Name name ∷ rest) ∙ fields_places j.fields behind ∙ f.none)

    by : (o : Option (List ℕ)) → IsBegunWell o (plain_name j.name)
        → expression_fits (plain (front ++ (begins_with j.fields o (plain_name j.name) ++ behind))) ≡ true
    by None h = f.host (plain_name j.name) j.fields h
    by (Some name) h = drawn name h.0 h.1

-- what may stand behind a value by itself, and behind `new ` or `delete `
behind_alone : (behind : List Part) → ((name : List ℕ) (fields : List (List ℕ)) → is_ident name ≡ true → expression_fits (plain (part.Host name fields ∷ behind)) ≡ true)
    → ((name : List ℕ) → is_ident name ≡ true → is_wasm name ≡ false → parts_fit 0 (Some semicolon) (part.Name name ∷ behind) ≡ true)
    → ((x : List ℕ) → parts_fit 0 (Some semicolon) (part.Property x ∷ behind) ≡ true) → bound_places behind ≡ [] → FitAround [] behind
behind_alone behind host here after none =
    record { host = host; here = here; after = after; before = λ name parts h. h; places = λ parts. refl; none = none }

arguments_around : (spread : Bool) → FitAround [] (part.Arguments spread ∷ [])
unfolding joins punct_text
arguments_around spread = behind_alone _ (λ name fields h. rw h refl) (λ name h k. rw h refl) (λ x. refl) refl

method_around : (spread : Bool) → FitAround [] (part.Property (codes "call") ∷ part.Arguments spread ∷ [])
unfolding joins punct_text
method_around spread = behind_alone _ (λ name fields h. rw h refl) (λ name h k. rw (h, k) refl) (λ x. refl) refl

new_around : (spread : Bool) → FitAround new_front (part.Arguments spread ∷ [])
unfolding joins punct_text
new_around spread = record {
  host = λ name fields h. rw h refl;
  here = λ name h k. rw h refl;
  after = λ x. refl;
  before = λ name parts h. rw h refl;
  places = λ parts. refl;
  none = refl;
}

this_around : (spread : Bool) (property : List ℕ) → FitAround [] (part.Property property ∷ part.Arguments spread ∷ [])
unfolding joins punct_text
this_around spread property = behind_alone _ (λ name fields h. rw h refl) (λ name h k. rw (h, k) refl) (λ x. refl) refl

property_around : (property : List ℕ) → FitAround [] (part.Property property ∷ [])
unfolding joins punct_text
property_around property = behind_alone _ (λ name fields h. rw h refl) (λ name h k. rw (h, k) refl) (λ x. refl) refl

set_around : (property : List ℕ) → FitAround [] (part.Property property ∷ assigned 0)
unfolding joins punct_text
set_around property = behind_alone _ (λ name fields h. rw h refl) (λ name h k. rw (h, k) refl) (λ x. refl) refl

index_around : FitAround [] (index 0)
unfolding joins punct_text
index_around = behind_alone _ (λ name fields h. rw h refl) (λ name h k. rw (h, k) refl) (λ x. refl) refl

index_set_around : FitAround [] (index 0 ++ assigned 1)
unfolding joins punct_text
index_set_around = behind_alone _ (λ name fields h. rw h refl) (λ name h k. rw (h, k) refl) (λ x. refl) refl

delete_around : FitAround delete_front (index 0)
unfolding joins punct_text
delete_around = record {
  host = λ name fields h. rw h refl;
  here = λ name h k. rw (h, k) refl;
  after = λ x. refl;
  before = λ name parts h. rw h refl;
  places = λ parts. refl;
  none = refl;
}

inherited_ident : is_ident (codes "GetOwnOrInheritedPropertyDescriptor") ≡ true
inherited_ident = ascii_ident (codes "GetOwnOrInheritedPropertyDescriptor") refl

accessor_around : (of_instances : Bool) (field which : List ℕ) (spread : Bool) → FitAround accessor_front (owner of_instances ++ described_call field which spread)
unfolding joins punct_text
accessor_around true field which spread = record {
  host = λ name fields h. rw (h, inherited_ident) refl;
  here = λ name h k. rw (h, k) refl;
  after = λ x. refl;
  before = λ name parts h. rw (h, inherited_ident) refl;
  places = λ parts. refl;
  none = refl;
}
accessor_around false field which spread = record {
  host = λ name fields h. rw (h, inherited_ident) refl;
  here = λ name h k. rw h refl;
  after = λ x. refl;
  before = λ name parts h. rw (h, inherited_ident) refl;
  places = λ parts. refl;
  none = refl;
}

alone_around : FitAround [] []
unfolding joins punct_text
alone_around = behind_alone _ (λ name fields h. rw h refl) (λ name h k. rw h refl) (λ x. refl) refl

value_fit : (m : NameMap) (call : AdapterJsImportKind) (spread : Bool) (value : AuxValue) → IsNamedWell m (js_import (what.Value value))
    → expression_fits (plain (value_parts m call spread value)) ≡ true
value_fit m calls.Normal spread (v.Bare j) n = around_fit m [] j (part.Arguments spread ∷ []) n (arguments_around spread)
value_fit m calls.Method spread (v.Bare j) n = around_fit m [] j (part.Property (codes "call") ∷ part.Arguments spread ∷ []) n (method_around spread)
value_fit m calls.Constructor spread (v.Bare j) n = around_fit m new_front j (part.Arguments spread ∷ []) n (new_around spread)
value_fit m call spread (v.Getter j field) n =
    around_fit m accessor_front j (owner true ++ described_call field (codes "get") spread) n (accessor_around true field (codes "get") spread)
value_fit m call spread (v.ClassGetter j field) n =
    around_fit m accessor_front j (owner false ++ described_call field (codes "get") spread) n (accessor_around false field (codes "get") spread)
value_fit m call spread (v.Setter j field) n =
    around_fit m accessor_front j (owner true ++ described_call field (codes "set") spread) n (accessor_around true field (codes "set") spread)
value_fit m call spread (v.ClassSetter j field) n =
    around_fit m accessor_front j (owner false ++ described_call field (codes "set") spread) n (accessor_around false field (codes "set") spread)

-- ---- a value that may be absent

-- properties that are read one after the other of what may be absent
chain_fit : (first : List ℕ) (fields : List (List ℕ)) → parts_fit 0 (Some semicolon) (part.Chained first ∷ map part.Chained fields) ≡ true
unfolding joins punct_text
chain_fit first [] = refl
chain_fit first (field ∷ fields) = rw (chain_fit field fields) refl

chain_places : (fields : List (List ℕ)) → bound_places (map part.Chained fields) ≡ []
chain_places [] = refl
chain_places (field ∷ fields) = chain_places fields

undefined_ident : is_ident (codes "undefined") ≡ true
undefined_ident = ascii_ident (codes "undefined") refl

present_host : (name : List ℕ) (fields : List (List ℕ)) → is_ident name ≡ true → expression_fits (plain (present (part.Host name []) fields)) ≡ true
unfolding joins punct_text
present_host name [] h = rw (h, undefined_ident) refl
present_host name (field ∷ fields) h = rw (h, undefined_ident, chain_fit field fields, chain_places fields) refl

present_drawn : (name : List ℕ) (fields : List (List ℕ)) → is_ident name ≡ true → is_wasm name ≡ false
    → expression_fits (plain (present (part.Name name) fields)) ≡ true
unfolding joins punct_text
present_drawn name [] h k = rw (h, undefined_ident) refl
present_drawn name (field ∷ fields) h k = rw (h, k, undefined_ident, chain_fit field fields, chain_places fields) refl

static_fit : (m : NameMap) (j : JsImport) (optional : Bool) → IsNamedWell m (Some j) → expression_fits (plain (static_parts m j optional)) ≡ true
static_fit m j true n = by (drawn_name m j.name) (n j.name (inl refl))
  where
    by : (o : Option (List ℕ)) → IsBegunWell o (plain_name j.name) → expression_fits (plain (present (begins o (plain_name j.name)) j.fields)) ≡ true
    by None h = present_host (plain_name j.name) j.fields h
    by (Some name) h = present_drawn name j.fields h.0 h.1
static_fit m j false n =
    subst (λ (parts : List Part). expression_fits (plain parts) ≡ true) (append-nil (root m j)) (around_fit m [] j [] n alone_around)

-- ---- a test of instances

-- what stands behind the value
abbrev tested : List Part
tested = line_end ++ (catch_front ++ part.LineFeed ∷ result_is (part.Key key.FALSE ∷ line_end) ++ close_line)

-- the last of parts is a line feed
abbrev ends_line : List Part → Bool
ends_line [] = false
ends_line (part.LineFeed ∷ []) = true
ends_line (p ∷ []) = false
ends_line (p ∷ q ∷ parts) = ends_line (q ∷ parts)

fields_end : (first : Part) (fields : List (List ℕ)) (p : Part) (parts : List Part)
    → ends_line (first ∷ (map part.Property fields ++ p ∷ parts)) ≡ ends_line (p ∷ parts)
fields_end first [] p parts = by first
  where
    by : (q : Part) → ends_line (q ∷ p ∷ parts) ≡ ends_line (p ∷ parts)
    by part.LineFeed = refl
    by other = refl
fields_end first (field ∷ fields) p parts = by first (fields_end (part.Property field) fields p parts)
  where
    by : (q : Part) → ends_line (part.Property field ∷ (map part.Property fields ++ p ∷ parts)) ≡ ends_line (p ∷ parts)
        → ends_line (q ∷ part.Property field ∷ (map part.Property fields ++ p ∷ parts)) ≡ ends_line (p ∷ parts)
    by part.LineFeed h = h
    by other h = h

within : (fields : List (List ℕ)) (first rest : List Part) → (map part.Property fields ++ first) ++ rest ≡ map part.Property fields ++ (first ++ rest)
within fields first rest = append_assoc (map part.Property fields) first rest

instance_drawn : (name : List ℕ) (fields : List (List ℕ)) → is_ident name ≡ true → is_wasm name ≡ false
    → expression_fits (instance_of (part.Name name ∷ map part.Property fields)) ≡ true
unfolding joins punct_text
instance_drawn name fields h k =
    let rest = catch_front ++ part.LineFeed ∷ result_is (part.Key key.FALSE ∷ line_end) ++ close_line in
    let fit = root_fit 2 None name fields tested h k (rw h refl) (λ x. refl) in
    let ends : ends_line (part.Name name ∷ (map part.Property fields ++ tested)) ≡ true = fields_end (part.Name name) fields _ _ in
    rw (within fields line_end rest, fit, ends, fields_places fields tested) refl

instance_fit : (m : NameMap) (j : JsImport) → IsNamedWell m (Some j) → expression_fits (instance_of (root m j)) ≡ true
unfolding joins punct_text
instance_fit m j n = by (drawn_name m j.name) (n j.name (inl refl))
  where
    by : (o : Option (List ℕ)) → IsBegunWell o (plain_name j.name) → expression_fits (instance_of (begins_with j.fields o (plain_name j.name))) ≡ true
    by None h = rw h refl
    by (Some name) h = instance_drawn name j.fields h.0 h.1

-- ---- intrinsics, links and casts

-- a name that the file has
loaded_fit : (declared : Bool) (name : List ℕ) → is_ident name ≡ true → fit_if (option_map loaded (name_if declared name)) ≡ true
unfolding joins punct_text
loaded_fit true name h = rw h refl
loaded_fit false name h = refl

-- ---- the table of references, filled

-- a text that is set as a statement, with those behind it
texts_fit : (place : ℕ) (text : List ℕ) (slot : ℕ × List ℕ) (slots : List (ℕ × List ℕ))
    → (parts_fit 1 None (statements (set_text (place, text)) (slot ∷ slots)) ≡ true) × (ends_line (statements (set_text (place, text)) (slot ∷ slots)) ≡ true)
unfolding joins punct_text
texts_fit place text slot [] = (refl, refl)
texts_fit place text slot (next ∷ slots) = let rest = texts_fit slot.0 slot.1 next slots in (rw rest.0 refl, rw rest.1 refl)

texts_places : (place : ℕ) (text : List ℕ) (slots : List (ℕ × List ℕ)) → bound_places (statements (set_text (place, text)) slots) ≡ []
texts_places place text [] = refl
texts_places place text (slot ∷ slots) = texts_places slot.0 slot.1 slots

-- the last one is the expression
last_fit : (place : ℕ) (text : List ℕ) (slots : List (ℕ × List ℕ))
    → (parts_fit 1 (Some semicolon) (last_of (set_text (place, text)) slots) ≡ true) × (bound_places (last_of (set_text (place, text)) slots) ≡ [])
unfolding joins punct_text
last_fit place text [] = (refl, refl)
last_fit place text (slot ∷ slots) = last_fit slot.0 slot.1 slots

-- the constants, and the texts behind them
constants_fit : (name : List ℕ) (slots : List (ℕ × List ℕ))
    → (parts_fit 1 None (constants_set name ++ statements false_set slots) ≡ true) × (ends_line (constants_set name ++ statements false_set slots) ≡ true)
unfolding joins punct_text
constants_fit name [] = (rw undefined_ident refl, refl)
constants_fit name (slot ∷ []) = (rw undefined_ident refl, refl)
constants_fit name (slot ∷ next ∷ slots) = let rest = texts_fit slot.0 slot.1 next slots in (rw (undefined_ident, rest.0) refl, rw rest.1 refl)

-- they bind no local behind the first one
false_places : (slots : List (ℕ × List ℕ)) → bound_places (statements false_set slots) ≡ []
false_places [] = refl
false_places (slot ∷ slots) = texts_places slot.0 slot.1 slots

false_fit : (slots : List (ℕ × List ℕ)) → (parts_fit 1 (Some semicolon) (last_of false_set slots) ≡ true) × (bound_places (last_of false_set slots) ≡ [])
unfolding joins punct_text
false_fit [] = (refl, refl)
false_fit (slot ∷ slots) = last_fit slot.0 slot.1 slots

table_fit : (externref : Bool) (g : Given) → fit_if (table_filled externref g) ≡ true
table_fit true g =
    let texts = texts_from 1028 g.slots in
    let above = constants_fit g.export texts in
    let value = false_fit texts in
    rw (above.0, above.1, false_places texts, value.0, value.1) refl
table_fit false g = refl

intrinsic_fit : (target : Target) (externref : Bool) (g : Given) (bound : Bool) (name : Intrinsic)
    → fit_if (intrinsic_expression target externref g bound name) ≡ true
unfolding joins punct_text
intrinsic_fit target externref g true i.ObjectCloneRef = refl
intrinsic_fit target externref g true i.ObjectDropRef = refl
intrinsic_fit target externref g false i.ObjectCloneRef = refl
intrinsic_fit target externref g false i.ObjectDropRef = refl
intrinsic_fit target externref g bound i.IsUndefined = rw undefined_ident refl
intrinsic_fit target externref g bound i.Reinit = rw undefined_ident refl
intrinsic_fit target externref g bound i.Throw = rw (ascii_ident (codes "Error") refl) refl
intrinsic_fit target externref g bound i.CopyToTypedArray = rw (ascii_ident (codes "Uint8Array") refl) refl
intrinsic_fit target externref g bound i.StringFromUtf8Lossy = rw (ascii_ident (codes "decodeText") refl) refl
intrinsic_fit target true g bound i.InitExternrefTable = table_fit true g
intrinsic_fit target false g bound i.InitExternrefTable = refl
intrinsic_fit target externref g bound i.DebugString = rw (ascii_ident (codes "debugString") refl) refl
intrinsic_fit target externref g bound i.PanicError = rw (ascii_ident (codes "PanicError") refl) refl
intrinsic_fit target externref g bound i.NumberGet = rw undefined_ident refl
intrinsic_fit target externref g bound i.StringGet = rw undefined_ident refl
intrinsic_fit target externref g bound i.BooleanGet = rw undefined_ident refl
intrinsic_fit target externref g bound i.BigIntGetAsI64 = rw undefined_ident refl
intrinsic_fit target externref g bound i.CheckedDiv = rw (ascii_ident (codes "RangeError") refl) refl
intrinsic_fit target true g bound i.ExternrefHeapLiveCount = refl
intrinsic_fit target false g bound i.ExternrefHeapLiveCount = rw (ascii_ident (codes "heap") refl, ascii_ident (codes "heap_next") refl) refl
intrinsic_fit target externref g bound i.Instance =
    loaded_fit (declares_instance target) (codes "wasmInstance") (ascii_ident (codes "wasmInstance") refl)
intrinsic_fit target externref g bound i.Module =
    loaded_fit (declares_module target) (codes "wasmModule") (ascii_ident (codes "wasmModule") refl)
intrinsic_fit target externref g bound other = refl

url_ident : is_ident (codes "URL") ≡ true
url_ident = ascii_ident (codes "URL") refl

link_fit : (split : Bool) (target : Target) (path : List ℕ) (content : Option (List ℕ)) → fit_if (linked split target path content) ≡ true
unfolding joins punct_text
link_fit true (targets.NoModules global) path content = refl
link_fit true (targets.Node false) path content = refl
link_fit true (targets.Node true) path content = rw url_ident refl
link_fit true other path content = rw url_ident refl
link_fit false target path None = refl
link_fit false target path (Some content) = rw (
  url_ident,
  ascii_ident (codes "encodeURIComponent") refl,
  ascii_ident (codes "Blob") refl,
  ascii_ident (codes "type") refl,
) refl

cast_fit : (bound : Bool) (comment : List ℕ) → expression_fits (cast bound comment) ≡ true
unfolding joins punct_text
cast_fit true comment = refl
cast_fit false comment = refl

-- ---- each kind

text_fits : (s : Settings) (m : NameMap) (g : Given) (call : AdapterJsImportKind) (spread bound : Bool) (w : AuxImport) → IsNamedWell m (js_import w)
    → fit_if (expression s m g call spread bound w) ≡ true
unfolding joins punct_text
text_fits s m g call spread bound (what.Value value) n = value_fit m call spread value n
text_fits s m g call spread bound (what.ValueWithThis j property) n =
    around_fit m [] j (part.Property property ∷ part.Arguments spread ∷ []) n (this_around spread property)
text_fits s m g call spread bound (what.Instanceof j) n = instance_fit m j n
text_fits s m g call spread bound (what.Static j optional) n = static_fit m j optional n
text_fits s m g call spread bound (what.Cast comment) n = cast_fit bound comment
text_fits s m g call spread bound (what.StructuralClassGetter j property) n = around_fit m [] j (part.Property property ∷ []) n (property_around property)
text_fits s m g call spread bound (what.StructuralClassSetter j property) n =
    around_fit m [] j (part.Property property ∷ assigned 0) n (set_around property)
text_fits s m g call spread bound (what.IndexingGetterOfClass j) n = around_fit m [] j (index 0) n index_around
text_fits s m g call spread bound (what.IndexingSetterOfClass j) n = around_fit m [] j (index 0 ++ assigned 1) n index_set_around
text_fits s m g call spread bound (what.IndexingDeleterOfClass j) n = around_fit m delete_front j (index 0) n delete_around
text_fits s m g call spread bound (what.LinkTo path content) n = link_fit s.split_linked_modules s.target path content
text_fits s m g call spread bound (what.Intrinsic name) n = intrinsic_fit s.target s.externref g bound name
text_fits s m g call spread bound other n = refl

-- an expression fits whose global is an identifier, and so is its drawn name, which isn't `wasm`
pub expression_fit : (s : Settings) (m : NameMap) (g : Given) (call : AdapterJsImportKind) (spread bound : Bool) (w : AuxImport) (e : Expression)
    → IsNamedWell m (js_import w) → expression s m g call spread bound w ≡ Some e → expression_fits e ≡ true
expression_fit s m g call spread bound w e n h = ap fit_if (sym h) ∙ text_fits s m g call spread bound w n

-- ---- the definition of an import by a value

not_defined_ident : is_ident (codes "notDefined") ≡ true
not_defined_ident = ascii_ident (codes "notDefined") refl

function_drawn : (name : List ℕ) (fields : List (List ℕ)) (text : List ℕ) → is_ident name ≡ true → is_wasm name ≡ false
    → parts_fit 0 (Some comma) (typeof_front ++ (part.Name name ∷ (map part.Property fields
    ++ (if_function ++ (part.Name name ∷ (map part.Property fields ++ else_not_defined text)))))) ≡ true
unfolding joins punct_text
function_drawn name fields text ident other =
    let last = else_not_defined text in
    let second = root_fit 0 (Some comma) name fields last ident other (rw (ident, not_defined_ident) refl) (λ x. rw not_defined_ident refl) in
    let rest = if_function ++ (part.Name name ∷ (map part.Property fields ++ last)) in
    let first = root_fit 0 (Some comma) name fields rest ident other (rw (ident, second) refl) (λ x. rw second refl) in
    rw first refl

-- it may stand before a comma
pub function_fit : (m : NameMap) (j : JsImport) (text : List ℕ) → IsNamedWell m (Some j) → parts_fit 0 (Some comma) (function_or_throw m j text) ≡ true
unfolding joins punct_text
function_fit m j text n = by (drawn_name m j.name) (n j.name (inl refl))
  where
    by : (o : Option (List ℕ)) → IsBegunWell o (plain_name j.name)
        → (let value = begins_with j.fields o (plain_name j.name) in
        parts_fit 0 (Some comma) (typeof_front ++ (value ++ (if_function ++ (value ++ else_not_defined text)))) ≡ true)
    by None h = rw (h, not_defined_ident) refl
    by (Some name) h = function_drawn name j.fields text h.0 h.1
