-- An import that is called with as many arguments as it takes has each operand that its expression names.
use Rattle.std.proofs.Common.{◌≡◌, ℕ, ◌+◌, ◌==◌, ◌≤◌, List, [], ◌∷◌, ◌++◌, map, refl, sym, ap, ◌∙◌, subst, Bool, true, false, Option, Some, None, arith}
use Rattle.std.proofs.lemmas.Bool.{and_parts}
use Rattle.std.proofs.lemmas.List.{append-nil}
use Rattle.std.proofs.lemmas.Bool.Decides.{nat_tests}
use Rattle.std.specs.Prelude.{◌||◌, not, max, nat_le, codes, option_map}
use Rattle.glue_words.specs.declared.key.TheConstants as key
use Rattle.glue_shared.specs.declared.adapter.AdapterJsImportKind.{AdapterJsImportKind}
use Rattle.glue_shared.specs.declared.adapter.AdapterJsImportKind.TheVariants as calls
use Rattle.glue_shared.specs.declared.import.AuxImport.{AuxImport}
use Rattle.glue_shared.specs.declared.import.AuxImport.TheVariants as what
use Rattle.glue_shared.specs.declared.import.AuxValue.{AuxValue}
use Rattle.glue_shared.specs.declared.import.AuxValue.TheVariants as v
use Rattle.glue_shared.specs.declared.import.Intrinsic.{Intrinsic}
use Rattle.glue_shared.specs.declared.import.Intrinsic.TheVariants as i
use Rattle.glue_shared.specs.declared.import.JsImport.{JsImport}
use Rattle.glue_shared.specs.declared.name_map.NameMap.{NameMap}
use Rattle.glue_shared.specs.declared.settings.Settings.{Settings}
use Rattle.glue_shared.specs.declared.settings.Target.{Target}
use Rattle.glue_shared.specs.declared.settings.Target.TheVariants as targets
use Rattle.glue_imports.specs.declared.part.Part.{Part}
use Rattle.glue_imports.specs.declared.part.Part.TheVariants as part
use Rattle.glue_imports.specs.declared.part.Expression.{Expression}
use Rattle.glue_imports.specs.Roots.{begins, begins_with, drawn_name, plain_name, root}
use Rattle.glue_imports.specs.Preludes.{line_end, catch_front, result_is, close_line, plain, instance_of, cast, linked, present}
use Rattle.glue_imports.specs.Given.{Given, false_set, last_of, set_text, statements, table_filled, texts_from}
use Rattle.glue_imports.specs.Expressions.{around, assigned, index, new_front, delete_front, accessor_front, owner, described_call, accessor, value_parts, static_parts, parts_of, loaded, intrinsic_expression, expression}
use Rattle.glue_imports.specs.Intrinsics.{declares_instance, declares_module, name_if}
use Rattle.glue_adapters.specs.Called.{intrinsic_count, argument_count, is_count, may_spread, fewest, fits_count}

-- how many operands there have to be for one that a part names
abbrev asked : Part → ℕ
asked (part.Operand n) = n + 1
asked (part.Whole n) = n + 1
asked other = 0

-- and for all that parts name
abbrev pub operands_asked : List Part → ℕ
operands_asked [] = 0
operands_asked (p ∷ parts) = max (asked p) (operands_asked parts)

abbrev parts_asked_if : Option (List Part) → ℕ
parts_asked_if None = 0
parts_asked_if (Some parts) = operands_asked parts

-- for an expression and the statements before it
abbrev pub expression_asked : Expression → ℕ
expression_asked e = operands_asked (e.prelude ++ e.value)

abbrev asked_if : Option Expression → ℕ
asked_if None = 0
asked_if (Some e) = expression_asked e

plain_asked : (o : Option (List Part)) → asked_if (option_map plain o) ≡ parts_asked_if o
plain_asked None = refl
plain_asked (Some parts) = refl

-- no more operands than are counted; none where they aren't
abbrev suffices : Option ℕ → ℕ → Bool
suffices None n = n == 0
suffices (Some wanted) n = nat_le n wanted

given : (o : Option ℕ) (n count : ℕ) → suffices o n ≡ true → is_count o count ≡ true → n ≤ count
given None n count h k = grind (arith, nat_tests)
given (Some wanted) n count h k = grind (arith, nat_tests)

-- ---- what an import begins with asks for none

zero_max : (n : ℕ) → max 0 n ≡ n
zero_max n = omega arith

fields_asked : (fields : List (List ℕ)) (behind : List Part) → operands_asked (map part.Property fields ++ behind) ≡ operands_asked behind
fields_asked [] behind = refl
fields_asked (field ∷ fields) behind = zero_max (operands_asked (map part.Property fields ++ behind)) ∙ fields_asked fields behind

root_asked : (m : NameMap) (js : JsImport) (behind : List Part) → operands_asked (root m js ++ behind) ≡ operands_asked behind
root_asked m js behind = by (drawn_name m js.name)
  where
    by : (drawn : Option (List ℕ)) → operands_asked (begins_with js.fields drawn (plain_name js.name) ++ behind) ≡ operands_asked behind
    by None = zero_max (operands_asked behind)
    by (Some drawn) = zero_max (operands_asked (map part.Property js.fields ++ behind)) ∙ fields_asked js.fields behind

around_asked : (m : NameMap) (front : List Part) (js : JsImport) (behind : List Part) → operands_asked (around m front js behind) ≡ operands_asked (front ++ behind)
around_asked m [] js behind = root_asked m js behind
around_asked m (p ∷ front) js behind = ap (max (asked p)) (around_asked m front js behind)

around_suffices : (o : Option ℕ) (m : NameMap) (front : List Part) (js : JsImport) (behind : List Part)
    → suffices o (operands_asked (front ++ behind)) ≡ true → suffices o (operands_asked (around m front js behind)) ≡ true
around_suffices o m front js behind h = ap (suffices o) (around_asked m front js behind) ∙ h

-- nor where they stand in the middle
fields_within : (fields : List (List ℕ)) (first second third : List Part)
    → operands_asked (((map part.Property fields ++ first) ++ second) ++ third) ≡ operands_asked ((first ++ second) ++ third)
fields_within [] first second third = refl
fields_within (field ∷ fields) first second third =
    zero_max (operands_asked (((map part.Property fields ++ first) ++ second) ++ third)) ∙ fields_within fields first second third

-- ---- each kind

-- a name that loading declares asks for none
loaded_suffices : (declared : Bool) (name : List ℕ) → suffices (Some 0) (asked_if (option_map loaded (name_if declared name))) ≡ true
loaded_suffices true name = refl
loaded_suffices false name = refl

-- a table of references is filled without one
filled_asked : (place : ℕ) (text : List ℕ) (slots : List (ℕ × List ℕ))
    → operands_asked (statements (set_text (place, text)) slots ++ last_of (set_text (place, text)) slots) ≡ 0
filled_asked place text [] = refl
filled_asked place text (slot ∷ slots) = rw (filled_asked slot.0 slot.1 slots) refl

table_asked : (slots : List (ℕ × List ℕ)) → operands_asked (statements false_set slots ++ last_of false_set slots) ≡ 0
table_asked [] = refl
table_asked (slot ∷ slots) = rw (filled_asked slot.0 slot.1 slots) refl

table_suffices : (externref : Bool) (g : Given) → suffices None (asked_if (table_filled externref g)) ≡ true
table_suffices true g = rw (table_asked (texts_from 1028 g.slots)) refl
table_suffices false g = refl

intrinsic_suffices : (target : Target) (externref : Bool) (g : Given) (bound : Bool) (name : Intrinsic)
    → suffices (intrinsic_count name) (asked_if (intrinsic_expression target externref g bound name)) ≡ true
intrinsic_suffices target externref g true i.ObjectCloneRef = refl
intrinsic_suffices target externref g true i.ObjectDropRef = refl
intrinsic_suffices target externref g false i.ObjectCloneRef = refl
intrinsic_suffices target externref g false i.ObjectDropRef = refl
intrinsic_suffices target true g bound i.ExternrefHeapLiveCount = refl
intrinsic_suffices target false g bound i.ExternrefHeapLiveCount = refl
intrinsic_suffices target true g bound i.InitExternrefTable = table_suffices true g
intrinsic_suffices target false g bound i.InitExternrefTable = refl
intrinsic_suffices target externref g bound i.Instance = loaded_suffices (declares_instance target) (codes "wasmInstance")
intrinsic_suffices target externref g bound i.Module = loaded_suffices (declares_module target) (codes "wasmModule")
intrinsic_suffices target externref g bound other = refl

accessor_suffices : (m : NameMap) (js : JsImport) (of_instances : Bool) (field which : List ℕ) (spread : Bool)
    → suffices None (operands_asked (accessor m js of_instances (described_call field which spread))) ≡ true
accessor_suffices m js true field which spread =
    around_suffices None m accessor_front js (owner true ++ described_call field which spread) refl
accessor_suffices m js false field which spread =
    around_suffices None m accessor_front js (owner false ++ described_call field which spread) refl

-- the values themselves, and accessors, name no operand by its place
value_suffices : (m : NameMap) (call : AdapterJsImportKind) (spread : Bool) (value : AuxValue)
    → suffices None (operands_asked (value_parts m call spread value)) ≡ true
value_suffices m calls.Normal spread (v.Bare js) = around_suffices None m [] js (part.Arguments spread ∷ []) refl
value_suffices m calls.Method spread (v.Bare js) =
    around_suffices None m [] js (part.Property (codes "call") ∷ part.Arguments spread ∷ []) refl
value_suffices m calls.Constructor spread (v.Bare js) = around_suffices None m new_front js (part.Arguments spread ∷ []) refl
value_suffices m call spread (v.Getter js field) = accessor_suffices m js true field (codes "get") spread
value_suffices m call spread (v.ClassGetter js field) = accessor_suffices m js false field (codes "get") spread
value_suffices m call spread (v.Setter js field) = accessor_suffices m js true field (codes "set") spread
value_suffices m call spread (v.ClassSetter js field) = accessor_suffices m js false field (codes "set") spread

-- nor do properties that are read from it
chained_asked : (fields : List (List ℕ)) → operands_asked (map part.Chained fields) ≡ 0
chained_asked [] = refl
chained_asked (field ∷ fields) = rw (chained_asked fields) refl

static_suffices : (m : NameMap) (js : JsImport) (optional : Bool) → suffices (Some 0) (operands_asked (static_parts m js optional)) ≡ true
static_suffices m js true = by (drawn_name m js.name)
  where
    by : (drawn : Option (List ℕ)) → suffices (Some 0) (operands_asked (present (begins drawn (plain_name js.name)) js.fields)) ≡ true
    by None = rw (chained_asked js.fields) refl
    by (Some drawn) = rw (chained_asked js.fields) refl
static_suffices m js false = ap (λ (ps : List Part). suffices (Some 0) (operands_asked ps)) (sym (append-nil (root m js))) ∙ ap (suffices (Some 0)) (root_asked m js [])

instance_suffices : (m : NameMap) (js : JsImport) → suffices (Some 1) (expression_asked (instance_of (root m js))) ≡ true
instance_suffices m js = by (drawn_name m js.name)
  where
    by : (drawn : Option (List ℕ)) → suffices (Some 1) (expression_asked (instance_of (begins_with js.fields drawn (plain_name js.name)))) ≡ true
    by None = refl
    by (Some drawn) = rw (fields_within js.fields line_end (catch_front ++ part.LineFeed ∷ result_is (part.Key key.FALSE ∷ line_end) ++ close_line) (part.Local 0 ∷ [])) refl

cast_suffices : (bound : Bool) (comment : List ℕ) → suffices (Some 1) (expression_asked (cast bound comment)) ≡ true
cast_suffices true comment = refl
cast_suffices false comment = refl

link_suffices : (split : Bool) (target : Target) (path : List ℕ) (content : Option (List ℕ))
    → suffices (Some 0) (asked_if (linked split target path content)) ≡ true
link_suffices true (targets.Node true) path content = refl
link_suffices true (targets.Node false) path content = refl
link_suffices true other path content = refl
link_suffices false target path None = refl
link_suffices false target path (Some content) = refl

-- with as many arguments as an import without statements takes, its expression asks for no more
parts_given : (m : NameMap) (call : AdapterJsImportKind) (spread : Bool) (w : AuxImport) (count : ℕ) → is_count (argument_count w) count ≡ true
    → nat_le (fewest spread w) count ≡ true → parts_asked_if (parts_of m call spread w) ≤ count
parts_given m call spread (what.Value value) count h few = given None _ count (value_suffices m call spread value) refl
parts_given m call spread (what.ValueWithThis js property) count h few =
    given None _ count (around_suffices None m [] js (part.Property property ∷ part.Arguments spread ∷ []) refl) refl
parts_given m call true (what.StructuralMethod property) count h few = grind (arith, nat_tests)
parts_given m call false (what.StructuralMethod property) count h few = grind (arith, nat_tests)
parts_given m call spread (what.Static js optional) count h few = given (Some 0) _ count (static_suffices m js optional) h
parts_given m call spread (what.StructuralGetter property) count h few = given (Some 1) 1 count refl h
parts_given m call spread (what.StructuralSetter property) count h few = given (Some 2) 2 count refl h
parts_given m call spread (what.StructuralClassGetter js property) count h few =
    given (Some 0) _ count (around_suffices (Some 0) m [] js (part.Property property ∷ []) refl) h
parts_given m call spread (what.StructuralClassSetter js property) count h few =
    given (Some 1) _ count (around_suffices (Some 1) m [] js (part.Property property ∷ assigned 0) refl) h
parts_given m call spread (what.IndexingGetterOfClass js) count h few =
    given (Some 1) _ count (around_suffices (Some 1) m [] js (index 0) refl) h
parts_given m call spread (what.IndexingSetterOfClass js) count h few =
    given (Some 2) _ count (around_suffices (Some 2) m [] js (index 0 ++ assigned 1) refl) h
parts_given m call spread (what.IndexingDeleterOfClass js) count h few =
    given (Some 1) _ count (around_suffices (Some 1) m delete_front js (index 0) refl) h
parts_given m call spread what.IndexingGetterOfObject count h few = given (Some 2) 2 count refl h
parts_given m call spread what.IndexingSetterOfObject count h few = given (Some 3) 3 count refl h
parts_given m call spread what.IndexingDeleterOfObject count h few = given (Some 2) 2 count refl h
parts_given m call spread other count h few = given None 0 count refl refl

plain_given : (m : NameMap) (call : AdapterJsImportKind) (spread : Bool) (w : AuxImport) (count : ℕ) → is_count (argument_count w) count ≡ true
    → nat_le (fewest spread w) count ≡ true → asked_if (option_map plain (parts_of m call spread w)) ≤ count
plain_given m call spread w count h few =
    subst (λ (n : ℕ). n ≤ count) (sym (plain_asked (parts_of m call spread w))) (parts_given m call spread w count h few)

-- and so with any other
asked_given : (s : Settings) (m : NameMap) (g : Given) (call : AdapterJsImportKind) (spread bound : Bool) (w : AuxImport) (count : ℕ)
    → is_count (argument_count w) count ≡ true → nat_le (fewest spread w) count ≡ true → asked_if (expression s m g call spread bound w) ≤ count
asked_given s m g call spread bound (what.Instanceof js) count h few = given (Some 1) _ count (instance_suffices m js) h
asked_given s m g call spread bound (what.Cast comment) count h few = given (Some 1) _ count (cast_suffices bound comment) h
asked_given s m g call spread bound (what.LinkTo path content) count h few =
    given (Some 0) _ count (link_suffices s.split_linked_modules s.target path content) h
asked_given s m g call spread bound (what.Intrinsic name) count h few =
    given (intrinsic_count name) (asked_if (intrinsic_expression s.target s.externref g bound name)) count
    (intrinsic_suffices s.target s.externref g bound name) h
asked_given s m g call spread bound other count h few = plain_given m call spread other count h few

-- so each operand that its text names is there
pub operands_given : (s : Settings) (m : NameMap) (g : Given) (call : AdapterJsImportKind) (spread bound : Bool) (w : AuxImport) (count : ℕ) (text : Expression)
    → fits_count spread w count ≡ true → expression s m g call spread bound w ≡ Some text → expression_asked text ≤ count
operands_given s m g call spread bound w count text h e =
    let given = and_parts (is_count (argument_count w) count) _ h in
    let few = and_parts (not spread || may_spread w) (nat_le (fewest spread w) count) given.1 in
    subst (λ (o : Option Expression). asked_if o ≤ count) e (asked_given s m g call spread bound w count given.0 few.1)
