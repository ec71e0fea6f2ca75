-- The expression of an import: what a call of it evaluates.
use Rattle.std.specs.Prelude.{ℕ, Bool, true, false, List, [], ◌∷◌, ◌++◌, is_some, codes, Option, Some, None, option_map}
use Rattle.glue_words.specs.declared.punct.TheConstants as punct
use Rattle.glue_words.specs.declared.key.TheConstants as key
use Rattle.glue_shared.specs.declared.adapter.AdapterJsImportKind.{AdapterJsImportKind}
use Rattle.glue_shared.specs.declared.adapter.AdapterJsImportKind.TheVariants as calls
use Rattle.glue_shared.specs.declared.import.AuxImport.{AuxImport}
use Rattle.glue_shared.specs.declared.import.AuxImport.TheVariants as w
use Rattle.glue_shared.specs.declared.import.AuxValue.{AuxValue}
use Rattle.glue_shared.specs.declared.import.AuxValue.TheVariants as v
use Rattle.glue_shared.specs.declared.import.Intrinsic.{Intrinsic}
use Rattle.glue_shared.specs.declared.import.JsImport.{JsImport}
use Rattle.glue_shared.specs.declared.name_map.NameMap.{NameMap}
use Rattle.glue_shared.specs.declared.settings.Settings.{Settings}
use Rattle.glue_shared.specs.declared.settings.Target.{Target}
use Rattle.glue_shared.specs.NameMap.{no_names}
use Rattle.glue_imports.specs.declared.part.Part.{Part}
use Rattle.glue_imports.specs.declared.part.Part.TheVariants as p
use Rattle.glue_imports.specs.declared.part.Expression.{Expression}
use Rattle.glue_imports.specs.Given.{Given, item_expression, nothing_given}
use Rattle.glue_imports.specs.Roots.{root_name, root}
use Rattle.glue_imports.specs.Intrinsics.{or_else, intrinsic_parts, loaded_name}
use Rattle.glue_imports.specs.Preludes.{plain, instance_of, intrinsic_prelude, cast, linked, present}

-- the value that an import names, with parts before and behind it
abbrev pub around : NameMap → (front : List Part) → JsImport → (behind : List Part) → List Part
around m front js behind = front ++ (root m js ++ behind)

-- ` = a`, where the operand stands as it is
abbrev pub assigned : ℕ → List Part
assigned place = p.Space ∷ p.Punct punct.ASSIGN ∷ p.Space ∷ p.Whole place ∷ []

-- `[a]`
abbrev pub index : ℕ → List Part
index place = p.Punct punct.OPEN_BRACKET ∷ p.Operand place ∷ p.Punct punct.CLOSE_BRACKET ∷ []

-- `new ` and `delete `
abbrev pub new_front : List Part
new_front = p.Key key.NEW ∷ p.Space ∷ []

abbrev pub delete_front : List Part
delete_front = p.Key key.DELETE ∷ p.Space ∷ []

-- a value that is called, as a function, as a method of the first argument, or as a constructor
abbrev pub called : NameMap → AdapterJsImportKind → (spread : Bool) → JsImport → List Part
called m calls.Normal spread js = around m [] js (p.Arguments spread ∷ [])
called m calls.Method spread js = around m [] js (p.Property (codes "call") ∷ p.Arguments spread ∷ [])
called m calls.Constructor spread js = around m new_front js (p.Arguments spread ∷ [])

-- `GetOwnOrInheritedPropertyDescriptor(`: the helper finds how an object, or one that it inherits from, describes a property
abbrev pub accessor_front : List Part
accessor_front = p.Name (codes "GetOwnOrInheritedPropertyDescriptor") ∷ p.Punct punct.OPEN_PAREN ∷ []

-- `, "field").get.call(..)`, or `.set`
abbrev pub described_call : (field which : List ℕ) → (spread : Bool) → List Part
described_call field which spread =
    p.Punct punct.COMMA ∷ p.Space ∷ p.Literal field ∷ p.Punct punct.CLOSE_PAREN
    ∷ p.Property which ∷ p.Property (codes "call") ∷ p.Arguments spread ∷ []

-- `.prototype`, where a property is one of instances, and else nothing
abbrev pub owner : (of_instances : Bool) → List Part
owner true = p.Property (codes "prototype") ∷ []
owner false = []

-- `GetOwnOrInheritedPropertyDescriptor(C.prototype` and a call behind it: an accessor of a property of instances; without `.prototype` of
-- the class itself
abbrev pub accessor : NameMap → JsImport → (of_instances : Bool) → (call : List Part) → List Part
accessor m js of_instances call = around m accessor_front js (owner of_instances ++ call)

-- the values themselves, and accessors of properties, of instances or of the class itself
abbrev pub value_parts : NameMap → AdapterJsImportKind → (spread : Bool) → AuxValue → List Part
value_parts m call spread (v.Bare js) = called m call spread js
value_parts m call spread (v.Getter js field) = accessor m js true (described_call field (codes "get") spread)
value_parts m call spread (v.ClassGetter js field) = accessor m js false (described_call field (codes "get") spread)
value_parts m call spread (v.Setter js field) = accessor m js true (described_call field (codes "set") spread)
value_parts m call spread (v.ClassSetter js field) = accessor m js false (described_call field (codes "set") spread)

-- a static value, which may be absent
abbrev pub static_parts : NameMap → JsImport → (optional : Bool) → List Part
static_parts m js false = root m js
static_parts m js true = present (root_name m js.name) js.fields

-- what is named by a value and something of it
abbrev pub of_value : NameMap → (spread : Bool) → AuxImport → Option (List Part)
of_value m spread (w.ValueWithThis js name) = Some (around m [] js (p.Property name ∷ p.Arguments spread ∷ []))
of_value m spread (w.StructuralClassGetter js name) = Some (around m [] js (p.Property name ∷ []))
of_value m spread (w.StructuralClassSetter js name) = Some (around m [] js (p.Property name ∷ assigned 0))
of_value m spread (w.IndexingGetterOfClass js) = Some (around m [] js (index 0))
of_value m spread (w.IndexingSetterOfClass js) = Some (around m [] js (index 0 ++ assigned 1))
of_value m spread (w.IndexingDeleterOfClass js) = Some (around m delete_front js (index 0))
of_value m spread other = None

-- what is something of the first operand
abbrev pub of_operand : (spread : Bool) → AuxImport → Option (List Part)
of_operand spread (w.StructuralMethod name) = Some (p.Operand 0 ∷ p.Property name ∷ p.OtherArguments spread ∷ [])
of_operand spread (w.StructuralGetter name) = Some (p.Operand 0 ∷ p.Property name ∷ [])
of_operand spread (w.StructuralSetter name) = Some (p.Operand 0 ∷ p.Property name ∷ assigned 1)
of_operand spread w.IndexingGetterOfObject = Some (p.Operand 0 ∷ index 1)
of_operand spread w.IndexingSetterOfObject = Some (p.Operand 0 ∷ index 1 ++ assigned 2)
of_operand spread w.IndexingDeleterOfObject = Some (delete_front ++ p.Operand 0 ∷ index 1)
of_operand spread other = None

-- the expression of an import that has no statements before it
abbrev pub parts_of : NameMap → AdapterJsImportKind → (spread : Bool) → AuxImport → Option (List Part)
parts_of m call spread (w.Value value) = Some (value_parts m call spread value)
parts_of m call spread (w.Static js optional) = Some (static_parts m js optional)
parts_of m call spread (w.String text) = Some (p.Literal text ∷ [])
parts_of m call spread (w.ValueWithThis js name) = of_value m spread (w.ValueWithThis js name)
parts_of m call spread (w.StructuralClassGetter js name) = of_value m spread (w.StructuralClassGetter js name)
parts_of m call spread (w.StructuralClassSetter js name) = of_value m spread (w.StructuralClassSetter js name)
parts_of m call spread (w.IndexingGetterOfClass js) = of_value m spread (w.IndexingGetterOfClass js)
parts_of m call spread (w.IndexingSetterOfClass js) = of_value m spread (w.IndexingSetterOfClass js)
parts_of m call spread (w.IndexingDeleterOfClass js) = of_value m spread (w.IndexingDeleterOfClass js)
parts_of m call spread other = of_operand spread other

-- a value that has a name of the file
abbrev pub loaded : List ℕ → Expression
loaded name = plain (p.Name name ∷ [])

-- an intrinsic on a target, where the setting `externref` has this value, and this is given of the module
abbrev pub intrinsic_expression : Target → (externref : Bool) → Given → (bound : Bool) → Intrinsic → Option Expression
intrinsic_expression target externref g bound name =
    or_else (option_map plain (intrinsic_parts bound name))
    (or_else (intrinsic_prelude externref name)
    (or_else (item_expression externref g name)
    (option_map loaded (loaded_name target name))))

-- the expression of an import that is called in this way, the last argument spread or not, its answer bound to a local or not, where
-- these names are drawn, and this is given of the module
abbrev pub expression : Settings → NameMap → Given → AdapterJsImportKind → (spread bound : Bool) → AuxImport → Option Expression
expression s m g call spread bound (w.Instanceof js) = Some (instance_of (root m js))
expression s m g call spread bound (w.Cast comment) = Some (cast bound comment)
expression s m g call spread bound (w.LinkTo path content) = linked s.split_linked_modules s.target path content
expression s m g call spread bound (w.Intrinsic name) = intrinsic_expression s.target s.externref g bound name
expression s m g call spread bound other = option_map plain (parts_of m call spread other)

-- an import has an expression, whatever names are drawn and however it is called
abbrev pub has_expression : Settings → AuxImport → Bool
has_expression s what = is_some (expression s no_names nothing_given calls.Normal false false what)
