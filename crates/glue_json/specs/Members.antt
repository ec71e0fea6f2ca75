-- What exports, classes, enums and the other members of a description are, as JSON values.
use Rattle.std.specs.Prelude.{ℕ, ℤ, ◌||◌, List, [], ◌∷◌, Bool, true, false, codes, if◌then◌else◌, Option, Some, None, option_map, option_and_then, bytes_eq, is_some}
use Rattle.serde_json.specs.Data.{Data}
use Rattle.serde_json.specs.Find.{get, as_bool, as_str}
use Rattle.glue_shared.specs.declared.aux.AuxDynamicUnion.{AuxDynamicUnion}
use Rattle.glue_shared.specs.declared.aux.AuxDynamicUnionVariant.{AuxDynamicUnionVariant}
use Rattle.glue_shared.specs.declared.aux.AuxDynamicUnionVariant.TheVariants as union
use Rattle.glue_shared.specs.declared.aux.AuxEnum.{AuxEnum}
use Rattle.glue_shared.specs.declared.aux.AuxExport.{AuxExport}
use Rattle.glue_shared.specs.declared.aux.AuxExportKind.{AuxExportKind}
use Rattle.glue_shared.specs.declared.aux.AuxExportKind.TheVariants as kind
use Rattle.glue_shared.specs.declared.aux.AuxExportedMethodKind.TheVariants as member
use Rattle.glue_shared.specs.declared.aux.AuxReceiverKind.{AuxReceiverKind}
use Rattle.glue_shared.specs.declared.aux.AuxReceiverKind.TheVariants as receiver
use Rattle.glue_shared.specs.declared.aux.AuxStringEnum.{AuxStringEnum}
use Rattle.glue_shared.specs.declared.aux.AuxStruct.{AuxStruct}
use Rattle.glue_shared.specs.declared.aux.StaticSlot.{StaticSlot}
use Rattle.glue_shared.specs.declared.aux.StaticSlot.TheVariants as slots
use Rattle.glue_shared.specs.declared.import.JsImport.{JsImport}
use Rattle.glue_json.specs.Reading.{◌>>=◌, ◌>>◌, where_holds, only, field, field_or, list_at, maybe_at, list_of, nullable, triple_of, u32_of, i64_of}
use Rattle.glue_json.specs.Adapters.{type_of}
use Rattle.glue_json.specs.Imports.{js_of}

-- ---- exports

-- what an export is, by its name
abbrev pub export_kind : List ℕ → Option AuxExportKind
export_kind name =
    if bytes_eq name (codes "function") then Some kind.Function
    else if bytes_eq name (codes "function_this") then Some kind.FunctionThis
    else if bytes_eq name (codes "constructor") then Some kind.Constructor
    else if bytes_eq name (codes "method") then Some (kind.Method member.Method)
    else if bytes_eq name (codes "getter") then Some (kind.Method member.Getter)
    else if bytes_eq name (codes "setter") then Some (kind.Method member.Setter)
    else None

-- what an export is, by its name
abbrev pub export_kind_of : Data → Option AuxExportKind
export_kind_of d = option_and_then export_kind (as_str d)

-- how a method takes its object, by its name
abbrev pub receiver_kind : List ℕ → Option AuxReceiverKind
receiver_kind name =
    if bytes_eq name (codes "none") then Some receiver.None
    else if bytes_eq name (codes "borrowed") then Some receiver.Borrowed
    else if bytes_eq name (codes "owned") then Some receiver.Owned
    else None

-- how a method takes its object: one of these names
abbrev pub receiver_kind_of : Data → Option AuxReceiverKind
receiver_kind_of d = option_and_then receiver_kind (as_str d)

-- it stands in no class: a function
abbrev pub is_free : AuxExportKind → Bool
is_free kind.Function = true
is_free kind.FunctionThis = true
is_free kind.Constructor = false
is_free (kind.Method m) = false

-- the keys of an export
abbrev pub export_keys : List (List ℕ)
export_keys =
    codes "adapter" ∷ codes "kind" ∷ codes "name" ∷ codes "class" ∷ codes "receiver" ∷ codes "namespace" ∷ codes "args" ∷ codes "comments" ∷ codes "debug"
    ∷ codes "typescript" ∷ codes "jsdoc" ∷ codes "variadic" ∷ codes "async" ∷ []

-- a text, or else the name
abbrev pub text_or : Option (List ℕ) → List ℕ → List ℕ
text_or None name = name
text_or (Some text) name = text

-- an export; a member of a class names its class
unfoldable pub export_of : Data → Option AuxExport
export_of d = do
  only export_keys d
  adapter ← field (codes "adapter") u32_of d
  kind ← field (codes "kind") export_kind_of d
  name ← field (codes "name") as_str d
  class ← maybe_at (codes "class") as_str d
  where_holds (is_free kind || is_some class)
  receiver ← field_or (codes "receiver") receiver_kind_of receiver.None d
  namespace ← list_at (codes "namespace") as_str d
  args ← list_at (codes "args") as_str d
  comments ← maybe_at (codes "comments") as_str d
  debug ← maybe_at (codes "debug") as_str d
  typescript ← field_or (codes "typescript") as_bool true d
  jsdoc ← field_or (codes "jsdoc") as_bool false d
  variadic ← field_or (codes "variadic") as_bool false d
  asyncness ← field_or (codes "async") as_bool false d
  Some (record {
    adapter = adapter;
    kind = kind;
    name = name;
    class = class;
    receiver = receiver;
    namespace = namespace;
    args = args;
    comments = comments;
    debug = text_or debug name;
    typescript = typescript;
    jsdoc = jsdoc;
    variadic = variadic;
    asyncness = asyncness;
  })

-- ---- classes and enums

-- an empty list is nothing
abbrev pub where_items : Option (List (List ℕ)) → Option (List (List ℕ))
where_items None = None
where_items (Some []) = None
where_items (Some (x ∷ xs)) = Some (x ∷ xs)

-- a class
unfoldable pub struct_of : Data → Option AuxStruct
struct_of d = do
  only (codes "name" ∷ codes "namespace" ∷ codes "extends" ∷ codes "extends_js_class" ∷ codes "extends_js_namespace" ∷ codes "comments" ∷ codes "inspectable" ∷ codes "typescript" ∷ codes "private" ∷ []) d
  name ← field (codes "name") as_str d
  namespace ← list_at (codes "namespace") as_str d
  extends ← maybe_at (codes "extends") as_str d
  extends_js_class ← maybe_at (codes "extends_js_class") as_str d
  extends_js_namespace ← maybe_at (codes "extends_js_namespace") (list_of as_str) d
  comments ← maybe_at (codes "comments") as_str d
  inspectable ← field_or (codes "inspectable") as_bool false d
  typescript ← field_or (codes "typescript") as_bool true d
  private ← field_or (codes "private") as_bool false d
  Some (record {
    name = name;
    namespace = namespace;
    extends = extends;
    extends_js_class = extends_js_class;
    extends_js_namespace = where_items extends_js_namespace;
    comments = comments;
    inspectable = inspectable;
    typescript = typescript;
    private = private;
  })

-- a variant of an enum: its name, its number and its comment
abbrev pub variant_of : Data → Option (List ℕ × ℤ × List ℕ)
variant_of d = triple_of as_str i64_of as_str d

-- an enum of numbers
unfoldable pub enum_of : Data → Option AuxEnum
enum_of d = do
  only (codes "name" ∷ codes "namespace" ∷ codes "variants" ∷ codes "comments" ∷ codes "typescript" ∷ codes "private" ∷ []) d
  name ← field (codes "name") as_str d
  namespace ← list_at (codes "namespace") as_str d
  variants ← list_at (codes "variants") variant_of d
  comments ← maybe_at (codes "comments") as_str d
  typescript ← field_or (codes "typescript") as_bool true d
  private ← field_or (codes "private") as_bool false d
  Some (record { name = name; namespace = namespace; variants = variants; comments = comments; typescript = typescript; private = private })

-- an enum of texts
unfoldable pub string_enum_of : Data → Option AuxStringEnum
string_enum_of d = do
  only (codes "name" ∷ codes "variants" ∷ codes "comments" ∷ codes "typescript" ∷ codes "private" ∷ []) d
  name ← field (codes "name") as_str d
  variants ← list_at (codes "variants") as_str d
  comments ← maybe_at (codes "comments") as_str d
  typescript ← field_or (codes "typescript") as_bool true d
  private ← field_or (codes "private") as_bool false d
  Some (record { name = name; variants = variants; comments = comments; typescript = typescript; private = private })

-- ---- unions, re-exports and slots

-- an object with the one key `literal`
unfoldable pub literal_of : Data → Option AuxDynamicUnionVariant
literal_of d = do
  only (codes "literal" ∷ []) d
  text ← field (codes "literal") as_str d
  Some (union.Literal text)

-- a literal, where that key stands, or a type
abbrev pub union_variant_of : Data → Option AuxDynamicUnionVariant
union_variant_of d = if is_some (get (codes "literal") d) then literal_of d else option_map union.Typed (type_of d)

-- a union of types
unfoldable pub union_of : Data → Option AuxDynamicUnion
union_of d = do
  only (codes "name" ∷ codes "variants" ∷ codes "comments" ∷ codes "typescript" ∷ codes "private" ∷ []) d
  name ← field (codes "name") as_str d
  variants ← list_at (codes "variants") union_variant_of d
  comments ← maybe_at (codes "comments") as_str d
  typescript ← field_or (codes "typescript") as_bool true d
  private ← field_or (codes "private") as_bool false d
  Some (record { name = name; variants = variants; comments = comments; typescript = typescript; private = private })

-- a re-export: its name, its import, and whether it is declared in TypeScript
unfoldable pub reexport_of : Data → Option (List ℕ × JsImport × Bool)
reexport_of d = do
  only (codes "name" ∷ codes "js" ∷ codes "typescript" ∷ []) d
  name ← field (codes "name") as_str d
  js ← field (codes "js") js_of d
  typescript ← field_or (codes "typescript") as_bool true d
  Some (name, js, typescript)

-- what a slot holds
abbrev pub slot : Option (List ℕ) → StaticSlot
slot None = slots.Null
slot (Some text) = slots.Text text

-- `null` or a text
abbrev pub slot_of : Data → Option StaticSlot
slot_of d = option_map slot (nullable as_str d)
