-- The TypeScript text of a type.
use Rattle.std.specs.Prelude.{ℕ, Bool, true, false, List, [], ◌++◌, codes, unwrap_or}
use Rattle.std.specs.Ordering.{nat_cmp}
use Rattle.std.specs.Cmp.Lexicographic.{slice_cmp}
use Rattle.values.specs.Map.{look_up}
use Rattle.glue_shared.specs.declared.adapter.AdapterType.{AdapterType}
use Rattle.glue_shared.specs.declared.adapter.AdapterType.TheOpen.{AdapterType-F}
use Rattle.glue_shared.specs.declared.adapter.AdapterType.TheFolds.{fold-AdapterType}
use Rattle.glue_shared.specs.declared.adapter.VectorKind.{VectorKind}
use Rattle.glue_shared.specs.declared.adapter.VectorKind.TheVariants as vectors
use Rattle.glue_shared.specs.declared.name_map.NameMap.{NameMap}

-- the name that a qualified name was given, or itself
abbrev pub identifier : (given : List (List ℕ × List ℕ)) → List ℕ → List ℕ
identifier given qualified = unwrap_or (look_up (slice_cmp nat_cmp) given qualified) qualified

-- what stands behind the name of a typed array where its buffer is told
abbrev pub buffer_text : (buffers : Bool) → List ℕ
buffer_text false = []
buffer_text true = codes "<ArrayBuffer>"

-- the typed array of these elements, where its buffer is told or not; values stand in an array of any
abbrev pub vector_text : (buffers : Bool) → VectorKind → List ℕ
vector_text buffers vectors.I8 = codes "Int8Array" ++ buffer_text buffers
vector_text buffers vectors.U8 = codes "Uint8Array" ++ buffer_text buffers
vector_text buffers vectors.I16 = codes "Int16Array" ++ buffer_text buffers
vector_text buffers vectors.U16 = codes "Uint16Array" ++ buffer_text buffers
vector_text buffers vectors.I32 = codes "Int32Array" ++ buffer_text buffers
vector_text buffers vectors.U32 = codes "Uint32Array" ++ buffer_text buffers
vector_text buffers vectors.I64 = codes "BigInt64Array" ++ buffer_text buffers
vector_text buffers vectors.U64 = codes "BigUint64Array" ++ buffer_text buffers
vector_text buffers vectors.Value = codes "any[]"

-- one layer of a type, where the type in it is told
abbrev pub type_layer : (buffers : Bool) → NameMap → AdapterType-F (List ℕ) → List ℕ
type_layer buffers m AdapterType-F.I32 = codes "number"
type_layer buffers m AdapterType-F.S32 = codes "number"
type_layer buffers m AdapterType-F.U32 = codes "number"
type_layer buffers m AdapterType-F.I64 = codes "bigint"
type_layer buffers m AdapterType-F.S64 = codes "bigint"
type_layer buffers m AdapterType-F.U64 = codes "bigint"
type_layer buffers m AdapterType-F.Bool = codes "boolean"
type_layer buffers m AdapterType-F.String = codes "string"
type_layer buffers m AdapterType-F.Externref = codes "any"
type_layer buffers m (AdapterType-F.Class name) = identifier m.classes name
type_layer buffers m (AdapterType-F.Enum name) = identifier m.enums name
type_layer buffers m (AdapterType-F.StringEnum name) = name
type_layer buffers m (AdapterType-F.Union name) = name
type_layer buffers m (AdapterType-F.Vector kind) = vector_text buffers kind
type_layer buffers m (AdapterType-F.Option inner) = inner ++ codes " | undefined"

-- The text of a type, where these names are given: classes and enums go by the identifiers that they are declared under, string enums and
-- unions by their own names.
abbrev pub type_text : (buffers : Bool) → NameMap → AdapterType → List ℕ
type_text buffers m = fold-AdapterType (List ℕ) (type_layer buffers m)
