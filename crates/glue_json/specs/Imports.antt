-- What a call of an import evaluates, as a JSON value.
use Rattle.std.specs.Prelude.{ℕ, List, [], ◌∷◌, codes, if◌then◌else◌, Option, Some, None, option_map, option_and_then, bytes_eq, is_some}
use Rattle.serde_json.specs.Data.{Data}
use Rattle.serde_json.specs.Find.{get, as_bool, as_str, as_array}
use Rattle.glue_shared.specs.declared.import.AuxImport.{AuxImport}
use Rattle.glue_shared.specs.declared.import.AuxImport.TheVariants as import
use Rattle.glue_shared.specs.declared.import.AuxValue.{AuxValue}
use Rattle.glue_shared.specs.declared.import.AuxValue.TheVariants as value
use Rattle.glue_shared.specs.declared.import.Intrinsic.{Intrinsic}
use Rattle.glue_shared.specs.declared.import.Intrinsic.TheVariants as intrinsic
use Rattle.glue_shared.specs.declared.import.JsImport.{JsImport}
use Rattle.glue_shared.specs.declared.import.JsImportName.{JsImportName}
use Rattle.glue_shared.specs.declared.import.JsImportName.TheVariants as name
use Rattle.glue_json.specs.Reading.{◌>>=◌, ◌>>◌, only, field, list_at, nullable, data_list, no_part, one_part, two_parts, u32_of}

-- ---- names

-- a name of the host
unfoldable pub global_name : Data → Option JsImportName
global_name d = do
  only (codes "global" ∷ codes "fields" ∷ []) d
  global ← field (codes "global") as_str d
  Some (name.Global global)

-- a name from a module
unfoldable pub module_name : Data → Option JsImportName
module_name d = do
  only (codes "module" ∷ codes "name" ∷ codes "fields" ∷ []) d
  path ← field (codes "module") as_str d
  item ← field (codes "name") as_str d
  Some (name.Module path item)

-- a name from a module that lies beside the glue file
unfoldable pub local_name : Data → Option JsImportName
local_name d = do
  only (codes "local" ∷ codes "name" ∷ codes "fields" ∷ []) d
  path ← field (codes "local") as_str d
  item ← field (codes "name") as_str d
  Some (name.LocalModule path item)

-- a name from a snippet of a crate, by its number there
unfoldable pub inline_name : Data → Option JsImportName
inline_name d = do
  only (codes "inline" ∷ codes "index" ∷ codes "name" ∷ codes "fields" ∷ []) d
  crate_name ← field (codes "inline") as_str d
  index ← field (codes "index") u32_of d
  item ← field (codes "name") as_str d
  Some (name.InlineJs crate_name index item)

-- a name of the host that may have one of these prefixes
unfoldable pub vendor_name : Data → Option JsImportName
vendor_name d = do
  only (codes "vendor" ∷ codes "prefixes" ∷ codes "fields" ∷ []) d
  vendor ← field (codes "vendor") as_str d
  prefixes ← list_at (codes "prefixes") as_str d
  Some (name.VendorPrefixed vendor prefixes)

-- the form that the first of these keys tells
abbrev pub name_of : Data → Option JsImportName
name_of d =
    if is_some (get (codes "global") d) then global_name d
    else if is_some (get (codes "module") d) then module_name d
    else if is_some (get (codes "local") d) then local_name d
    else if is_some (get (codes "inline") d) then inline_name d
    else vendor_name d

-- a name, and the properties that are read from it
unfoldable pub js_of : Data → Option JsImport
js_of d = do
  name ← name_of d
  fields ← list_at (codes "fields") as_str d
  Some (record { name = name; fields = fields })

-- ---- expressions

-- those from `NumberGet` on
abbrev pub later_intrinsic : List ℕ → Option Intrinsic
later_intrinsic name =
    if bytes_eq name (codes "NumberGet") then Some intrinsic.NumberGet
    else if bytes_eq name (codes "ObjectCloneRef") then Some intrinsic.ObjectCloneRef
    else if bytes_eq name (codes "ObjectDropRef") then Some intrinsic.ObjectDropRef
    else if bytes_eq name (codes "PanicError") then Some intrinsic.PanicError
    else if bytes_eq name (codes "Pow") then Some intrinsic.Pow
    else if bytes_eq name (codes "Reinit") then Some intrinsic.Reinit
    else if bytes_eq name (codes "Rem") then Some intrinsic.Rem
    else if bytes_eq name (codes "Rethrow") then Some intrinsic.Rethrow
    else if bytes_eq name (codes "Shl") then Some intrinsic.Shl
    else if bytes_eq name (codes "Shr") then Some intrinsic.Shr
    else if bytes_eq name (codes "StringFromUtf8Lossy") then Some intrinsic.StringFromUtf8Lossy
    else if bytes_eq name (codes "StringGet") then Some intrinsic.StringGet
    else if bytes_eq name (codes "Sub") then Some intrinsic.Sub
    else if bytes_eq name (codes "Throw") then Some intrinsic.Throw
    else if bytes_eq name (codes "TryIntoNumber") then Some intrinsic.TryIntoNumber
    else if bytes_eq name (codes "Typeof") then Some intrinsic.Typeof
    else if bytes_eq name (codes "UnsignedShr") then Some intrinsic.UnsignedShr
    else None

-- those from `Instance` on
abbrev pub middle_intrinsic : List ℕ → Option Intrinsic
middle_intrinsic name =
    if bytes_eq name (codes "Instance") then Some intrinsic.Instance
    else if bytes_eq name (codes "IsBigInt") then Some intrinsic.IsBigInt
    else if bytes_eq name (codes "IsFalsy") then Some intrinsic.IsFalsy
    else if bytes_eq name (codes "IsFunction") then Some intrinsic.IsFunction
    else if bytes_eq name (codes "IsNull") then Some intrinsic.IsNull
    else if bytes_eq name (codes "IsNullOrUndefined") then Some intrinsic.IsNullOrUndefined
    else if bytes_eq name (codes "IsObject") then Some intrinsic.IsObject
    else if bytes_eq name (codes "IsString") then Some intrinsic.IsString
    else if bytes_eq name (codes "IsSymbol") then Some intrinsic.IsSymbol
    else if bytes_eq name (codes "IsUndefined") then Some intrinsic.IsUndefined
    else if bytes_eq name (codes "JsvalEq") then Some intrinsic.JsvalEq
    else if bytes_eq name (codes "JsvalLooseEq") then Some intrinsic.JsvalLooseEq
    else if bytes_eq name (codes "LE") then Some intrinsic.LE
    else if bytes_eq name (codes "LT") then Some intrinsic.LT
    else if bytes_eq name (codes "Memory") then Some intrinsic.Memory
    else if bytes_eq name (codes "Module") then Some intrinsic.Module
    else if bytes_eq name (codes "Mul") then Some intrinsic.Mul
    else if bytes_eq name (codes "Neg") then Some intrinsic.Neg
    else later_intrinsic name

-- the operations that the glue file carries out itself, by their names in alphabetical order
abbrev pub intrinsic_named : List ℕ → Option Intrinsic
intrinsic_named name =
    if bytes_eq name (codes "Add") then Some intrinsic.Add
    else if bytes_eq name (codes "BigIntGetAsI64") then Some intrinsic.BigIntGetAsI64
    else if bytes_eq name (codes "BitAnd") then Some intrinsic.BitAnd
    else if bytes_eq name (codes "BitNot") then Some intrinsic.BitNot
    else if bytes_eq name (codes "BitOr") then Some intrinsic.BitOr
    else if bytes_eq name (codes "BitXor") then Some intrinsic.BitXor
    else if bytes_eq name (codes "BooleanGet") then Some intrinsic.BooleanGet
    else if bytes_eq name (codes "CheckedDiv") then Some intrinsic.CheckedDiv
    else if bytes_eq name (codes "CopyToTypedArray") then Some intrinsic.CopyToTypedArray
    else if bytes_eq name (codes "DebugString") then Some intrinsic.DebugString
    else if bytes_eq name (codes "Div") then Some intrinsic.Div
    else if bytes_eq name (codes "Exports") then Some intrinsic.Exports
    else if bytes_eq name (codes "ExternrefHeapLiveCount") then Some intrinsic.ExternrefHeapLiveCount
    else if bytes_eq name (codes "FunctionTable") then Some intrinsic.FunctionTable
    else if bytes_eq name (codes "GE") then Some intrinsic.GE
    else if bytes_eq name (codes "GT") then Some intrinsic.GT
    else if bytes_eq name (codes "In") then Some intrinsic.InOperator
    else if bytes_eq name (codes "InitExternrefTable") then Some intrinsic.InitExternrefTable
    else middle_intrinsic name

-- such an operation, by its name
abbrev pub intrinsic_of : Data → Option Intrinsic
intrinsic_of d = option_and_then intrinsic_named (as_str d)

-- properties by name and by key
unfoldable pub property_row : List ℕ → List Data → Option AuxImport
property_row name parts =
    if bytes_eq name (codes "StructuralMethod") then option_map import.StructuralMethod (one_part as_str parts)
    else if bytes_eq name (codes "StructuralGetter") then option_map import.StructuralGetter (one_part as_str parts)
    else if bytes_eq name (codes "StructuralSetter") then option_map import.StructuralSetter (one_part as_str parts)
    else if bytes_eq name (codes "StructuralClassGetter") then option_map (λ x. import.StructuralClassGetter x.0 x.1) (two_parts js_of as_str parts)
    else if bytes_eq name (codes "StructuralClassSetter") then option_map (λ x. import.StructuralClassSetter x.0 x.1) (two_parts js_of as_str parts)
    else if bytes_eq name (codes "IndexingGetterOfClass") then option_map import.IndexingGetterOfClass (one_part js_of parts)
    else if bytes_eq name (codes "IndexingSetterOfClass") then option_map import.IndexingSetterOfClass (one_part js_of parts)
    else if bytes_eq name (codes "IndexingDeleterOfClass") then option_map import.IndexingDeleterOfClass (one_part js_of parts)
    else if bytes_eq name (codes "IndexingGetterOfObject") then no_part import.IndexingGetterOfObject parts
    else if bytes_eq name (codes "IndexingSetterOfObject") then no_part import.IndexingSetterOfObject parts
    else if bytes_eq name (codes "IndexingDeleterOfObject") then no_part import.IndexingDeleterOfObject parts
    else None

-- what is wrapped, linked or built in
unfoldable pub made_row : List ℕ → List Data → Option AuxImport
made_row name parts =
    if bytes_eq name (codes "String") then option_map import.String (one_part as_str parts)
    else if bytes_eq name (codes "Cast") then option_map import.Cast (one_part as_str parts)
    else if bytes_eq name (codes "WrapInExportedClass") then option_map import.WrapInExportedClass (one_part as_str parts)
    else if bytes_eq name (codes "UnwrapExportedClass") then option_map import.UnwrapExportedClass (one_part as_str parts)
    else if bytes_eq name (codes "LinkTo") then option_map (λ x. import.LinkTo x.0 x.1) (two_parts as_str (nullable as_str) parts)
    else if bytes_eq name (codes "Intrinsic") then option_map import.Intrinsic (one_part intrinsic_of parts)
    else property_row name parts

-- an expression by its kind and its parts
abbrev pub what_row : List ℕ → List Data → Option AuxImport
what_row name parts =
    if bytes_eq name (codes "Bare") then option_map (λ js. import.Value (value.Bare js)) (one_part js_of parts)
    else if bytes_eq name (codes "Getter") then option_map (λ x. import.Value (value.Getter x.0 x.1)) (two_parts js_of as_str parts)
    else if bytes_eq name (codes "ClassGetter") then option_map (λ x. import.Value (value.ClassGetter x.0 x.1)) (two_parts js_of as_str parts)
    else if bytes_eq name (codes "Setter") then option_map (λ x. import.Value (value.Setter x.0 x.1)) (two_parts js_of as_str parts)
    else if bytes_eq name (codes "ClassSetter") then option_map (λ x. import.Value (value.ClassSetter x.0 x.1)) (two_parts js_of as_str parts)
    else if bytes_eq name (codes "ValueWithThis") then option_map (λ x. import.ValueWithThis x.0 x.1) (two_parts js_of as_str parts)
    else if bytes_eq name (codes "Instanceof") then option_map import.Instanceof (one_part js_of parts)
    else if bytes_eq name (codes "Static") then option_map (λ x. import.Static x.0 x.1) (two_parts js_of as_bool parts)
    else made_row name parts

-- a list whose first entry is the kind
abbrev pub named_what : List Data → Option AuxImport
named_what [] = None
named_what (d ∷ parts) = option_and_then (λ name. what_row name parts) (as_str d)

-- what a call of an import evaluates: a list whose first entry is the kind
abbrev pub what_of : Data → Option AuxImport
what_of d = option_and_then (λ items. named_what (data_list items)) (as_array d)

-- an adapter, and what its call evaluates
unfoldable pub described_import_of : Data → Option (ℕ × AuxImport)
described_import_of d = do
  only (codes "adapter" ∷ codes "what" ∷ []) d
  adapter ← field (codes "adapter") u32_of d
  what ← field (codes "what") what_of d
  Some (adapter, what)
