-- What the editing calls make of a module.
use Rattle.std.specs.Prelude.{◌≡◌, ℕ, ◌≤◌, Bool, false, not, ◌==◌, ◌&&◌, length, List, [], ◌∷◌, ◌++◌, codes, Option, Some, None, slice_get, slice_set, if◌then◌else◌}
use Rattle.std.specs.List.{filter, find, position_from}
use Rattle.std.specs.Option.{IsSomeAnd}
use Rattle.std.specs.Cmp.Lexicographic.{pointwise}
use Rattle.wasm_file.specs.declared.entries.Custom.{Custom}
use Rattle.wasm_core.specs.declared.types.Import.{Import}
use Rattle.wasm_file.specs.declared.entries.ProducerField.{ProducerField}
use Rattle.wasm_file.specs.declared.entries.ProducerValue.{ProducerValue}
use Rattle.wasm_code.specs.declared.body.Body.{Body}
use Rattle.wasm_types.specs.declared.types.FuncType.{FuncType}
use Rattle.wasm_types.specs.declared.types.ValType.{ValType}
use Rattle.wasm_types.specs.Types.{code_of}
use Rattle.wasm_file.specs.declared.entries.ExportItem.{ExportItem}
use Rattle.wasm_file.specs.declared.entries.ExportItem.TheVariants as items
use Rattle.wasm_file.specs.Customs.{is_same_text, lists_feature}
use Rattle.wasm_core.specs.declared.types.Func.{Func}
use Rattle.wasm_core.specs.declared.types.Tag.{Tag}
use Rattle.wasm_core.specs.declared.types.ImportKind.{ImportKind}
use Rattle.wasm_core.specs.declared.types.ImportKind.TheVariants as kinds
use Rattle.wasm_core.specs.Contents.{Contents, IsLive}

-- the greatest number of places of a list
abbrev pub most_places : ℕ
most_places = 4294967295

-- a list takes no further entry
abbrev pub IsFull : {A : Type 0} → List A → Type 0
IsFull xs = most_places ≤ length xs

-- the first entry that passes a test is changed, the others are as they are; without one a new entry is added last
unfoldable pub first_changed : {A : Type 0} → (A → Bool) → (A → A) → A → List A → List A
first_changed test change new [] = new ∷ []
first_changed test change new (x ∷ xs) = if test x then change x ∷ xs else x ∷ first_changed test change new xs

-- the first entry of that name gets the version; without one it is added last
unfoldable pub with_version : List ℕ → List ℕ → List ProducerValue → List ProducerValue
with_version name version =
    first_changed (λ v. is_same_text v.name name) (λ v. record v { version = version })
    (record { name = name; version = version })

-- a field with this entry alone
abbrev pub new_field : List ℕ → List ℕ → List ℕ → ProducerField
new_field field name version = record { name = field; values = record { name = name; version = version } ∷ [] }

-- the first field of that name gets the entry; without one the field is added last
unfoldable pub with_field : List ℕ → List ℕ → List ℕ → List ProducerField → List ProducerField
with_field field name version =
    first_changed (λ f. is_same_text f.name field) (λ f. record f { values = with_version name version f.values })
    (new_field field name version)

-- the tool with its version in the first field `processed-by`
unfoldable pub with_processed_by : List ℕ → List ℕ → Contents → Contents
with_processed_by name version m = record m { producers = with_field (codes "processed-by") name version m.producers }

-- a custom section has this name
abbrev pub is_named : List ℕ → Custom → Bool
is_named name c = is_same_text c.name name

-- no custom section of this name
unfoldable pub without_custom : List ℕ → Contents → Contents
without_custom name m = record m { customs = filter (λ c. not (is_named name c)) m.customs }

-- an import with this module and name
abbrev pub renamed : List ℕ → List ℕ → Option (Option Import) → Option Import
renamed «module» name (Some (Some i)) = Some (record i { «module» = «module»; name = name })
renamed «module» name _ = None

-- the import at a place has this module and name
unfoldable pub with_import : ℕ → List ℕ → List ℕ → Contents → Contents
with_import i «module» name m = record m { imports = slice_set m.imports i (renamed «module» name (slice_get m.imports i)) }

-- what the item names is an entry
abbrev pub IsLiveItem : Contents → ExportItem → Type 0
IsLiveItem m (items.Func id) = IsLive m.funcs id.0
IsLiveItem m (items.Table id) = IsLive m.tables id.0
IsLiveItem m (items.Memory id) = IsLive m.memories id.0
IsLiveItem m (items.Global id) = IsLive m.globals id.0
IsLiveItem m (items.Tag id) = IsLive m.tags id.0

-- an export more, the last one
unfoldable pub with_export : List ℕ → ExportItem → Contents → Contents
with_export name item m = record m { exports = m.exports ++ Some (record { name = name; item = item }) ∷ [] }

-- the export's place is empty
unfoldable pub without_export : ℕ → Contents → Contents
without_export i m = record m { exports = slice_set m.exports i None }

-- a function with this name
abbrev pub func_named : List ℕ → Option (Option Func) → Option Func
func_named name (Some (Some f)) = Some (record f { name = Some name })
func_named name _ = None

-- the function at a place has this name
unfoldable pub with_func_name : ℕ → List ℕ → Contents → Contents
with_func_name i name m = record m { funcs = slice_set m.funcs i (func_named name (slice_get m.funcs i)) }

-- no start function
unfoldable pub without_start : Contents → Contents
without_start m = record m { start = None }

-- the place of the tag that is brought in, where a tag is
abbrev pub tag_of : ImportKind → Option ℕ
tag_of (kinds.Tag id) = Some id.0
tag_of _ = None

-- the place of the tag that the import at a place brings in
abbrev pub imported_tag : Option (Option Import) → Option ℕ
imported_tag (Some (Some i)) = tag_of i.kind
imported_tag _ = None

-- the import at a place brings in a tag, and the tag is an entry
abbrev pub IsImportedTag : Contents → ℕ → Type 0
IsImportedTag m i = IsSomeAnd (imported_tag (slice_get m.imports i)) (IsLive m.tags)

-- a tag without an import
abbrev pub own_tag : Option (Option Tag) → Option Tag
own_tag (Some (Some t)) = Some (record t { «import» = None })
own_tag _ = None

-- the import's place is empty, and its tag has no import
abbrev pub tag_localized : ℕ → Option ℕ → Contents → Contents
tag_localized i (Some t) m = record m { imports = slice_set m.imports i None; tags = slice_set m.tags t (own_tag (slice_get m.tags t)) }
tag_localized i None m = m

-- the tag of an import is one of the module's own
unfoldable pub localized : ℕ → Contents → Contents
localized i m = tag_localized i (imported_tag (slice_get m.imports i)) m

-- whether the section lists the feature, none without a section
abbrev pub feature_in : List ℕ → Option Custom → Option Bool
feature_in name (Some c) = Some (lists_feature c.bytes name)
feature_in name None = None

-- whether the first section of target features lists the feature, none without one
abbrev pub told_feature : List ℕ → List Custom → Option Bool
told_feature name customs = feature_in name (find (is_named (codes "target_features")) customs)

-- two value types are one
abbrev pub is_same_type : ValType → ValType → Bool
is_same_type a b = code_of a == code_of b

-- two function types take and give the same
abbrev pub is_alike : FuncType → FuncType → Bool
is_alike a b = pointwise is_same_type a.params b.params && pointwise is_same_type a.results b.results

-- a type is there, and takes and gives the same
abbrev pub is_entry_alike : FuncType → Option FuncType → Bool
is_entry_alike ty (Some found) = is_alike found ty
is_entry_alike ty None = false

-- no type of the module is alike: a function of this type adds it
abbrev pub IsNewType : FuncType → Contents → Type 0
IsNewType ty m = position_from (is_entry_alike ty) 0 m.types ≡ None

-- a function of the module's own, of the type at a place
abbrev pub new_func : ℕ → List ℕ → Body → Func
new_func ty name body = record { ty = record { 0 = ty }; name = Some name; «import» = None; body = Some body }

-- a function more, the last one, of the type at a place, without one of this type, which is then added last
abbrev pub func_added : FuncType → Option ℕ → List ℕ → Body → Contents → Contents
func_added ty (Some place) name body m = record m { funcs = m.funcs ++ Some (new_func place name body) ∷ [] }
func_added ty None name body m = record m { types = m.types ++ Some ty ∷ []; funcs = m.funcs ++ Some (new_func (length m.types) name body) ∷ [] }

-- a function more, the last one, of the first type that is alike
unfoldable pub with_func : FuncType → List ℕ → Body → Contents → Contents
with_func ty name body m = func_added ty (position_from (is_entry_alike ty) 0 m.types) name body m
