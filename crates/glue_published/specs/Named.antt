-- Names under which nothing can be published, and names that an enum's variant can't have.
use Rattle.std.specs.Prelude.{ℕ, Bool, not, ◌||◌, List, [], ◌∷◌, ◌++◌, codes, Option, None, option_map, find, if◌then◌else◌}
use Rattle.std.specs.Option.{option_or}
use Rattle.std.specs.Str.{bytes_eq}
use Rattle.glue_words.specs.Ident.{is_ident}
use Rattle.glue_shared.specs.Paths.{Path}
use Rattle.glue_shared.specs.declared.aux.AuxExport.{AuxExport}
use Rattle.glue_shared.specs.declared.aux.AuxStruct.{AuxStruct}
use Rattle.glue_shared.specs.declared.aux.AuxEnum.{AuxEnum}
use Rattle.glue_shared.specs.declared.aux.WasmBindgenAux.{WasmBindgenAux}
use Rattle.glue_faults.specs.First.{first_of}
use Rattle.glue_published.specs.Things.{stands_alone}

-- `__proto__`, which no object has as a key of its own
abbrev pub is_proto_name : List ℕ → Bool
is_proto_name name = bytes_eq name (codes "__proto__")

-- the first segment of a path that is `__proto__`
abbrev pub bad_path : Path → List ℕ → Option (List ℕ)
bad_path namespace name = find is_proto_name (namespace ++ name ∷ [])

-- of an export that stands by itself: a member of a class has no path
abbrev pub bad_export : AuxExport → Option (List ℕ)
bad_export e = if stands_alone e.kind then bad_path e.namespace e.name else None

abbrev pub bad_class : AuxStruct → Option (List ℕ)
bad_class c = bad_path c.namespace c.name

-- `__proto__`, or no identifier
abbrev pub is_bad_variant : List ℕ → Bool
is_bad_variant name = is_proto_name name || not (is_ident name)

-- a segment of the path, or a variant
abbrev pub bad_enum : AuxEnum → Option (List ℕ)
bad_enum e = option_or (bad_path e.namespace e.name) (option_map (λ v. v.0) (find (λ v. is_bad_variant v.0) e.variants))

-- the first bad name of these exports
abbrev pub bad_export_name : List AuxExport → Option (List ℕ)
bad_export_name exports = first_of bad_export exports

-- the first bad name of classes, and else of enums
abbrev pub bad_declared_name : WasmBindgenAux → Option (List ℕ)
bad_declared_name aux = option_or (first_of bad_class aux.structs) (first_of bad_enum aux.enums)
