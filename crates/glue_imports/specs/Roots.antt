-- What the value that an import names begins with.
use Rattle.std.specs.Prelude.{ℕ, List, [], ◌∷◌, map, Option, Some, None}
use Rattle.values.specs.Map.{look_up}
use Rattle.glue_shared.specs.contracts.import.JsImportNameOrd.TheImpl as by_fields
use Rattle.glue_shared.specs.declared.import.JsImport.{JsImport}
use Rattle.glue_shared.specs.declared.import.JsImportName.{JsImportName}
use Rattle.glue_shared.specs.declared.import.JsImportName.TheVariants as names
use Rattle.glue_shared.specs.declared.name_map.NameMap.{NameMap}
use Rattle.glue_imports.specs.declared.part.Part.{Part}
use Rattle.glue_imports.specs.declared.part.Part.TheVariants as p

-- the name that a described name has by itself: that of the global, of the module's export, or of the vendor's value
abbrev pub plain_name : JsImportName → List ℕ
plain_name (names.Global name) = name
plain_name (names.Module from name) = name
plain_name (names.LocalModule from name) = name
plain_name (names.InlineJs from index name) = name
plain_name (names.VendorPrefixed name prefixes) = name

-- the name that was drawn for what an import begins with, where one was
abbrev pub drawn_name : NameMap → JsImportName → Option (List ℕ)
drawn_name m name = look_up by_fields.ghosts.cmp m.imports name

-- a drawn name, or without one the name itself, which is one of the host
abbrev pub begins : (drawn : Option (List ℕ)) → (name : List ℕ) → Part
begins (Some drawn) name = p.Name drawn
begins None name = p.Host name []

-- the same, and the properties that are read from it, one after the other
abbrev pub begins_with : (fields : List (List ℕ)) → (drawn : Option (List ℕ)) → (name : List ℕ) → List Part
begins_with fields (Some drawn) name = p.Name drawn ∷ map p.Property fields
begins_with fields None name = p.Host name fields ∷ []

-- what a name stands for: the name that was drawn for it, and where none was, as for a global, the host's name
abbrev pub root_name : NameMap → JsImportName → Part
root_name m name = begins (drawn_name m name) (plain_name name)

-- the value that an import names
abbrev pub root : NameMap → JsImport → List Part
root m js = begins_with js.fields (drawn_name m js.name) (plain_name js.name)
