-- The computed property keys that a description holds.
use Rattle.std.specs.Prelude.{ℕ, List, [], ◌∷◌, ◌++◌, filter, Option, Some, None}
use Rattle.std.specs.List.{flat_map}
use Rattle.glue_words.specs.Limits.{is_computed}
use Rattle.glue_shared.specs.declared.import.AuxImport.{AuxImport}
use Rattle.glue_shared.specs.declared.import.AuxImport.TheVariants as i
use Rattle.glue_shared.specs.declared.import.AuxValue.{AuxValue}
use Rattle.glue_shared.specs.declared.import.AuxValue.TheVariants as v
use Rattle.glue_shared.specs.declared.aux.AuxExport.{AuxExport}
use Rattle.glue_shared.specs.declared.aux.WasmBindgenAux.{WasmBindgenAux}

-- the properties that a value's import names
abbrev pub value_properties : AuxValue → List (List ℕ)
value_properties (v.Bare js) = js.fields
value_properties (v.Getter js name) = js.fields ++ name ∷ []
value_properties (v.ClassGetter js name) = js.fields ++ name ∷ []
value_properties (v.Setter js name) = js.fields ++ name ∷ []
value_properties (v.ClassSetter js name) = js.fields ++ name ∷ []

-- the properties that an import names
abbrev pub import_properties : AuxImport → List (List ℕ)
import_properties (i.Value value) = value_properties value
import_properties (i.ValueWithThis js name) = js.fields ++ name ∷ []
import_properties (i.Instanceof js) = js.fields
import_properties (i.Static js optional) = js.fields
import_properties (i.String text) = []
import_properties (i.Cast comment) = []
import_properties (i.StructuralMethod name) = name ∷ []
import_properties (i.StructuralGetter name) = name ∷ []
import_properties (i.StructuralSetter name) = name ∷ []
import_properties (i.StructuralClassGetter js name) = js.fields ++ name ∷ []
import_properties (i.StructuralClassSetter js name) = js.fields ++ name ∷ []
import_properties (i.IndexingGetterOfClass js) = js.fields
import_properties (i.IndexingSetterOfClass js) = js.fields
import_properties (i.IndexingDeleterOfClass js) = js.fields
import_properties i.IndexingGetterOfObject = []
import_properties i.IndexingSetterOfObject = []
import_properties i.IndexingDeleterOfObject = []
import_properties (i.WrapInExportedClass name) = []
import_properties (i.UnwrapExportedClass name) = []
import_properties (i.LinkTo path content) = []
import_properties (i.Intrinsic name) = []

-- the names of members of classes
abbrev pub member_name : Option (List ℕ) → AuxExport → List (List ℕ)
member_name None e = []
member_name (Some class) e = e.name ∷ []

-- the properties that imports name
abbrev pub imported_properties : WasmBindgenAux → List (List ℕ)
imported_properties aux = flat_map (λ e. import_properties e.1) aux.imports

-- those that re-exports name, and the names of members
abbrev pub other_properties : WasmBindgenAux → List (List ℕ)
other_properties aux = flat_map (λ (r : _). r.1.fields) aux.reexports ++ flat_map (λ e. member_name e.class e) aux.exports

-- the computed keys among them
abbrev pub described_keys : WasmBindgenAux → List (List ℕ)
described_keys aux = filter is_computed (imported_properties aux ++ other_properties aux)
