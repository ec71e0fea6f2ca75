-- What is told of described imports and of places, by indexes that are made once.
use Rattle.std.specs.Prelude.{◌≡◌, ℕ, ◌==◌, Bool, ◌&&◌, ◌||◌, not, List, [], ◌∷◌, codes, bytes_eq, Option, if◌then◌else◌, option_and_then, slice_get, find}
use Rattle.std.specs.Ordering.{nat_cmp}
use Rattle.values.specs.Map.{look_up}
use Rattle.wasm_core.specs.ids.ImportId.{ImportId}
use Rattle.wasm_core.specs.Contents.{Contents}
use Rattle.wasm_core.specs.declared.types.Import.{Import}
use Rattle.glue_shared.specs.declared.adapter.NonstandardWitSection.{NonstandardWitSection}
use Rattle.glue_shared.specs.declared.aux.WasmBindgenAux.{WasmBindgenAux}
use Rattle.glue_shared.specs.declared.import.AuxImport.{AuxImport}
use Rattle.glue_shared.specs.declared.settings.Settings.{Settings}
use Rattle.glue_shared.specs.Names.{adapter_for, has_number, is_direct, is_emscripten, is_first_of}

-- the entry at the place that an id has
abbrev pub entry_by : {A : Type 0} → List (ℕ × ℕ) → List A → ℕ → Option A
entry_by places entries id = option_and_then (slice_get entries) (look_up nat_cmp places id)

-- each id has the place of its first entry, among some of the entries
abbrev pub LeadsTo : {A : Type 0} → List (ℕ × ℕ) → (all some : List (ℕ × A)) → Type 0
LeadsTo places all some = (id : ℕ) → entry_by places all id ≡ find (λ e. e.0 == id) some

-- an index gives each place the adapter of the first pair with its import
abbrev pub GivesFirst : List (ℕ × ℕ) → List (ImportId × ℕ) → Type 0
GivesFirst adapters pairs = (place : ℕ) → look_up nat_cmp adapters place ≡ adapter_for pairs place

-- an index has the entries and the ids of the description
pub record IsIndexOf (aux : WasmBindgenAux) (imports : List (ℕ × AuxImport)) (variadic caught : List ℕ) : Type 0 where
  pub imports_are : imports ≡ aux.imports
  pub variadic_are : variadic ≡ aux.imports_with_variadic
  pub caught_are : caught ≡ aux.imports_with_catch

-- the place of an import whose adapter only hands on
abbrev pub handed_place : Settings → NonstandardWitSection → WasmBindgenAux → ImportId × ℕ → List ℕ
handed_place settings wit aux pair = if is_direct settings wit aux pair.1 then pair.0.0 ∷ [] else []

-- the glue file defines the import, by the places that adapters define and those at which the described name stands
abbrev pub is_own_by : Settings → Contents → (implemented handed_on : List ℕ) → ℕ → Import → Bool
is_own_by settings m implemented handed_on place import =
    (bytes_eq import.«module» (codes "__wbindgen_placeholder__")
    || (has_number place implemented
    || (not (is_emscripten settings.target) && is_first_of place m.memories)))
    && not (has_number place handed_on)
