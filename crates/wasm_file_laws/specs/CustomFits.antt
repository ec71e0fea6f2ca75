-- Which names and producers are read again once they are written.
use Rattle.std.specs.Prelude.{◌≡◌, ℕ, ⊤, true, List, Option, Some, None}
use Rattle.std.specs.List.{AllByRecursion}
use Rattle.wasm_ops_laws.specs.Fits.{IsIndex}
use Rattle.wasm_types.specs.declared.ids.FuncId.{FuncId}
use Rattle.wasm_file.specs.Customs.{rise_from}
use Rattle.wasm_file.specs.declared.entries.Names.{Names}
use Rattle.wasm_file.specs.declared.entries.ProducerField.{ProducerField}
use Rattle.wasm_file.specs.declared.entries.ProducerValue.{ProducerValue}
use Rattle.wasm_file_laws.specs.FileFits.{FitsName}

-- none, or a name
abbrev pub IsName : Option (List ℕ) → Type 0
IsName (Some text) = FitsName text
IsName None = ⊤

-- a function, one of so many, and a name
abbrev pub FitsFuncName : ℕ → FuncId × List ℕ → Type 0
FitsFuncName funcs n = IsIndex funcs n.0.0 × FitsName n.1

-- a name of a module, and names of functions in rising order
pub record FitsNames (funcs : ℕ) (n : Names) : Type 0 where
  pub module_fits : IsName n.«module»
  pub funcs_fit : AllByRecursion (FitsFuncName funcs) n.funcs
  pub funcs_rise : rise_from 0 n.funcs ≡ true

-- a name and a version in UTF-8
pub record FitsValue (v : ProducerValue) : Type 0 where
  pub name_fits : FitsName v.name
  pub version_fits : FitsName v.version

-- a name in UTF-8, and values that fit
pub record FitsField (f : ProducerField) : Type 0 where
  pub name_fits : FitsName f.name
  pub values_fit : AllByRecursion FitsValue f.values

-- each field fits
abbrev pub FitsFields : List ProducerField → Type 0
FitsFields fields = AllByRecursion FitsField fields
