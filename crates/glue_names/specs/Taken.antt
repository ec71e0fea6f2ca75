-- Names that are taken, as a set.
use Rattle.std.specs.Prelude.{ℕ, Bool, false, List, [], ◌++◌, map, Option, Some, None, find}
use Rattle.std.specs.Fmt.{decimal}
use Rattle.std.specs.List.{flat_map}
use Rattle.std.specs.Option.{option_or}
use Rattle.std.specs.FinSet as set
use Rattle.values.specs.TextSet.{TextSet, with_texts}
use Rattle.glue_shared.specs.declared.import.AuxImport.{AuxImport}
use Rattle.glue_shared.specs.declared.import.JsImportName.{JsImportName}
use Rattle.glue_shared.specs.declared.import.JsImportName.TheVariants as names
use Rattle.glue_shared.specs.declared.settings.Settings.{Settings}
use Rattle.glue_shared.specs.declared.description.Lowered.{Lowered}
use Rattle.glue_faults.specs.First.{where_true}
use Rattle.glue_shared.specs.Names.{described_hosts, names_of, js_import, host_names, fixed_names}

-- the names of the outside that what an import evaluates brings, where imports are left out or kept
abbrev pub brought : (omitted : Bool) → AuxImport → List (List ℕ)
brought omitted what = flat_map (described_hosts omitted) (names_of (js_import what))

-- each of these with a number after it
abbrev pub numbered_by : List (List ℕ) → ℕ → List (List ℕ)
numbered_by stems number = map (λ stem. stem ++ decimal number) stems

-- the same, where there is an entry
abbrev pub entry_names : {A : Type 0} → List (List ℕ) → ℕ → Option A → List (List ℕ)
entry_names stems number None = []
entry_names stems number (Some entry) = numbered_by stems number

-- the names that the glue file may not declare as they are
abbrev pub taken_names : Settings → Lowered → TextSet
taken_names settings l = with_texts (with_texts set.empty (host_names settings l.aux)) (fixed_names settings l.«module»)

-- the name of a global
abbrev pub global_of : JsImportName → Option (List ℕ)
global_of (names.Global name) = Some name
global_of other = None

-- the name, where there is one that passes a test
abbrev pub name_if : (List ℕ → Bool) → Option (List ℕ) → Option (List ℕ)
name_if test None = None
name_if test (Some name) = where_true (test name) name

-- the first name of the outside that a described name brings where imports are kept and that is taken, or the global, where that is given
abbrev pub taken_in : (taken given : TextSet) → JsImportName → Option (List ℕ)
taken_in taken given name = option_or (find (set.contains taken) (described_hosts false name)) (name_if (set.contains given) (global_of name))
