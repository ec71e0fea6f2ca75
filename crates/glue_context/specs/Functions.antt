-- The functions of adapters.
use Rattle.std.specs.Prelude.{◌≡◌, ℕ, zero, suc, ◌+◌, Bool, true, false, List, [], ◌∷◌, ◌++◌, length, codes, Option, Some, None}
use Rattle.std.specs.Fmt.{decimal}
use Rattle.std.specs.Ordering.{nat_cmp}
use Rattle.values.specs.Map.{look_up}
use Rattle.glue_tree.specs.declared.tree.JsFunction.{JsFunction}
use Rattle.glue_shared.specs.declared.adapter.Adapter as a
use Rattle.glue_shared.specs.declared.aux.AuxExport.{AuxExport}
use Rattle.glue_shared.specs.declared.aux.AuxExportKind.{AuxExportKind}
use Rattle.glue_shared.specs.declared.aux.AuxExportKind.TheVariants as export_kinds
use Rattle.glue_shared.specs.declared.description.Lowered.{Lowered}
use Rattle.glue_shared.specs.declared.name_map.NameMap.{NameMap}
use Rattle.glue_shared.specs.declared.settings.Settings.{Settings}
use Rattle.glue_steps.specs.declared.step.Step.{Step}
use Rattle.glue_steps.specs.Resolving.{adapter_steps}
use Rattle.glue_steps.specs.Stack.{below}
use Rattle.glue_binding.specs.Binding.{IsBoundFunction}
pub use Rattle.glue_operands.specs.Form.{usual_form}
pub use Rattle.glue_operands.specs.declared.form.Form.{Form}

-- `arg` and a number, so many, from a number on
abbrev pub default_names : ℕ → ℕ → List (List ℕ)
default_names zero from = []
default_names (suc count) from = (codes "arg" ++ decimal from) ∷ default_names count (from + 1)

-- the names that are wanted for parameters: those that are described, else numbered ones
abbrev pub wanted_names : List (List ℕ) → ℕ → List (List ℕ)
wanted_names [] count = default_names count 0
wanted_names (name ∷ names) count = name ∷ names

-- how many arguments an adapter has
abbrev pub arguments_of : Option a.Adapter → ℕ
arguments_of None = 0
arguments_of (Some adapter) = length adapter.args

abbrev pub argument_count : Lowered → ℕ → ℕ
argument_count l id = arguments_of (look_up nat_cmp l.wit.adapters id)

-- all but the first, where `this` stands in its place; a numbered name keeps its number
abbrev pub without_this : (takes_this : Bool) → List (List ℕ) → List (List ℕ)
without_this true names = below names
without_this false names = names

-- the names that are wanted for the parameters that are printed
abbrev pub own_wanted : Form → List (List ℕ) → ℕ → List (List ℕ)
own_wanted form names count = without_this form.takes_this (wanted_names names count)

-- a function takes `this` by its kind
abbrev pub is_this : AuxExportKind → Bool
is_this export_kinds.FunctionThis = true
is_this other = false

-- the form of the function of an export, whose last parameter may gather the further arguments
abbrev pub form_of : AuxExport → Form
form_of e = record { takes_this = is_this e.kind; has_rest = e.variadic }

-- the function of a form of an adapter where these names are drawn, with parameters of these names, or of numbered ones, where others stand
-- around it
pub record IsFunctionOf (s : Settings) (m : NameMap) (l : Lowered) (id : ℕ) (form : Form) (names around : List (List ℕ)) (f : JsFunction) : Type 0 where
  pub steps : List Step
  pub told : adapter_steps s m l id ≡ Some steps
  pub bound : IsBoundFunction form steps (own_wanted form names (argument_count l id)) around f
