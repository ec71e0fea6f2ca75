-- Whether an adapter has steps doesn't depend on the names that are drawn.
use Rattle.std.proofs.Common.{◌≡◌, ℕ, List, [], ◌∷◌, true, false, Option, Some, None, refl, sym, ◌∙◌}
use Rattle.std.specs.Prelude.{is_some, option_map, option_and_then}
use Rattle.std.specs.Ordering.{nat_cmp}
use Rattle.values.specs.Map.{look_up}
use Rattle.glue_shared.specs.declared.adapter.Adapter.{Adapter}
use Rattle.glue_shared.specs.declared.adapter.AdapterKind.{AdapterKind}
use Rattle.glue_shared.specs.declared.adapter.AdapterKind.TheVariants as kinds
use Rattle.glue_shared.specs.declared.adapter.AdapterJsImportKind.{AdapterJsImportKind}
use Rattle.glue_shared.specs.declared.adapter.Instruction.{Instruction}
use Rattle.glue_shared.specs.declared.adapter.Instruction.TheVariants as instr
use Rattle.glue_shared.specs.declared.description.Lowered.{Lowered}
use Rattle.glue_shared.specs.declared.import.AuxImport.{AuxImport}
use Rattle.glue_shared.specs.declared.name_map.NameMap.{NameMap}
use Rattle.glue_shared.specs.declared.settings.Settings.{Settings}
use Rattle.glue_imports.specs.Expressions.{expression}
use Rattle.glue_imports.proofs.Any.{any_call}
use Rattle.glue_steps.specs.declared.step.Step.{Step}
use Rattle.glue_steps.specs.Resolving.{is_some_item, expression_step, given_of, is_spread, import_step_of, described_import, called_import, import_step, step_of, with_step, steps_of, code_steps, adapter_steps}

-- a value that is made of one is there where that is
mapped : {A B : Type 0} (f : A → B) (o : Option A) → is_some (option_map f o) ≡ is_some o
mapped f None = refl
mapped f (Some x) = refl

-- what follows from a value is there alike for two ways that agree on each
followed : {A B : Type 0} (f g : A → Option B) (o : Option A) → ((x : A) → is_some (f x) ≡ is_some (g x))
    → is_some (option_and_then f o) ≡ is_some (option_and_then g o)
followed f g None h = refl
followed f g (Some x) h = h x

-- so are a step and those behind it
with_both : (here other : Option Step) (rest more : Option (List Step)) → is_some here ≡ is_some other → is_some rest ≡ is_some more
    → is_some (with_step here rest) ≡ is_some (with_step other more)
with_both None None rest more h k = refl
with_both None (Some step) rest more h k = cc
with_both (Some step) None rest more h k = cc
with_both (Some step) (Some other) None None h k = refl
with_both (Some step) (Some other) None (Some more) h k = cc
with_both (Some step) (Some other) (Some rest) None h k = cc
with_both (Some step) (Some other) (Some rest) (Some more) h k = refl

module _ (s : Settings) (m n : NameMap) (l : Lowered) where
  any_described : (id : ℕ) (a : Adapter) (call : AdapterJsImportKind) (what : AuxImport)
      → is_some (import_step_of s m l id a call what) ≡ is_some (import_step_of s n l id a call what)
  any_described id a call what =
      let spread = is_spread l id in
      let bound = is_some_item a.results in
      let g = given_of m l what in
      let h = given_of n l what in
      mapped (expression_step id a) (expression s m g call spread bound what) ∙ any_call s m g call spread bound what
      ∙ sym (mapped (expression_step id a) (expression s n h call spread bound what) ∙ any_call s n h call spread bound what)

  any_called : (id : ℕ) (a : Adapter) (kind : AdapterKind) → is_some (called_import s m l id a kind) ≡ is_some (called_import s n l id a kind)
  any_called id a (kinds.Import call) =
      followed (import_step_of s m l id a call) (import_step_of s n l id a call) (described_import l.aux.imports id) (any_described id a call)
  any_called id a (kinds.Local code) = refl

  any_import : (id : ℕ) → is_some (import_step s m l id) ≡ is_some (import_step s n l id)
  any_import id = followed (λ (a : Adapter). called_import s m l id a a.kind) (λ (a : Adapter). called_import s n l id a a.kind)
      (look_up nat_cmp l.wit.adapters id) (λ a. any_called id a a.kind)

  any_step : (i : Instruction) → is_some (step_of s m l i) ≡ is_some (step_of s n l i)
  any_step (instr.CallAdapter id) = any_import id
  any_step (instr.WasmToInt32 true) = refl
  any_step (instr.WasmToInt32 false) = refl
  any_step (instr.WasmToInt64 true) = refl
  any_step (instr.WasmToInt64 false) = refl
  any_step other = refl

  any_steps : (code : List Instruction) → is_some (steps_of s m l code) ≡ is_some (steps_of s n l code)
  any_steps [] = refl
  any_steps (i ∷ code) =
      with_both (step_of s m l i) (step_of s n l i) (steps_of s m l code) (steps_of s n l code) (any_step i) (any_steps code)

  any_code : (kind : AdapterKind) → is_some (code_steps s m l kind) ≡ is_some (code_steps s n l kind)
  any_code (kinds.Local code) = any_steps code
  any_code (kinds.Import call) = refl

  -- an adapter has steps for some names where it has them for others
  pub any_names : (id : ℕ) → is_some (adapter_steps s m l id) ≡ is_some (adapter_steps s n l id)
  any_names id = followed (λ (a : Adapter). code_steps s m l a.kind) (λ (a : Adapter). code_steps s n l a.kind)
      (look_up nat_cmp l.wit.adapters id) (λ a. any_code a.kind)
