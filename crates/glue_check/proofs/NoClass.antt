-- Where all is built and there is no fault, adapters name no class.
use Rattle.std.proofs.Common.{◌≡◌, ℕ, List, [], ◌∷◌, map, Option, Some, None, refl, ap, ◌∙◌, inl, inr, rules, subst}
use Rattle.std.specs.Prelude.{option_map}
use Rattle.values.specs.Lists.{IsIn}
use Rattle.glue_shared.specs.declared.adapter.Adapter.{Adapter}
use Rattle.glue_shared.specs.declared.adapter.Instruction.{Instruction}
use Rattle.glue_shared.specs.declared.aux.AuxStruct.{AuxStruct}
use Rattle.glue_shared.specs.declared.description.Lowered.{Lowered}
use Rattle.glue_shared.specs.declared.settings.Settings.{Settings}
use Rattle.glue_adapters.specs.Adapters.{code_of}
use Rattle.glue_faults.specs.declared.fault.Fault.TheVariants as faults
use Rattle.glue_faults.specs.First.{first_of}
use Rattle.glue_faults.proofs.First.{first_of-none, some-none, option_map-none}
use Rattle.glue_check.specs.declared.files.FileFlags.{FileFlags}
use Rattle.glue_check.specs.declared.verdict.Condition.TheVariants as conditions
use Rattle.glue_check.specs.Answers.{answer}
use Rattle.glue_check.specs.Classes.{class_name, class_names, instruction_class, unknown, unknown_in, unknown_instruction, unknown_type}
use Rattle.glue_check.specs.Verdict.{unbuilt, verdict}
use Rattle.glue_check.proofs.BuiltForm.{structs_built}
use Rattle.glue_check.proofs.Conditions.{none_of}

-- no name is known where none is
none_known : (o : Option (List ℕ)) → unknown [] o ≡ None → o ≡ None
none_known None h = refl
none_known (Some name) h = cc

-- no instruction of an adapter names a class
pub no_class : (f : FileFlags) (s : Settings) (l : Lowered) → unbuilt f s l ≡ None → verdict s l ≡ None → (e : ℕ × Adapter) → IsIn e l.wit.adapters
    → (i : Instruction) → IsIn i (code_of e.1.kind) → instruction_class i ≡ None
unfolding answer
no_class f s l built passed e at i in_code =
    let classes = class_names l.aux in
    let in_adapter = λ (x : ℕ × Adapter). unknown_in classes x.1 in
    let none = option_map-none faults.UnknownClass (first_of in_adapter l.wit.adapters) (none_of conditions.UnknownClass s l (search rules) passed) in
    let here = first_of-none in_adapter l.wit.adapters e none at in
    let by_code = first_of (unknown_instruction classes) (code_of e.1.kind) in
    let parts = first_of (unknown_type classes) e.1.args ∷ first_of (unknown_type classes) e.1.results ∷ by_code ∷ [] in
    let code = some-none parts by_code here (inr (inr (inl refl))) in
    let step = first_of-none (unknown_instruction classes) (code_of e.1.kind) i code in_code in
    none_known (instruction_class i)
    (subst (λ (structs : List AuxStruct). unknown (map class_name structs) (instruction_class i) ≡ None) (structs_built f s l built) step)
