-- Classes that adapters name, and those that aren't described.
use Rattle.std.specs.Prelude.{ℕ, not, List, [], ◌∷◌, map, Option, Some, None, option_map}
use Rattle.glue_shared.specs.declared.adapter.Adapter.{Adapter}
use Rattle.glue_shared.specs.declared.adapter.AdapterType.{AdapterType}
use Rattle.glue_shared.specs.declared.adapter.AdapterType.TheOpen.{AdapterType-F}
use Rattle.glue_shared.specs.declared.adapter.AdapterType.TheFolds.{fold-AdapterType}
use Rattle.glue_shared.specs.declared.adapter.Instruction.{Instruction}
use Rattle.glue_shared.specs.declared.adapter.Instruction.TheVariants as instr
use Rattle.glue_shared.specs.declared.aux.AuxStruct.{AuxStruct}
use Rattle.glue_shared.specs.declared.aux.WasmBindgenAux.{WasmBindgenAux}
use Rattle.glue_shared.specs.declared.description.Lowered.{Lowered}
use Rattle.glue_shared.specs.Names.{is_one_of}
use Rattle.glue_shared.specs.Paths.{qualified_name}
use Rattle.glue_adapters.specs.Adapters.{code_of}
use Rattle.glue_faults.specs.declared.fault.Fault.{Fault}
use Rattle.glue_faults.specs.declared.fault.Fault.TheVariants as faults
use Rattle.glue_faults.specs.First.{first_of, first_some, where_true}

-- the qualified name of a class that is described
abbrev pub class_name : AuxStruct → List ℕ
class_name s = qualified_name s.namespace s.name

-- those of all
abbrev pub class_names : WasmBindgenAux → List (List ℕ)
class_names aux = map class_name aux.structs

-- the class that a type names: the type is one, or it is an option of a type that names one
abbrev pub type_class_layer : AdapterType-F (Option (List ℕ)) → Option (List ℕ)
type_class_layer (AdapterType-F.Class name) = Some name
type_class_layer (AdapterType-F.Option inner) = inner
type_class_layer other = None

abbrev pub type_class : AdapterType → Option (List ℕ)
type_class = fold-AdapterType (Option (List ℕ)) type_class_layer

-- the class that an instruction names
abbrev pub instruction_class : Instruction → Option (List ℕ)
instruction_class (instr.ClassIntoPtr class) = Some class
instruction_class (instr.ClassPtr class) = Some class
instruction_class (instr.ClassFromPtr class) = Some class
instruction_class other = None

-- the name, where there is one, and it is none of these
abbrev pub unknown : (classes : List (List ℕ)) → Option (List ℕ) → Option (List ℕ)
unknown classes None = None
unknown classes (Some name) = where_true (not (is_one_of classes name)) name

abbrev pub unknown_type : (classes : List (List ℕ)) → AdapterType → Option (List ℕ)
unknown_type classes ty = unknown classes (type_class ty)

abbrev pub unknown_instruction : (classes : List (List ℕ)) → Instruction → Option (List ℕ)
unknown_instruction classes i = unknown classes (instruction_class i)

-- the first class that an adapter names, by the types of its arguments, by those of its results, or by its code, and that is none of these
abbrev pub unknown_in : (classes : List (List ℕ)) → Adapter → Option (List ℕ)
unknown_in classes a = first_some (
    first_of (unknown_type classes) a.args
    ∷ first_of (unknown_type classes) a.results
    ∷ first_of (unknown_instruction classes) (code_of a.kind)
    ∷ [])

-- An adapter names a class that isn't described. What is said of classes that imports, members and unions name is missing: no description that is
-- built has any of these.
abbrev pub unknown_class : Lowered → Option Fault
unknown_class l = option_map faults.UnknownClass (first_of (λ (e : ℕ × Adapter). unknown_in (class_names l.aux) e.1) l.wit.adapters)
