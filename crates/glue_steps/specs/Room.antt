-- Room for results, which code takes on the stack of the module: a global of the module, a part of the description, tells where that stack ends.
use Rattle.std.specs.Prelude.{Bool, true, false, List, is_some, option_and_then}
use Rattle.std.specs.List.{list_any}
use Rattle.wasm_core.specs.ids.GlobalId.{GlobalId}
use Rattle.glue_shared.specs.declared.adapter.Instruction.{Instruction}
use Rattle.glue_shared.specs.declared.adapter.Instruction.TheVariants as instr
use Rattle.glue_shared.specs.declared.description.Lowered.{Lowered}
use Rattle.glue_steps.specs.Resolving.{entry_at}

-- an instruction takes room
abbrev pub is_room : Instruction → Bool
is_room (instr.Retptr size) = true
is_room other = false

-- one of these does
abbrev pub makes_room : List Instruction → Bool
makes_room code = list_any is_room code

-- a global is there that tells where the stack ends
abbrev pub has_stack : Lowered → Bool
has_stack l = is_some (option_and_then (λ (g : GlobalId). entry_at l.«module».globals g.0) l.aux.stack_pointer)
