-- The pairs of own imports and their adapters, and what these call.
use Rattle.std.specs.Prelude.{ℕ, Bool, List, [], Option, Some, None, filter, filter_map, if◌then◌else◌}
use Rattle.std.specs.List.{flat_map}
use Rattle.std.specs.Ordering.{nat_cmp}
use Rattle.values.specs.Map.{look_up}
use Rattle.wasm_core.specs.ids.ImportId.{ImportId}
use Rattle.glue_shared.specs.declared.adapter.Instruction.{Instruction}
use Rattle.glue_shared.specs.declared.adapter.Instruction.TheVariants as instr
use Rattle.glue_shared.specs.declared.description.Lowered.{Lowered}
use Rattle.glue_shared.specs.declared.settings.Settings.{Settings}
use Rattle.glue_shared.specs.Names.{has_number, code_of, own_imports}

-- the import adapter that an instruction calls
abbrev pub callee : Instruction → Option ℕ
callee (instr.CallAdapter id) = Some id
callee other = None

-- the import adapters that the adapter of a pair calls, where its import is one of these
abbrev pub pair_callees : List ℕ → Lowered → ImportId × ℕ → List ℕ
pair_callees own l pair = if has_number pair.0.0 own then filter_map callee (code_of (look_up nat_cmp l.wit.adapters pair.1)) else []

-- the import adapters that those of own imports call
abbrev pub own_callees : Settings → Lowered → List ℕ
own_callees s l = flat_map (pair_callees (own_imports s l.«module» l.wit l.aux) l) l.wit.implements

-- the import of a pair is one of these
abbrev pub is_among : List ℕ → ImportId × ℕ → Bool
is_among own pair = has_number pair.0.0 own

-- the pairs whose imports the glue file defines
abbrev pub own_pairs : Settings → Lowered → List (ImportId × ℕ)
own_pairs s l = filter (is_among (own_imports s l.«module» l.wit l.aux)) l.wit.implements
