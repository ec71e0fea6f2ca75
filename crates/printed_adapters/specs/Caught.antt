-- What imports throw that the glue file defines by functions of adapters: whether it is caught, and handed to the module.
use Rattle.std.specs.Prelude.{◌≡◌, ◌⊎◌, ℕ, Bool, true, false, not, ◌&&◌, is_some, List, [], ◌∷◌, Option, Some, None}
use Rattle.std.specs.List.{list_any}
use Rattle.values.specs.Lists.{IsIn}
use Rattle.wasm_core.specs.ids.ImportId.{ImportId}
use Rattle.glue_shared.specs.declared.adapter.Instruction.{Instruction}
use Rattle.glue_shared.specs.declared.adapter.Instruction.TheVariants as instr
use Rattle.glue_shared.specs.declared.import.AuxImport.{AuxImport}
use Rattle.glue_shared.specs.declared.import.AuxImport.TheVariants as what
use Rattle.glue_shared.specs.declared.import.Intrinsic.TheVariants as intrinsics
use Rattle.glue_shared.specs.declared.description.Lowered.{Lowered}
use Rattle.glue_shared.specs.declared.settings.Settings.{Settings}
use Rattle.glue_shared.specs.Names.{has_number, own_imports}
use Rattle.glue_steps.specs.Resolving.{described_import}
use Rattle.printed_adapters.specs.Printed.{code_by, printed_code}

-- an import throws because it is called for that
abbrev pub is_thrower : Option AuxImport → Bool
is_thrower (Some (what.Intrinsic intrinsics.Throw)) = true
is_thrower (Some (what.Intrinsic intrinsics.Rethrow)) = true
is_thrower other = false

-- an instruction calls such an import
abbrev pub calls_thrower : Lowered → Instruction → Bool
calls_thrower l (instr.CallAdapter id) = is_thrower (described_import l.aux.imports id)
calls_thrower l other = false

-- What the import throws that an adapter calls is caught, and handed to the module: the description lists the adapter, the module takes no
-- exceptions of JavaScript by a tag, and the import isn't called for throwing.
abbrev pub is_caught : Lowered → ℕ → Bool
is_caught l id = (has_number id l.aux.imports_with_catch && not (is_some l.aux.js_tag)) && not (list_any (calls_thrower l) (code_by l id))

-- that of a pair is, where its import is one of these
abbrev pub is_caught_pair : List ℕ → Lowered → ImportId × ℕ → Bool
is_caught_pair own l pair = has_number pair.0.0 own && is_caught l pair.1

-- the glue file catches what an import throws that it defines
abbrev pub catches : Settings → Lowered → Bool
catches s l = list_any (is_caught_pair (own_imports s l.«module» l.wit l.aux) l) l.wit.implements

-- what is caught is handed on as a value that the module owns from then on
abbrev pub handing : Instruction
handing = instr.IndexFromOwned

-- the glue file goes by an instruction: it is one of an adapter that becomes a function, or the one by which what is caught is handed on
abbrev pub IsOfGlue : Settings → Lowered → Instruction → Type 0
IsOfGlue s l i = IsIn i (printed_code s l) ⊎ ((catches s l ≡ true) × (i ≡ handing))
