-- What is changed in the collected module, as one value, and the module with it.
use Rattle.std.specs.Prelude.{ℕ, Bool, true, false, List, [], ◌∷◌, length, fold, All, Option, Some, None, IsSomeAnd}
use Rattle.wasm_core.specs.ids.ImportId.{ImportId}
use Rattle.wasm_core.specs.ids.FuncId.{FuncId}
use Rattle.wasm_core.specs.ids.GlobalId.{GlobalId}
use Rattle.wasm_core.specs.body.Body.{Body}
use Rattle.wasm_core.specs.ops.Op.TheVariants as op
use Rattle.wasm_core.specs.types.FuncType.{FuncType}
use Rattle.wasm_core.specs.types.ValType.TheVariants.{I32}
use Rattle.wasm_core.specs.entries.ExportItem.{ExportItem}
use Rattle.wasm_core.specs.entries.ExportItem.TheVariants as items
use Rattle.wasm_core.specs.Contents.{Contents, IsLive}
use Rattle.wasm_core.specs.Edits.{with_import, with_export, with_func, without_start, IsLiveItem}
pub use Rattle.glue_names.specs.Naming.{has_start}
use Rattle.glue_names.specs.Naming.{shim_name, start_name}
use Rattle.glue_context.specs.declared.edits.Edits.{Edits}

-- an import that comes from this module, under this name, from now on
abbrev pub with_moved : Contents → ImportId × List ℕ × List ℕ → Contents
with_moved m e = with_import e.0.0 e.1 e.2 m

-- an entry that is exported under this name besides
abbrev pub with_added : Contents → List ℕ × ExportItem → Contents
with_added m e = with_export e.0 e.1 m

-- a 32-bit integer is taken, and one is given
abbrev pub shim_type : FuncType
shim_type = record { params = I32 ∷ []; results = I32 ∷ [] }

-- `local.get 0, global.get g, i32.add, global.set g, global.get g`: the argument is added to the global, and the sum is given
abbrev pub shim_body : ℕ → Body
shim_body g = record {
  locals = [];
  ops = op.Local 0x20 0 ∷ op.Global 0x23 (record { 0 = g }) ∷ op.Plain 0x6A ∷ op.Global 0x24 (record { 0 = g }) ∷ op.Global 0x23 (record { 0 = g }) ∷ [];
}

-- the shim, a function that moves the stack pointer of the module, and its export
abbrev pub with_shim : Option GlobalId → Contents → Contents
with_shim None m = m
with_shim (Some g) m = with_export shim_name (items.Func (record { 0 = length m.funcs })) (with_func shim_type shim_name (shim_body g.0) m)

-- no start function, and the one that stood is exported
abbrev pub with_start_exported : Option FuncId → Contents → Contents
with_start_exported None m = m
with_start_exported (Some f) m = with_export start_name (items.Func f) (without_start m)

-- the same, where that is asked for
abbrev pub with_start_moved : Bool → Contents → Contents
with_start_moved true m = with_start_exported m.start m
with_start_moved false m = m

-- the module with these changes and no other: its imports moved, exports added, the shim, the start function moved, one after the other
abbrev pub edited : Edits → Contents → Contents
edited e m = with_start_moved e.start (with_shim e.shim (fold with_added (fold with_moved m e.imports) e.exports))

-- a start function stands, where it is to be moved
abbrev pub HasStart : Bool → Contents → Type 0
HasStart true m = IsSomeAnd m.start (λ f. IsLive m.funcs f.0)
HasStart false m = Unit {0}

-- what moves and what is exported are entries of the module
pub record AreFit (e : Edits) (m : Contents) : Type 0 where
  pub imports : All (λ (x : ImportId × List ℕ × List ℕ). IsLive m.imports x.0.0) e.imports
  pub exports : All (λ (x : List ℕ × ExportItem). IsLiveItem m x.1) e.exports
  pub start : HasStart e.start m
