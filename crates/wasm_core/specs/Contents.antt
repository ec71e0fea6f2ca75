-- A module by ids: an id is a place in a list, and what is dropped leaves its place empty.
use Rattle.std.specs.Prelude.{ℕ, List, Option, Some, None, slice_get}
use Rattle.wasm_types.specs.declared.ids.FuncId.{FuncId}
use Rattle.wasm_types.specs.declared.types.FuncType.{FuncType}
use Rattle.wasm_file.specs.declared.entries.Export.{Export}
use Rattle.wasm_file.specs.declared.entries.Custom.{Custom}
use Rattle.wasm_core.specs.declared.types.Func.{Func}
use Rattle.wasm_core.specs.declared.types.Table.{Table}
use Rattle.wasm_core.specs.declared.types.Memory.{Memory}
use Rattle.wasm_core.specs.declared.types.GlobalVar.{GlobalVar}
use Rattle.wasm_core.specs.declared.types.Tag.{Tag}
use Rattle.wasm_core.specs.declared.types.Import.{Import}
use Rattle.wasm_file.specs.declared.entries.Elem.{Elem}
use Rattle.wasm_file.specs.declared.entries.Segment.{Segment}
use Rattle.wasm_file.specs.declared.entries.ProducerField.{ProducerField}
use Rattle.wasm_core.specs.declared.types.ParseConfig.{ParseConfig}

-- The lists of a module: what stands at the places of each kind, and what is of the whole.
pub record Contents : Type 0 where
  pub types : List (Option FuncType)
  pub funcs : List (Option Func)
  pub tables : List (Option Table)
  pub memories : List (Option Memory)
  pub globals : List (Option GlobalVar)
  pub tags : List (Option Tag)
  pub imports : List (Option Import)
  pub exports : List (Option Export)
  pub elems : List (Option Elem)
  pub segments : List (Option Segment)
  pub customs : List Custom
  pub start : Option FuncId
  pub name : Option (List ℕ)
  pub producers : List ProducerField
  pub config : ParseConfig

-- there is an entry
abbrev pub IsEntry : {A : Type 0} → Option (Option A) → Type 0
IsEntry (Some (Some x)) = Unit {0}
IsEntry (Some None) = ⊥
IsEntry None = ⊥

-- a place of the list holds an entry
abbrev pub IsLive : {A : Type 0} → List (Option A) → ℕ → Type 0
IsLive xs i = IsEntry (slice_get xs i)
