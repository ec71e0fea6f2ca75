-- The one spelling of types that is written.
use Rattle.std.specs.Prelude.{ℕ, List, [], ◌∷◌, ◌++◌}
use Rattle.wasm_bytes.specs.Spelling.{list_bytes}
use Rattle.wasm_types.specs.Types.{code_of}
use Rattle.wasm_types.specs.declared.types.ValType.{ValType}
use Rattle.wasm_types.specs.declared.types.FuncType.{FuncType}

unfoldable pub val_type_bytes : ValType → List ℕ
val_type_bytes ty = code_of ty ∷ []

unfoldable pub func_type_bytes : FuncType → List ℕ
func_type_bytes ty = 0x60 ∷ (list_bytes val_type_bytes ty.params ++ list_bytes val_type_bytes ty.results)
