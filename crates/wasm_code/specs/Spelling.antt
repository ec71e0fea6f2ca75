-- The one spelling of code that is written.
use Rattle.std.specs.Prelude.{ℕ, List, [], ◌∷◌, ◌++◌}
use Rattle.std.specs.List.{flat_map}
use Rattle.wasm_bytes.specs.Numbers.{number_bytes}
use Rattle.wasm_bytes.specs.Spelling.{list_bytes, framed_bytes}
use Rattle.wasm_types.specs.Types.{code_of}
use Rattle.wasm_types.specs.declared.types.ValType.{ValType}
use Rattle.wasm_ops.specs.Spelling.{op_bytes}
use Rattle.wasm_ops.specs.declared.ops.Op.{Op}
use Rattle.wasm_code.specs.Locals.{joined_runs}
use Rattle.wasm_code.specs.declared.body.Body.{Body}

-- operators, and the one that ends them
unfoldable pub expression_bytes : List Op → List ℕ
expression_bytes ops = flat_map op_bytes ops ++ 0x0B ∷ []

-- how many locals, and their type
unfoldable pub run_bytes : ℕ × ValType → List ℕ
run_bytes r = number_bytes r.0 ++ code_of r.1 ∷ []

-- the runs of locals, joined, and the operators
unfoldable pub body_bytes : Body → List ℕ
body_bytes b = list_bytes run_bytes (joined_runs b.locals) ++ expression_bytes b.ops

-- a body behind its length
unfoldable pub code_bytes : Body → List ℕ
code_bytes b = framed_bytes (body_bytes b)
