-- The bytes of value types.
use Rattle.std.specs.Prelude.{ℕ, Bool, true, false, Option, Some, None, ◌==◌, if◌then◌else◌}
use Rattle.wasm_types.specs.declared.types.ValType.{ValType}
use Rattle.wasm_types.specs.declared.types.ValType.TheVariants.{I32, I64, F32, F64, V128, FuncRef, ExternRef, ExnRef}

abbrev pub code_of : ValType → ℕ
code_of I32 = 0x7F
code_of I64 = 0x7E
code_of F32 = 0x7D
code_of F64 = 0x7C
code_of V128 = 0x7B
code_of FuncRef = 0x70
code_of ExternRef = 0x6F
code_of ExnRef = 0x69

-- the values are references
abbrev pub is_reference : ValType → Bool
is_reference FuncRef = true
is_reference ExternRef = true
is_reference ExnRef = true
is_reference _ = false

-- what a byte stands for
abbrev pub val_type_of : ℕ → Option ValType
val_type_of code =
    if code == 0x7F then Some I32 else
    if code == 0x7E then Some I64 else
    if code == 0x7D then Some F32 else
    if code == 0x7C then Some F64 else
    if code == 0x7B then Some V128 else
    if code == 0x70 then Some FuncRef else
    if code == 0x6F then Some ExternRef else
    if code == 0x69 then Some ExnRef else None
