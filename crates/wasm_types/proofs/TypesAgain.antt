-- Types that are written are read again.
use Rattle.std.proofs.Common.{◌≡◌, Some, refl}
use Rattle.wasm_bytes.specs.Reads.{Reads}
use Rattle.wasm_bytes.proofs.ReadAgain.{reads_meant, reads_byte}
use Rattle.wasm_types.specs.Types.{val_type_of, code_of}
use Rattle.wasm_types.specs.Entries.{val_type}
use Rattle.wasm_types.specs.Spelling.{val_type_bytes}
use Rattle.wasm_types.specs.declared.types.ValType.{ValType}
use Rattle.wasm_types.specs.declared.types.ValType.TheVariants.{I32, I64, F32, F64, V128, FuncRef, ExternRef, ExnRef}

val_type_code : (ty : ValType) → val_type_of (code_of ty) ≡ Some ty
val_type_code I32 = refl
val_type_code I64 = refl
val_type_code F32 = refl
val_type_code F64 = refl
val_type_code V128 = refl
val_type_code FuncRef = refl
val_type_code ExternRef = refl
val_type_code ExnRef = refl

pub val_type_again : (ty : ValType) → Reads val_type (val_type_bytes ty) ty
unfolding val_type val_type_bytes
val_type_again ty = reads_meant val_type_of (reads_byte (code_of ty)) (val_type_code ty)
