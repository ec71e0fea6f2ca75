-- The kinds of imported items.
use Rattle.std.specs.Prelude.{ℕ, Bool}
use Rattle.wasm_file.specs.Parts.{is_func, is_table, is_memory, is_global, is_tag}
use Rattle.wasm_file.specs.declared.entries.ImportType.{ImportType}
use Rattle.wasm_file.specs.declared.entries.ImportType.TheVariants as asked
use Rattle.wasm_file.specs.declared.imported.Kind.{Kind}
use Rattle.wasm_file.specs.declared.imported.Kind.TheVariants as kinds

-- an item of this kind is asked for
abbrev pub is_of : Kind → ImportType → Bool
is_of kinds.Func ty = is_func ty
is_of kinds.Table ty = is_table ty
is_of kinds.Memory ty = is_memory ty
is_of kinds.Global ty = is_global ty
is_of kinds.Tag ty = is_tag ty

-- the byte that tells what is asked for
abbrev pub kind_byte : ImportType → ℕ
kind_byte (asked.Func ty) = 0
kind_byte (asked.Table ty size) = 1
kind_byte (asked.Memory size) = 2
kind_byte (asked.Global ty mutable) = 3
kind_byte (asked.Tag ty) = 4
