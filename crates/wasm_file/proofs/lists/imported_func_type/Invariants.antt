use Rattle.std.proofs.Common.{◌≡◌, drop}
use Rattle.std.specs.Prelude.{slice_get}
use Rattle.wasm_file.specs.Parts.{imported_func_types}
use Rattle.wasm_file.proofs.lists.imported_func_type.Given as goal

abbrev pub invariant-loop-import : goal.invariant-loop-import
invariant-loop-import l = slice_get (imported_func_types (drop l.import-index l.imports)) l.left ≡ slice_get (imported_func_types l.imports) l.fn.place
