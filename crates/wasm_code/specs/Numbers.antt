-- Operators and bodies that name entries by the numbers that these have in the file that is written.
use Rattle.std.specs.Prelude.{List, map}
use Rattle.wasm_ops.specs.Numbers.{renumbered_op}
use Rattle.wasm_ops.specs.declared.ops.Op.{Op}
use Rattle.wasm_ops.specs.declared.ops.Numbering.{Numbering}
use Rattle.wasm_code.specs.declared.body.Body.{Body}

abbrev pub renumbered_ops : Numbering → List Op → List Op
renumbered_ops numbers ops = map (renumbered_op numbers) ops

abbrev pub renumbered_body : Numbering → Body → Body
renumbered_body numbers b = record b { ops = renumbered_ops numbers b.ops }
