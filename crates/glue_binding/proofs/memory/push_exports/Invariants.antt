use Rattle.std.proofs.Common.{◌≡◌, ◌++◌, take, map}
use Rattle.glue_tree.specs.Plainly.{plain_expr}
use Rattle.glue_tree.specs.Term.{Export}
use Rattle.glue_binding.proofs.memory.push_exports.Given as goal

abbrev pub invariant-loop-name : goal.invariant-loop-name
invariant-loop-name l = map plain_expr l.exprs ≡ map plain_expr l.initial.exprs ++ map Export (take l.name-index l.names)
