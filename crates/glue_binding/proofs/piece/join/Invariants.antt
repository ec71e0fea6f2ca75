use Rattle.std.proofs.Common.{◌≡◌, length}
use Rattle.glue_tree.specs.Term.{NoLines}
use Rattle.glue_binding.specs.Body.{plain_pieces, behind}
use Rattle.glue_binding.specs.Spelling.{nested}
use Rattle.glue_binding.proofs.piece.join.Given as goal

abbrev pub invariant-loop-piece : goal.invariant-loop-piece
invariant-loop-piece l = nested (plain_pieces l.left) (behind l.lines.items)
    ≡ nested (plain_pieces l.initial.left) NoLines

abbrev pub decreases-loop-piece : goal.decreases-loop-piece
decreases-loop-piece l = length l.left
