-- The body of a function while its steps are spelled.
use Rattle.std.specs.Prelude.{◌≡◌, List, ◌++◌, map, reverse}
use Rattle.glue_tree.specs.Term.{Lines}
use Rattle.glue_tree.specs.Plainly.{plain_stmt, plain_stmts}
use Rattle.glue_tree.specs.declared.tree.Stmt.{Stmt}
use Rattle.glue_operands.specs.Spelling.{Plain}
use Rattle.glue_operands.specs.Plainly.{plain_operand}
use Rattle.glue_operands.specs.declared.operand.Operand.{Operand}
use Rattle.glue_binding.specs.Spelling as s
use Rattle.glue_binding.specs.declared.piece.Piece.{Piece}
use Rattle.glue_binding.specs.declared.piece.Piece.TheVariants as p
use Rattle.glue_binding.specs.declared.body.Body.{Body}
use Rattle.glue_steps.specs.declared.step.Step.{Step}

-- a piece without pointers
abbrev pub plain_piece : Piece → s.Piece
plain_piece (p.Ahead line) = s.Ahead (plain_stmt line)
plain_piece (p.Cleanup line) = s.Cleanup (plain_stmt line)

-- the list whose last item is the newest, the newest first
unfoldable pub newest_first : {A : Type 0} → List A → List A
newest_first items = reverse items

-- the stack that a list of operands holds
unfoldable pub stack_of : List Operand → List Plain
stack_of items = reverse (map plain_operand items)

-- pieces without pointers
unfoldable pub plain_pieces : List Piece → List s.Piece
plain_pieces pieces = map plain_piece pieces

-- statements without pointers, of a list that holds the last one first
unfoldable pub behind : List Stmt → Lines
behind stmts = plain_stmts (reverse stmts)

-- the row of a step, for the operands and the names to come of this body
abbrev pub row_of : Step → (params : List Plain) → Body → s.Row
row_of step params body = s.row step params (stack_of body.stack) (newest_first body.coming)

-- what a row makes of a body
pub record IsAfter (r : s.Row) (old new : Body) : Type 0 where
  pub pieces : plain_pieces new.pieces ≡ plain_pieces old.pieces ++ r.pieces
  pub stack : stack_of new.stack ≡ r.stack
  pub names : newest_first new.coming ≡ r.names
