-- Variants without their pointers.
use Rattle.std.proofs.Common.{◌≡◌, ℕ, List, ap, sym, ◌∙◌}
use Rattle.std.specs.Prelude.{Option}
use Rattle.glue_words.specs.declared.word.Word.{Word}
use Rattle.glue_tree.specs.Term.{Line, Inner}
use Rattle.glue_tree.specs.Plainly.{plain_exprs, plain_stmt, stmt_step}
use Rattle.glue_tree.specs.declared.tree.Expr.{Expr}
use Rattle.glue_tree.specs.declared.tree.Stmt.TheOpen.{Stmt-F}
use Rattle.glue_tree.specs.declared.tree.Stmt.TheFolds.{fold-roll-Stmt}
use Rattle.glue_tree.specs.declared.tree.Stmt.TheVariants as t

pub embedded_plain : (adapter : ℕ) (es : List Expr) (bound : Option (List ℕ)) (words : List Word) → plain_stmt (t.Embedded adapter es bound words) ≡ Inner adapter (plain_exprs es) bound words
embedded_plain adapter es bound words = ap plain_stmt (sym (t.rolls-Embedded adapter es bound words)) ∙ fold-roll-Stmt Line stmt_step (Stmt-F.Embedded adapter es bound words)
