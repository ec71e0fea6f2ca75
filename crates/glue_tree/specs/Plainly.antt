-- From the program's expressions and statements to those without pointers.
use Rattle.std.specs.Prelude.{ℕ, List, [], ◌∷◌, map, Option, Some, None}
use Rattle.glue_tree.specs.Term.{Term, Lit, Large, Chars, Const, Var, Name, Outside, Export, Field, Index, Apply, Make, One, Two, Choose, Fields, Terms, NoTerms, AndTerm, Keyed, NoKeys, AndKey, Line, Bind, Hold, Put, Run, When, Short, Always, Rescue, Fail, Leave, Inner, Lines, NoLines, AndLine}
use Rattle.glue_tree.specs.declared.tree.Expr.{Expr}
use Rattle.glue_tree.specs.declared.tree.Expr.TheOpen.{Expr-F}
use Rattle.glue_tree.specs.declared.tree.Expr.TheFolds.{fold-Expr}
use Rattle.glue_tree.specs.declared.tree.Stmt.{Stmt}
use Rattle.glue_tree.specs.declared.tree.Stmt.TheOpen.{Stmt-F}
use Rattle.glue_tree.specs.declared.tree.Stmt.TheFolds.{fold-Stmt}

-- expressions as a list of their own
abbrev pub terms_of : List Term → Terms
terms_of [] = NoTerms
terms_of (e ∷ es) = AndTerm e (terms_of es)

-- expressions with their keys as a list of their own
abbrev pub keyed_of : List (List ℕ × Term) → Keyed
keyed_of [] = NoKeys
keyed_of (field ∷ fields) = AndKey field.0 field.1 (keyed_of fields)

-- statements as a list of their own
abbrev pub lines_of : List Line → Lines
lines_of [] = NoLines
lines_of (line ∷ lines) = AndLine line (lines_of lines)

-- one layer of an expression, where the layers under it are done
abbrev pub expr_step : Expr-F Term → Term
expr_step (Expr-F.Num n) = Lit n
expr_step (Expr-F.Big n) = Large n
expr_step (Expr-F.Str text) = Chars text
expr_step (Expr-F.Constant constant) = Const constant
expr_step (Expr-F.Local name) = Var name
expr_step (Expr-F.Module name) = Name name
expr_step (Expr-F.Host name) = Outside name
expr_step (Expr-F.Wasm name) = Export name
expr_step (Expr-F.Member e name) = Field e name
expr_step (Expr-F.At e i) = Index e i
expr_step (Expr-F.Call f arguments) = Apply f (terms_of arguments)
expr_step (Expr-F.New f arguments) = Make f (terms_of arguments)
expr_step (Expr-F.Unary op e) = One op e
expr_step (Expr-F.Binary op a b) = Two op a b
expr_step (Expr-F.Cond c a b) = Choose c a b
expr_step (Expr-F.Record fields) = Fields (keyed_of fields)

-- an expression without pointers
abbrev pub plain_expr : Expr → Term
plain_expr = fold-Expr Term expr_step

-- expressions without pointers
abbrev pub plain_exprs : List Expr → Terms
plain_exprs es = terms_of (map plain_expr es)

-- expressions with their keys, without pointers
abbrev pub plain_fields : List (List ℕ × Expr) → Keyed
plain_fields fields = keyed_of (map (λ field. (field.0, plain_expr field.1)) fields)

-- the end of a function without pointers
abbrev pub plain_return : Option Expr → Line
plain_return None = Leave None
plain_return (Some e) = Leave (Some (plain_expr e))

-- one layer of a statement, where the layers under it are done
abbrev pub stmt_step : Stmt-F Line → Line
stmt_step (Stmt-F.Let name e) = Bind name (plain_expr e)
stmt_step (Stmt-F.Unset name) = Hold name
stmt_step (Stmt-F.Set target e) = Put (plain_expr target) (plain_expr e)
stmt_step (Stmt-F.Do e) = Run (plain_expr e)
stmt_step (Stmt-F.If e body) = When (plain_expr e) (lines_of body)
stmt_step (Stmt-F.Short e line) = Short (plain_expr e) line
stmt_step (Stmt-F.Finally body last) = Always (lines_of body) (lines_of last)
stmt_step (Stmt-F.Catch body name last) = Rescue (lines_of body) name (lines_of last)
stmt_step (Stmt-F.Throw e) = Fail (plain_expr e)
stmt_step (Stmt-F.Return value) = plain_return value
stmt_step (Stmt-F.Embedded adapter es bound words) = Inner adapter (plain_exprs es) bound words

-- a statement without pointers
abbrev pub plain_stmt : Stmt → Line
plain_stmt = fold-Stmt Line stmt_step

-- statements without pointers
abbrev pub plain_stmts : List Stmt → Lines
plain_stmts body = lines_of (map plain_stmt body)
