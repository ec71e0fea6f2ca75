-- Expressions and statements without the pointers that hold them. Their forms are those of the program's types:
--
--     Lit Large Chars Const        a whole number, a big integer, a text, a keyword that is an expression
--     Var Name Outside Export      a local, a name of the module, a name of the host, an export of the WebAssembly module
--     Field Index Apply Make       `e.name`, `e[i]`, `f(..)`, `new f(..)`
--     One Two Choose Fields        an operator with one operand or two, `c ? a : b`, `{ key: e, .. }`
--     Bind Hold Put Run            `const name = e;`, `let name;`, `target = e;`, `e;`
--     When Short                   `if (c) {..}`, `if (c) s`
--     Always Rescue                `try {..} finally {..}`, `try {..} catch (name) {..}`
--     Fail Leave                   `throw e;`, `return;` and `return e;`
--     Inner                        the call of an import adapter: its operands, the local that its answer is bound to,
--                                  and its own words
use Rattle.std.specs.Prelude.{ℕ, ℤ, List, Option}
use Rattle.glue_words.specs.declared.word.Word.{Word}
use Rattle.glue_tree.specs.declared.tree.BinaryOperator.{BinaryOperator}
use Rattle.glue_tree.specs.declared.tree.Constant.{Constant}
use Rattle.glue_tree.specs.declared.tree.UnaryOperator.{UnaryOperator}

mutual
  -- an expression
  pub data Term : Type 0 where
    Lit : ℤ → Term
    Large : ℤ → Term
    Chars : List ℕ → Term
    Const : Constant → Term
    Var : (name : List ℕ) → Term
    Name : (name : List ℕ) → Term
    Outside : (name : List ℕ) → Term
    Export : (name : List ℕ) → Term
    Field : Term → (name : List ℕ) → Term
    Index : Term → Term → Term
    Apply : Term → Terms → Term
    Make : Term → Terms → Term
    One : UnaryOperator → Term → Term
    Two : BinaryOperator → Term → Term → Term
    Choose : Term → Term → Term → Term
    Fields : Keyed → Term

  -- a list of expressions
  pub data Terms : Type 0 where
    NoTerms : Terms
    AndTerm : Term → Terms → Terms

  -- a list of expressions, each with its key
  pub data Keyed : Type 0 where
    NoKeys : Keyed
    AndKey : (name : List ℕ) → Term → Keyed → Keyed

mutual
  -- a statement
  pub data Line : Type 0 where
    Bind : (name : List ℕ) → Term → Line
    Hold : (name : List ℕ) → Line
    Put : Term → Term → Line
    Run : Term → Line
    When : Term → Lines → Line
    Short : Term → Line → Line
    Always : Lines → Lines → Line
    Rescue : Lines → (name : List ℕ) → Lines → Line
    Fail : Term → Line
    Leave : Option Term → Line
    Inner : (adapter : ℕ) → Terms → (bound : Option (List ℕ)) → (words : List Word) → Line

  -- a list of statements
  pub data Lines : Type 0 where
    NoLines : Lines
    AndLine : Line → Lines → Lines
