-- The words of expressions, statements and functions.
use Rattle.std.specs.Prelude.{ℕ, Bool, true, false, not, List, [], ◌∷◌, ◌++◌, flat_map, Some, None, codes}
use Rattle.glue_words.specs.declared.word.Word.{Word}
use Rattle.glue_words.specs.declared.word.Word.TheVariants as w
use Rattle.glue_words.specs.Functions.{parameter_words, parenthesised}
use Rattle.glue_tree.specs.FixedWords.{open_brace, close_brace, open_paren, close_paren, open_bracket, close_bracket, dot, comma, semicolon, colon, question, equals, catch_word, const_word, finally_word, if_word, let_word, big_mark, new_word, return_word, throw_word, try_word, constant_word, unary_word, binary_word}
use Rattle.glue_words.specs.Words.{space, line_feed}
use Rattle.glue_tree.specs.declared.tree.UnaryOperator.{UnaryOperator}
use Rattle.glue_tree.specs.declared.tree.UnaryOperator.TheVariants as u
use Rattle.glue_tree.specs.declared.operand.Position.{Position}
use Rattle.glue_tree.specs.declared.operand.Position.TheVariants as p
use Rattle.glue_tree.specs.Operands.{takes, begins_with_brace}
use Rattle.glue_tree.specs.Term.{Term, Lit, Large, Chars, Const, Var, Name, Outside, Export, Field, Index, Apply, Make, One, Two, Choose, Fields, Terms, NoTerms, AndTerm, Keyed, NoKeys, AndKey, Line, Bind, Hold, Put, Run, When, Short, Always, Rescue, Fail, Leave, Inner, Lines, NoLines, AndLine}

-- `, a, b`
abbrev pub after_commas : List (List Word) → List Word
after_commas parts = flat_map (λ part. comma ∷ space ∷ part) parts

-- `, ` before all but the first
abbrev pub comma_unless : Bool → List Word
comma_unless true = []
comma_unless false = comma ∷ space ∷ []

-- whether a list is empty
abbrev pub is_none : {A : Type 0} → List A → Bool
is_none [] = true
is_none (x ∷ xs) = false

-- a line feed before all but the first
abbrev pub feed_unless : Bool → List Word
feed_unless true = []
feed_unless false = line_feed ∷ []

-- `a, b`
abbrev pub listed : List (List Word) → List Word
listed [] = []
listed (part ∷ parts) = part ++ after_commas parts

-- `(a, b)`
abbrev pub in_parens : List (List Word) → List Word
in_parens parts = parenthesised (listed parts)

-- ---- operands

-- in parentheses or not
abbrev pub parens_if : Bool → List Word → List Word
parens_if true words = parenthesised words
parens_if false words = words

-- an operand where it stands: in parentheses, where the position doesn't take it as it is
abbrev pub operand_words : Position → Term → List Word → List Word
operand_words position e words = parens_if (not (takes position e)) words

-- what stands before the operand of an operator, and behind it: `++` stands behind, and `typeof` has a space
abbrev pub before_operand : UnaryOperator → List Word
before_operand u.Increment = []
before_operand u.Decrement = unary_word u.Decrement ∷ []
before_operand u.BitNot = unary_word u.BitNot ∷ []
before_operand u.Not = unary_word u.Not ∷ []
before_operand u.TypeOf = unary_word u.TypeOf ∷ space ∷ []

-- what stands behind the operand: `++`, or nothing
abbrev pub behind_operand : UnaryOperator → List Word
behind_operand u.Increment = unary_word u.Increment ∷ []
behind_operand op = []

-- ---- expressions

abbrev mutual
  -- the words of an expression
  pub term_words : Term → List Word
  term_words (Lit n) = w.Num n ∷ []
  term_words (Large n) = w.Num n ∷ big_mark ∷ []
  term_words (Chars text) = w.Text text ∷ []
  term_words (Const constant) = constant_word constant ∷ []
  term_words (Var name) = w.Local name ∷ []
  term_words (Name name) = w.Refer name false ∷ []
  term_words (Outside name) = w.Host name false ∷ []
  term_words (Export name) = w.Refer (codes "wasm") false ∷ w.Wasm name ∷ []
  term_words (Field e name) = operand_words p.Object e (term_words e) ++ dot ∷ w.Prop name ∷ []
  term_words (Index e i) = operand_words p.Callee e (term_words e) ++ (open_bracket ∷ term_words i ++ close_bracket ∷ [])
  term_words (Apply f es) = operand_words p.Callee f (term_words f) ++ in_parens (parts_of es)
  term_words (Make f es) = new_word ∷ space ∷ operand_words p.Class f (term_words f) ++ in_parens (parts_of es)
  term_words (One op e) = before_operand op ++ (operand_words (p.Operand op) e (term_words e) ++ behind_operand op)
  term_words (Two op a b) =
      operand_words (p.Left op) a (term_words a)
      ++ space ∷ binary_word op ∷ space ∷ operand_words (p.Right op) b (term_words b)
  term_words (Choose c a b) =
      operand_words p.Choice c (term_words c) ++ (space ∷ question ∷ space ∷ operand_words p.Choice a (term_words a)
      ++ space ∷ colon ∷ space ∷ operand_words p.Choice b (term_words b))
  term_words (Fields es) = open_brace ∷ space ∷ listed (fields_of es) ++ space ∷ close_brace ∷ []

  -- the words of each of the expressions
  pub parts_of : Terms → List (List Word)
  parts_of NoTerms = []
  parts_of (AndTerm e es) = term_words e ∷ parts_of es

  -- `key: e` for each of the expressions
  pub fields_of : Keyed → List (List Word)
  fields_of NoKeys = []
  fields_of (AndKey name e es) = (w.Prop name ∷ colon ∷ space ∷ term_words e) ∷ fields_of es

-- ---- statements

-- an expression at the start of a statement: in parentheses where it begins with `{`, which would open a block
abbrev pub starting_words : Term → List Word
starting_words e = parens_if (begins_with_brace e) (term_words e)

-- `const name = `
abbrev pub const_start : List ℕ → List Word
const_start name = const_word ∷ space ∷ w.LocalBind name ∷ space ∷ equals ∷ space ∷ []

-- `if (e) ` before words
abbrev pub after_if : Term → List Word → List Word
after_if e words = if_word ∷ space ∷ open_paren ∷ term_words e ++ close_paren ∷ space ∷ words

-- ` catch (name) `
abbrev pub catch_start : List ℕ → List Word
catch_start name = space ∷ catch_word ∷ space ∷ open_paren ∷ w.LocalBind name ∷ close_paren ∷ space ∷ []

-- each with a line feed before it
abbrev pub after_feeds : List (List Word) → List Word
after_feeds lines = flat_map (λ line. line_feed ∷ line) lines

-- the lines, with a line feed between two of them
abbrev pub joined : List (List Word) → List Word
joined [] = []
joined (line ∷ lines) = line ++ after_feeds lines

-- the lines with a line feed after them, if there are any
abbrev pub inside_braces : List (List Word) → List Word
inside_braces [] = []
inside_braces (line ∷ lines) = joined (line ∷ lines) ++ line_feed ∷ []

-- the lines in braces, on lines of their own
abbrev pub in_braces : List (List Word) → List Word
in_braces lines = open_brace ∷ line_feed ∷ inside_braces lines ++ close_brace ∷ []

abbrev mutual
  -- the words of a statement
  pub line_words : Line → List Word
  line_words (Bind name e) = const_start name ++ term_words e ++ semicolon ∷ []
  line_words (Hold name) = let_word ∷ space ∷ w.LocalBind name ∷ semicolon ∷ []
  line_words (Put target e) = starting_words target ++ (space ∷ equals ∷ space ∷ term_words e ++ semicolon ∷ [])
  line_words (Run e) = starting_words e ++ semicolon ∷ []
  line_words (When e body) = after_if e (in_braces (each_line body))
  line_words (Short e line) = after_if e (line_words line)
  line_words (Always body last) =
      try_word ∷ space ∷ in_braces (each_line body) ++ space ∷ finally_word ∷ space ∷ in_braces (each_line last)
  line_words (Rescue body name last) =
      try_word ∷ space ∷ in_braces (each_line body) ++ (catch_start name ++ in_braces (each_line last))
  line_words (Fail e) = throw_word ∷ space ∷ term_words e ++ semicolon ∷ []
  line_words (Leave None) = return_word ∷ semicolon ∷ []
  line_words (Leave (Some e)) = return_word ∷ space ∷ term_words e ++ semicolon ∷ []
  line_words (Inner adapter es bound words) = words

  -- the words of each of the statements
  pub each_line : Lines → List (List Word)
  each_line NoLines = []
  each_line (AndLine line lines) = line_words line ∷ each_line lines

-- the statements, with a line feed between two of them
abbrev pub lines_words : Lines → List Word
lines_words body = joined (each_line body)

-- the statements in braces
abbrev pub block_words : Lines → List Word
block_words body = in_braces (each_line body)

-- the text of a function after its name: parameters and body
abbrev pub function_words : List (List ℕ) → Lines → List Word
function_words params body = parenthesised (parameter_words params) ++ space ∷ block_words body
