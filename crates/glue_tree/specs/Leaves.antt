-- The leaves of a tree: the words that hold its names, in order.
use Rattle.std.specs.Prelude.{ℕ, List, [], ◌∷◌, ◌++◌, false, map, Some, None, codes}
use Rattle.glue_words.specs.declared.word.Word.{Word}
use Rattle.glue_words.specs.declared.word.Word.TheVariants as w
use Rattle.glue_tree.specs.Term.{Term, Lit, Large, Chars, Const, Var, Name, Outside, Export, Field, Index, Apply, Make, One, Two, Choose, Fields, Terms, NoTerms, AndTerm, Keyed, NoKeys, AndKey, Line, Bind, Hold, Put, Run, When, Short, Always, Rescue, Fail, Leave, Inner, Lines, NoLines, AndLine}

abbrev mutual
  -- of an expression
  pub leaves : Term → List Word
  leaves (Lit n) = []
  leaves (Large n) = []
  leaves (Chars text) = []
  leaves (Const constant) = []
  leaves (Var name) = w.Local name ∷ []
  leaves (Name name) = w.Refer name false ∷ []
  leaves (Outside name) = w.Host name false ∷ []
  leaves (Export name) = w.Refer (codes "wasm") false ∷ w.Wasm name ∷ []
  leaves (Field e name) = leaves e ++ w.Prop name ∷ []
  leaves (Index e i) = leaves e ++ leaves i
  leaves (Apply f es) = leaves f ++ leaves_of es
  leaves (Make f es) = leaves f ++ leaves_of es
  leaves (One op e) = leaves e
  leaves (Two op a b) = leaves a ++ leaves b
  leaves (Choose c a b) = leaves c ++ (leaves a ++ leaves b)
  leaves (Fields es) = keyed_leaves es

  -- of expressions
  pub leaves_of : Terms → List Word
  leaves_of NoTerms = []
  leaves_of (AndTerm e es) = leaves e ++ leaves_of es

  -- of expressions with their keys
  pub keyed_leaves : Keyed → List Word
  keyed_leaves NoKeys = []
  keyed_leaves (AndKey name e es) = w.Prop name ∷ leaves e ++ keyed_leaves es

abbrev mutual
  -- of a statement; those of an import's call are its own words
  pub line_leaves : Line → List Word
  line_leaves (Bind name e) = w.LocalBind name ∷ leaves e
  line_leaves (Hold name) = w.LocalBind name ∷ []
  line_leaves (Put target e) = leaves target ++ leaves e
  line_leaves (Run e) = leaves e
  line_leaves (When e body) = leaves e ++ lines_leaves body
  line_leaves (Short e line) = leaves e ++ line_leaves line
  line_leaves (Always body last) = lines_leaves body ++ lines_leaves last
  line_leaves (Rescue body name last) = lines_leaves body ++ w.LocalBind name ∷ lines_leaves last
  line_leaves (Fail e) = leaves e
  line_leaves (Leave None) = []
  line_leaves (Leave (Some e)) = leaves e
  line_leaves (Inner adapter es bound words) = words

  -- of statements
  pub lines_leaves : Lines → List Word
  lines_leaves NoLines = []
  lines_leaves (AndLine line lines) = line_leaves line ++ lines_leaves lines

-- of a function: its parameters and its statements
abbrev pub function_leaves : List (List ℕ) → Lines → List Word
function_leaves params body = map w.LocalBind params ++ lines_leaves body
