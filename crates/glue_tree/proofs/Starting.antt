-- No statement that begins with an expression begins with `{`, which would open a block.
use Rattle.std.proofs.Common.{◌≡◌, List, [], ◌∷◌, ◌++◌, refl, ap, sym, ◌∙◌, Bool, true, false}
use Rattle.std.specs.Prelude.{Option, Some, not, ◌&&◌, ◌==◌}
use Rattle.glue_words.specs.declared.word.Word.{Word}
use Rattle.glue_words.specs.declared.word.Word.TheVariants as w
use Rattle.glue_words.specs.declared.punct.TheConstants as punct
use Rattle.glue_words.specs.Spacing.{first_word}
use Rattle.glue_words.specs.Words.{space}
use Rattle.glue_words.proofs.Spaced.{first_word-append}
use Rattle.glue_tree.specs.FixedWords.{open_bracket, close_bracket, dot, question, colon, constant_word, unary_word, binary_word}
use Rattle.glue_tree.specs.declared.operand.Position.{Position}
use Rattle.glue_tree.specs.declared.operand.Position.TheVariants as p
use Rattle.glue_tree.specs.declared.tree.Constant.{Constant}
use Rattle.glue_tree.specs.declared.tree.Constant.TheVariants as c
use Rattle.glue_tree.specs.declared.tree.UnaryOperator.TheVariants as u
use Rattle.glue_tree.specs.Operands.{takes, begins_with_brace}
use Rattle.glue_tree.specs.Spelling.{term_words, parens_if, operand_words, in_parens, parts_of, starting_words}
use Rattle.glue_tree.specs.Term.{Term, Lit, Large, Chars, Const, Var, Name, Outside, Export, Field, Index, Apply, Make, One, Two, Choose, Fields}

-- a word that is `{`
abbrev pub is_brace : Option Word → Bool
is_brace (Some (w.Punct place)) = place == punct.OPEN_BRACE
is_brace next = false

and_false : (a : Bool) → (a && false) ≡ false
and_false true = refl
and_false false = refl

-- words in parentheses, and words that stand without them where they may
wrapped : (brace bare : Bool) (words : List Word) (next : Option Word) → is_brace (first_word words next) ≡ brace
    → is_brace (first_word (parens_if (not bare) words) next) ≡ (brace && bare)
wrapped true true words next h = h
wrapped false true words next h = h
wrapped brace false words next h = sym (and_false brace)

-- an operand before other words
leading : (position : Position) (e : Term) (words : List Word) (next : Option Word)
    → ((after : Option Word) → is_brace (first_word (term_words e) after) ≡ begins_with_brace e)
    → is_brace (first_word (operand_words position e (term_words e) ++ words) next)
    ≡ (begins_with_brace e && takes position e)
leading position e words next h =
    ap is_brace (first_word-append (operand_words position e (term_words e)) words next)
    ∙ wrapped (begins_with_brace e) (takes position e) (term_words e) (first_word words next) (h (first_word words next))

constant_begins : (constant : Constant) → is_brace (Some (constant_word constant)) ≡ false
constant_begins c.Null = refl
constant_begins constant = refl

-- the words of an expression begin with `{` exactly where the definition says so
pub begins : (e : Term) (next : Option Word) → is_brace (first_word (term_words e) next) ≡ begins_with_brace e
begins (Lit n) next = refl
begins (Large n) next = refl
begins (Chars text) next = refl
begins (Const constant) next = constant_begins constant
begins (Var name) next = refl
begins (Name name) next = refl
begins (Outside name) next = refl
begins (Export name) next = refl
begins (Field e name) next = leading p.Object e (dot ∷ w.Prop name ∷ []) next (begins e)
begins (Index e i) next = leading p.Callee e (open_bracket ∷ term_words i ++ close_bracket ∷ []) next (begins e)
begins (Apply f es) next = leading p.Callee f (in_parens (parts_of es)) next (begins f)
begins (Make f es) next = refl
begins (One u.Increment e) next = leading (p.Operand u.Increment) e (unary_word u.Increment ∷ []) next (begins e)
begins (One u.Decrement e) next = refl
begins (One u.BitNot e) next = refl
begins (One u.Not e) next = refl
begins (One u.TypeOf e) next = refl
begins (Two op a b) next =
    leading (p.Left op) a (space ∷ binary_word op ∷ space ∷ operand_words (p.Right op) b (term_words b)) next (begins a)
begins (Choose c a b) next =
    leading p.Choice c (space ∷ question ∷ space ∷ operand_words p.Choice a (term_words a)
    ++ space ∷ colon ∷ space ∷ operand_words p.Choice b (term_words b)) next (begins c)
begins (Fields es) next = refl

unbraced : (brace : Bool) (words : List Word) (next : Option Word) → is_brace (first_word words next) ≡ brace
    → is_brace (first_word (parens_if brace words) next) ≡ false
unbraced true words next h = refl
unbraced false words next h = h

-- at the start of a statement they don't
pub no_brace : (e : Term) (next : Option Word) → is_brace (first_word (starting_words e) next) ≡ false
no_brace e next = unbraced (begins_with_brace e) (term_words e) next (begins e next)
