-- Trees beside the texts that they are spelled as: where parentheses stand, and where none do.
use Rattle.std.proofs.Common.{◌≡◌, ℕ, List, true, false, refl}
use Rattle.std.specs.Prelude.{codes, pos, negsuc}
use Rattle.std.specs.List.{flat_map}
use Rattle.glue_words.specs.Tables.{punct_text, key_text}
use Rattle.glue_words.specs.Words.{text_of}
use Rattle.glue_tree.specs.declared.tree.BinaryOperator.TheVariants as b
use Rattle.glue_tree.specs.declared.operand.Position.TheVariants as p
use Rattle.glue_tree.specs.Operands.{takes}
use Rattle.glue_tree.specs.Spelling.{term_words, line_words}
use Rattle.glue_tree.specs.Term.{Term, Lit, Var, Field, Apply, Make, Two, Choose, Fields, NoTerms, NoKeys, AndKey, Run}

-- names, and calls of them
abbrev a : Term
a = Var (codes "a")

abbrev x : Term
x = Var (codes "x")

abbrev call : Term
call = Apply a NoTerms

abbrev text : Term → List ℕ
text e = flat_map text_of (term_words e)

-- ---- `new` takes no call, and nothing that is taken of one

made_of_call : text (Make call NoTerms) ≡ codes "new (a())()"
unfolding punct_text key_text
made_of_call = refl

made_of_what_a_call_has : text (Make (Field call (codes "b")) NoTerms) ≡ codes "new (a().b)()"
unfolding punct_text key_text
made_of_what_a_call_has = refl

made_of_made : text (Make (Make a NoTerms) NoTerms) ≡ codes "new new a()()"
unfolding punct_text key_text
made_of_made = refl

call_of_made : text (Apply (Make a NoTerms) NoTerms) ≡ codes "new a()()"
unfolding punct_text key_text
call_of_made = refl

-- ---- `??` doesn't mix with `&&` and `||`

and_before : text (Two b.Coalesce (Two b.And a a) x) ≡ codes "(a && a) ?? x"
unfolding punct_text key_text
and_before = refl

or_behind : text (Two b.Coalesce x (Two b.Or a a)) ≡ codes "x ?? (a || a)"
unfolding punct_text key_text
or_behind = refl

inside_or : text (Two b.Or (Two b.Coalesce a a) x) ≡ codes "(a ?? a) || x"
unfolding punct_text key_text
inside_or = refl

twice : text (Two b.Coalesce (Two b.Coalesce a a) x) ≡ codes "a ?? a ?? x"
unfolding punct_text key_text
twice = refl

-- ---- a choice is no test of another, a negative number no object, and no statement begins with `{`

choice_as_test : text (Choose (Choose a a a) x x) ≡ codes "(a ? a : a) ? x : x"
unfolding punct_text key_text
choice_as_test = refl

negative_object : takes p.Callee (Lit (negsuc 4)) ≡ false
negative_object = refl

number_object : takes p.Callee (Lit (pos 5)) ≡ true
number_object = refl

negative_factor : takes (p.Left b.Multiply) (Lit (negsuc 4)) ≡ true
negative_factor = refl

record_first : flat_map text_of (line_words (Run (Field (Fields (AndKey (codes "k") a NoKeys)) (codes "k")))) ≡ codes "({ k: a }.k);"
unfolding punct_text key_text
record_first = refl
