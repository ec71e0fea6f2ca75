-- The words of a tree that is fit are spaced.
use Rattle.std.proofs.Common.{◌≡◌, ℕ, List, [], ◌∷◌, ◌++◌, refl, ap, sym, ◌∙◌, subst, Bool, true, false, true≢false, arith}
use Rattle.std.proofs.lemmas.Bool.{and_parts}
use Rattle.std.proofs.lemmas.List.{append-nil}
use Rattle.std.proofs.lemmas.Bool.Decides.{nat_tests}
use Rattle.std.specs.Prelude.{Option, Some, None, ℤ, pos, negsuc, ◌&&◌, ◌||◌, ◌==◌, not, nat_le, codes}
use Rattle.std.specs.List.{list_all, list_any}
use Rattle.glue_words.specs.declared.word.Word.{Word}
use Rattle.glue_words.specs.declared.word.Word.TheVariants as w
use Rattle.glue_words.specs.declared.word.NoteKind.TheVariants.{Slash}
use Rattle.glue_words.specs.Functions.{parameter_words, further_parameters, parenthesised}
use Rattle.glue_words.specs.Ident.{is_ident}
use Rattle.glue_words.specs.Limits.{is_prop, first_passes}
use Rattle.glue_words.specs.Tables.{punct_text}
use Rattle.glue_words.specs.Spacing.{joins, is_wasm, is_minus_number, is_export_access, is_line_gap, first_word, each_next, begins_apart}
use Rattle.glue_words.proofs.Idents.{ascii_ident}
use Rattle.glue_words.proofs.Spaced.{first_word-append, each_next_both, all_both, next_apart}
use Rattle.glue_tree.specs.Term.{Term, Lit, Large, Chars, Const, Var, Name, Outside, Export, Field, Index, Apply, Make, One, Two, Choose, Fields, Terms, NoTerms, AndTerm, Keyed, NoKeys, AndKey, Line, Bind, Hold, Put, Run, When, Short, Always, Rescue, Fail, Leave, Inner, Lines, NoLines, AndLine}
use Rattle.glue_tree.specs.declared.tree.BinaryOperator.{BinaryOperator}
use Rattle.glue_tree.specs.declared.tree.BinaryOperator.TheVariants as b
use Rattle.glue_tree.specs.declared.tree.Constant.{Constant}
use Rattle.glue_tree.specs.declared.tree.Constant.TheVariants as c
use Rattle.glue_tree.specs.declared.tree.UnaryOperator.{UnaryOperator}
use Rattle.glue_tree.specs.declared.tree.UnaryOperator.TheVariants as u
use Rattle.glue_tree.specs.declared.operand.Position.{Position}
use Rattle.glue_tree.specs.declared.operand.Position.TheVariants as p
use Rattle.glue_tree.specs.Operands.{place_of_call, place_of_two, takes, begins_with_brace}
use Rattle.glue_tree.specs.FixedWords.{open_brace, close_brace, open_paren, close_paren, open_bracket, close_bracket, dot, comma, semicolon, colon, question, equals, catch_word, const_word, finally_word, if_word, let_word, big_mark, new_word, return_word, throw_word, try_word, constant_word, unary_word, binary_word}
use Rattle.glue_words.specs.Words.{space, line_feed}
use Rattle.glue_tree.specs.Spelling.{term_words, parts_of, fields_of, after_commas, in_parens, parens_if, operand_words, line_words, each_line, after_feeds, inside_braces, in_braces, block_words, after_if, function_words}
use Rattle.glue_tree.proofs.Fit.{is_good, spaced, is_number, is_decrement, fit, all_fit, fields_fit, is_line, line_fit, lines_fit}

and_true : (a b : Bool) → a ≡ true → b ≡ true → (a && b) ≡ true
and_true a b h k = ap (λ x. x && b) h ∙ k

-- ---- words by their places

-- punctuation that may follow an expression: `( ) [ ] , ; ++`
abbrev closers : List ℕ
closers = 2 ∷ 3 ∷ 4 ∷ 5 ∷ 7 ∷ 8 ∷ 29 ∷ []

-- punctuation that an expression may begin with: `{ ( -- ~ !`
abbrev starters : List ℕ
starters = 0 ∷ 2 ∷ 30 ∷ 35 ∷ 39 ∷ []

-- what may follow an expression, with a dot or without
abbrev closes : Bool → Option Word → Bool
closes dotted (Some (w.Gap text)) = true
closes dotted (Some (w.Punct place)) = list_any (λ p. place == p) closers || (dotted && (place == 6))
closes dotted next = false

-- what an expression may begin with
abbrev starts : Option Word → Bool
starts (Some (w.Punct place)) = list_any (λ p. place == p) starters
starts (Some (w.Key place)) = true
starts (Some (w.Num n)) = true
starts (Some (w.Text text)) = true
starts (Some (w.Refer name now)) = true
starts (Some (w.Host name now)) = true
starts (Some (w.Local name)) = true
starts next = false

-- a line feed
abbrev feeds : Option Word → Bool
feeds (Some word) = is_line_gap word
feeds None = false

same_place : (a b : ℕ) → (a == b) ≡ true → a ≡ b
same_place a b h = grind (arith, nat_tests)

or_cases : (a b : Bool) → (a || b) ≡ true → {P : Type 0} → (a ≡ true → P) → (b ≡ true → P) → P
or_cases true b h f g = f refl
or_cases false b h f g = g h

-- a test that each of the places passes is passed by one of them
by_place : (test : ℕ → Bool) (places : List ℕ) (n : ℕ) → list_all test places ≡ true → list_any (λ p. n == p) places ≡ true → test n ≡ true
by_place test [] n h at = absurd (true≢false (sym at))
by_place test (p ∷ places) n h at =
    let parts = and_parts (test p) (list_all test places) h in
    or_cases (n == p) (list_any (λ q. n == q) places) at
    (λ e. ap test (same_place n p e) ∙ parts.0)
    (λ e. by_place test places n parts.1 e)

-- a gap stands before anything but the access of an export
gap_spaced : (text : List ℕ) (word : Word) → not (is_export_access word) ≡ true → spaced (w.Gap text) (Some word) ≡ true
gap_spaced text (w.Wasm name) h = absurd (true≢false (sym h))
gap_spaced text word h = refl

gap_next : (text : List ℕ) (next : Option Word) → next_apart next ≡ true → spaced (w.Gap text) next ≡ true
gap_next text None h = refl
gap_next text (Some word) h = gap_spaced text word h

start_apart : (next : Option Word) → starts next ≡ true → next_apart next ≡ true
start_apart (Some (w.Punct place)) h = refl
start_apart (Some (w.Key place)) h = refl
start_apart (Some (w.Num value)) h = refl
start_apart (Some (w.Text text)) h = refl
start_apart (Some (w.Refer name now)) h = refl
start_apart (Some (w.Host name now)) h = refl
start_apart (Some (w.Local name)) h = refl
start_apart next h = absurd (true≢false (sym h))

no_minus : (p : ℕ) (n : ℤ) → (p == 24 || (p == 30)) ≡ false → is_minus_number p n ≡ false
no_minus p (pos n) h = refl
no_minus p (negsuc n) h = h

not_false : (b : Bool) → not b ≡ true → b ≡ false
not_false true h = sym h
not_false false h = refl

left_false : (b : Bool) → (b && true) ≡ false → b ≡ false
left_false true h = h
left_false false h = refl

or_second : (a b : Bool) → (not a || b) ≡ true → a ≡ true → b ≡ true
or_second true b h e = h
or_second false b h e = absurd (true≢false (sym e))

-- punctuation before an expression; `--` stands before no number
open_spaced : (p : ℕ) (next : Option Word) → list_all (λ q. spaced (w.Punct p) (Some (w.Punct q))) starters ≡ true → ((p == 24 || (p == 30)) && is_number next) ≡ false → starts next ≡ true → spaced (w.Punct p) next ≡ true
open_spaced p (Some (w.Punct q)) a m h = by_place (λ q. spaced (w.Punct p) (Some (w.Punct q))) starters q a h
open_spaced p (Some (w.Key place)) a m h = refl
open_spaced p (Some (w.Num value)) a m h = rw (no_minus p value (left_false _ m)) refl
open_spaced p (Some (w.Text text)) a m h = refl
open_spaced p (Some (w.Refer name now)) a m h = refl
open_spaced p (Some (w.Host name now)) a m h = refl
open_spaced p (Some (w.Local name)) a m h = refl
open_spaced p next a m h = absurd (true≢false (sym h))

-- a word at the end of an expression
close_spaced : (dotted : Bool) (word : Word) (next : Option Word) → ((text : List ℕ) → spaced word (Some (w.Gap text)) ≡ true) → list_all (λ q. spaced word (Some (w.Punct q))) closers ≡ true → (dotted ≡ true → spaced word (Some dot) ≡ true) → closes dotted next ≡ true → spaced word next ≡ true
close_spaced dotted word (Some (w.Punct q)) g a d h =
    or_cases (list_any (λ p. q == p) closers) (dotted && (q == 6)) h
    (λ e. by_place (λ p. spaced word (Some (w.Punct p))) closers q a e)
    (λ e.
    let parts = and_parts dotted (q == 6) e in
    ap (λ p. spaced word (Some (w.Punct p))) (same_place q 6 parts.1) ∙ d parts.0)
close_spaced dotted word (Some (w.Gap text)) g a d h = g text
close_spaced dotted word next g a d h = absurd (true≢false (sym h))

-- ---- words before what follows them

-- the words are good, and spaced before each word that passes a test
pub record Ends (may_follow : Option Word → Bool) (words : List Word) : Type 0 where
  pub good : list_all is_good words ≡ true
  pub each : (next : Option Word) → may_follow next ≡ true → each_next spaced words next ≡ true

-- the words of an expression
pub record IsExpression (dotted : Bool) (words : List Word) : Type 0 where
  pub front : (next : Option Word) → starts (first_word words next) ≡ true
  pub ends : Ends (closes dotted) words

-- the words of a statement
pub record IsLine (words : List Word) : Type 0 where
  pub apart : (next : Option Word) → next_apart next ≡ true → next_apart (first_word words next) ≡ true
  pub ends : Ends feeds words

module _ {may_follow : Option Word → Bool} where
  -- a last word
  final : (word : Word) → is_good word ≡ true → ((next : Option Word) → may_follow next ≡ true → spaced word next ≡ true) → Ends may_follow (word ∷ [])
  final word h k = record { good = and_true _ _ h refl; each = λ next f. and_true _ _ (k next f) refl }

  -- a word before another
  fixed : {words : List Word} (word other : Word) → is_good word ≡ true → spaced word (Some other) ≡ true → Ends may_follow (other ∷ words) → Ends may_follow (word ∷ other ∷ words)
  fixed word other h k rest = record { good = and_true _ _ h rest.good; each = λ next f. and_true _ _ k (rest.each next f) }

  -- words before a word that may follow them
  sub : {xs words : List Word} {before : Option Word → Bool} (other : Word) → Ends before xs → before (Some other) ≡ true → Ends may_follow (other ∷ words) → Ends may_follow (xs ++ other ∷ words)
  sub {xs} {words} other h k rest = record {
    good = all_both is_good xs (other ∷ words) h.good rest.good;
    each = λ next f. each_next_both spaced xs (other ∷ words) next (h.each (Some other) k) (rest.each next f);
  }

  -- a word before an expression and what follows that
  lead : {xs : List Word} {dotted : Bool} (words : List Word) (word : Word) → is_good word ≡ true → ((next : Option Word) → starts next ≡ true → spaced word next ≡ true) → IsExpression dotted xs → Ends may_follow (xs ++ words) → Ends may_follow (word ∷ (xs ++ words))
  lead {xs} words word g k h rest = record {
    good = and_true _ _ g rest.good;
    each = λ next f. and_true _ _ (k (first_word (xs ++ words) next) (ap starts (first_word-append xs words next) ∙ h.front (first_word words next))) (rest.each next f);
  }

  -- a word before an expression that is the last
  lead_last : {xs : List Word} {dotted : Bool} (word : Word) → is_good word ≡ true → ((next : Option Word) → starts next ≡ true → spaced word next ≡ true) → IsExpression dotted xs → ((next : Option Word) → may_follow next ≡ true → closes dotted next ≡ true) → Ends may_follow (word ∷ xs)
  lead_last {xs} word g k h f = record {
    good = and_true _ _ g h.ends.good;
    each = λ next m. and_true _ _ (k (first_word xs next) (h.front next)) (h.ends.each next (f next m));
  }

space_starts : (next : Option Word) → starts next ≡ true → spaced space next ≡ true
space_starts next h = gap_next (codes " ") next (start_apart next h)

-- words that begin as an expression does
after : {xs : List Word} {c d : Bool} (words : List Word) → IsExpression c xs → Ends (closes d) (xs ++ words) → IsExpression d (xs ++ words)
after {xs} words h e = record { front = λ next. ap starts (first_word-append xs words next) ∙ h.front (first_word words next); ends = e }

-- what follows an expression with no dot may follow it where a dot may
closes_more : (next : Option Word) → closes false next ≡ true → closes true next ≡ true
closes_more (Some (w.Punct place)) h = or_cases (list_any (λ p. place == p) closers) false h (λ e. ap (λ b. b || (place == 6)) e) (λ e. absurd (true≢false (sym e)))
closes_more next h = h

undotted : {dotted : Bool} {words : List Word} → IsExpression dotted words → IsExpression false words
undotted {dotted} {words} h = record {
  front = h.front;
  ends = record {
    good = h.ends.good;
    each = λ next f. h.ends.each next (elim dotted as (λ (d : Bool). closes d next ≡ true) [ true ↦ closes_more next f | false ↦ f ]);
  };
}

-- ---- single words

good_if : (b : Bool) → b ≡ true → (((b && true) && true) && true) ≡ true
good_if b h = ap (λ x. ((x && true) && true) && true) h

-- a word that is a whole expression
atom : {dotted : Bool} (word : Word) → starts (Some word) ≡ true → is_good word ≡ true → ((text : List ℕ) → spaced word (Some (w.Gap text)) ≡ true) → list_all (λ q. spaced word (Some (w.Punct q))) closers ≡ true → (dotted ≡ true → spaced word (Some dot) ≡ true) → IsExpression dotted (word ∷ [])
atom {dotted} word s g h k d = record {
  front = λ next. s;
  ends = final word g (λ next f. close_spaced dotted word next h k d f);
}

-- a word at the end of an expression
closing : (dotted : Bool) (word : Word) → is_good word ≡ true → ((text : List ℕ) → spaced word (Some (w.Gap text)) ≡ true) → list_all (λ q. spaced word (Some (w.Punct q))) closers ≡ true → (dotted ≡ true → spaced word (Some dot) ≡ true) → Ends (closes dotted) (word ∷ [])
closing dotted word g h k d = final word g (λ next f. close_spaced dotted word next h k d f)

paren_closes : (dotted : Bool) → Ends (closes dotted) (close_paren ∷ [])
unfolding joins punct_text
paren_closes dotted = closing dotted close_paren refl (λ t. refl) refl (λ e. refl)

bracket_closes : (dotted : Bool) → Ends (closes dotted) (close_bracket ∷ [])
unfolding joins punct_text
bracket_closes dotted = closing dotted close_bracket refl (λ t. refl) refl (λ e. refl)

brace_closes : (dotted : Bool) → Ends (closes dotted) (close_brace ∷ [])
unfolding joins punct_text
brace_closes dotted = closing dotted close_brace refl (λ t. refl) refl (λ e. refl)

increase_closes : Ends (closes false) (unary_word u.Increment ∷ [])
unfolding joins punct_text
increase_closes = closing false (unary_word u.Increment) refl (λ t. refl) refl (λ e. absurd (true≢false (sym e)))

paren_starts : (next : Option Word) → starts next ≡ true → spaced open_paren next ≡ true
unfolding joins punct_text
paren_starts next h = open_spaced 2 next refl refl h

bracket_starts : (next : Option Word) → starts next ≡ true → spaced open_bracket next ≡ true
unfolding joins punct_text
bracket_starts next h = open_spaced 4 next refl refl h

invert_starts : (next : Option Word) → starts next ≡ true → spaced (unary_word u.BitNot) next ≡ true
unfolding joins punct_text
invert_starts next h = open_spaced 35 next refl refl h

not_starts : (next : Option Word) → starts next ≡ true → spaced (unary_word u.Not) next ≡ true
unfolding joins punct_text
not_starts next h = open_spaced 39 next refl refl h

empty_parens : spaced open_paren (Some close_paren) ≡ true
unfolding joins punct_text
empty_parens = refl

-- ---- parentheses

parens : {c d : Bool} {words : List Word} → IsExpression c words → IsExpression d (parenthesised words)
parens {c} {d} h = record { front = λ next. refl; ends = lead (close_paren ∷ []) open_paren refl paren_starts h (sub close_paren h.ends refl (paren_closes d)) }

brackets : {d : Bool} {words : List Word} (b : Bool) → IsExpression d words → IsExpression false (parens_if b words)
brackets true h = parens h
brackets false h = undotted h

-- before a dot
object : {words : List Word} (bare : Bool) → IsExpression bare words → IsExpression true (parens_if (not bare) words)
object true h = h
object false h = parens h

operand : {d : Bool} {words : List Word} (position : Position) (e : Term) → IsExpression d words → IsExpression false (operand_words position e words)
operand position e h = brackets (not (takes position e)) h

-- ---- operators

decreased : {d : Bool} (b : Bool) (words : List Word) → IsExpression d words → is_number (first_word words None) ≡ false → IsExpression false (unary_word u.Decrement ∷ parens_if b words)
unfolding joins punct_text
decreased true words h n = record { front = λ next. refl; ends = fixed (unary_word u.Decrement) open_paren refl refl (brackets true h).ends }
decreased false [] h n = absurd (true≢false (sym (h.front None)))
decreased false (word ∷ words) h n = record {
  front = λ next. refl;
  ends = record {
    good = (undotted h).ends.good;
    each = λ next f. and_true _ _ (open_spaced 30 (Some word) refl n (h.front None)) ((undotted h).ends.each next f);
  };
}

operator_good : (op : BinaryOperator) → is_good (binary_word op) ≡ true
operator_good b.Add = refl
operator_good op = refl

operator_apart : (op : BinaryOperator) → spaced space (Some (binary_word op)) ≡ true
operator_apart b.Add = refl
operator_apart op = refl

operator_ends : (op : BinaryOperator) → spaced (binary_word op) (Some space) ≡ true
operator_ends b.Add = refl
operator_ends op = refl

constant_expression : (constant : Constant) → IsExpression true (constant_word constant ∷ [])
constant_expression c.Null = atom (constant_word c.Null) refl refl (λ t. refl) refl (λ e. refl)
constant_expression constant = atom (constant_word constant) refl refl (λ t. refl) refl (λ e. refl)

-- nothing behind the words
unfollowed : {d : Bool} {words : List Word} → IsExpression d words → IsExpression d (words ++ [])
unfollowed {d} {words} h = subst (IsExpression d) (sym (append-nil words)) h

-- an operator and its operand
one_expression : {d : Bool} (e : Term) (op : UnaryOperator) → (not (is_decrement op) || not (is_number (first_word (term_words e) None))) ≡ true → IsExpression d (term_words e) → IsExpression (takes p.Object (One op e)) (term_words (One op e))
one_expression e u.Increment m s =
    let counted = operand (p.Operand u.Increment) e s in after (unary_word u.Increment ∷ []) counted (sub (unary_word u.Increment) counted.ends refl increase_closes)
one_expression e u.Decrement m s = unfollowed (decreased (not (takes (p.Operand u.Decrement) e)) (term_words e) s (not_false _ m))
one_expression e u.BitNot m s = unfollowed (record { front = λ next. refl; ends = lead_last (unary_word u.BitNot) refl invert_starts (operand (p.Operand u.BitNot) e s) (λ next f. f) })
one_expression e u.Not m s = unfollowed (record { front = λ next. refl; ends = lead_last (unary_word u.Not) refl not_starts (operand (p.Operand u.Not) e s) (λ next f. f) })
one_expression e u.TypeOf m s = unfollowed (record { front = λ next. refl; ends = fixed (unary_word u.TypeOf) space refl refl (lead_last space refl space_starts (operand (p.Operand u.TypeOf) e s) (λ next f. f)) })

-- what an operator of two operands makes stands in parentheses before a dot
two_wrapped : (op : BinaryOperator) → nat_le (place_of_two op) place_of_call ≡ false
two_wrapped b.Add = refl
two_wrapped op = refl

-- ---- lists

-- the words after the first part of a list
record IsTail (words : List Word) : Type 0 where
  front : (next : Option Word) → closes false next ≡ true → closes false (first_word words next) ≡ true
  ends : Ends (closes false) words

no_tail : IsTail []
no_tail = record { front = λ next f. f; ends = record { good = refl; each = λ next f. refl } }

beside : {xs ys : List Word} → Ends (closes false) xs → IsTail ys → Ends (closes false) (xs ++ ys)
beside {xs} {ys} h t = record {
  good = all_both is_good xs ys h.good t.ends.good;
  each = λ next f. each_next_both spaced xs ys next (h.each (first_word ys next) (t.front next f)) (t.ends.each next f);
}

listing : {xs ys : List Word} {d : Bool} → IsExpression d xs → IsTail ys → IsExpression false (xs ++ ys)
listing {xs} {ys} h t = after ys h (beside (undotted h).ends t)

comma_tail : {words : List Word} → Ends (closes false) (space ∷ words) → IsTail (comma ∷ space ∷ words)
comma_tail h = record { front = λ next f. refl; ends = fixed comma space refl refl h }

good_key : (name : List ℕ) → is_prop name ≡ true → is_good (w.Prop name) ≡ true
good_key name h = good_if (is_prop name) h

-- `key: e`, and what follows
keyed : {words : List Word} (name : List ℕ) → is_prop name ≡ true → IsExpression false words → Ends (closes false) (w.Prop name ∷ colon ∷ space ∷ words)
keyed name h e = fixed (w.Prop name) colon (good_key name h) refl (fixed colon space refl refl (lead_last space refl space_starts e (λ next f. f)))

mutual
  pub expression : (e : Term) → fit e ≡ true → IsExpression (takes p.Object e) (term_words e)
  expression (Lit n) h = atom (w.Num n) refl refl (λ t. refl) refl (λ e. absurd (true≢false (sym e)))
  expression (Large n) h = record { front = λ next. refl; ends = fixed (w.Num n) big_mark refl refl (closing (takes p.Object (Large n)) big_mark refl (λ t. refl) refl (λ e. refl)) }
  expression (Chars text) h = atom (w.Text text) refl refl (λ t. refl) refl (λ e. refl)
  expression (Const constant) h = constant_expression constant
  expression (Var name) h = atom (w.Local name) refl (good_if _ h) (λ t. refl) refl (λ e. refl)
  expression (Name name) h =
      let parts = and_parts (is_ident name) (not (is_wasm name)) h in
      atom (w.Refer name false) refl (good_if _ parts.0) (λ t. refl) (rw parts.1 refl) (λ e. rw parts.1 refl)
  expression (Outside name) h = atom (w.Host name false) refl (good_if _ h) (λ t. refl) refl (λ e. refl)
  expression (Export name) h = record {
    front = λ next. refl;
    ends = fixed (w.Refer (codes "wasm") false) (w.Wasm name) (good_if _ (ascii_ident (codes "wasm") refl)) refl (closing true (w.Wasm name) refl (λ t. refl) refl (λ e. refl));
  }
  expression (Field e name) h =
      let parts = and_parts (fit e) (is_prop name) h in
      let inside = object (takes p.Object e) (expression e parts.0) in
      after (dot ∷ w.Prop name ∷ []) inside
      (sub dot inside.ends refl (fixed dot (w.Prop name) refl refl (closing (takes p.Object (Field e name)) (w.Prop name) (good_key name parts.1) (λ t. refl) refl (λ e. refl))))
  expression (Index e i) h =
      let parts = and_parts (fit e) (fit i) h in
      let inside = operand p.Callee e (expression e parts.0) in
      let index = expression i parts.1 in
      after (open_bracket ∷ (term_words i ++ close_bracket ∷ [])) inside
      (sub open_bracket inside.ends refl (lead (close_bracket ∷ []) open_bracket refl bracket_starts index (sub close_bracket index.ends refl (bracket_closes (takes p.Object (Index e i))))))
  expression (Apply f es) h =
      let parts = and_parts (fit f) (all_fit es) h in
      let called = operand p.Callee f (expression f parts.0) in
      after (in_parens (parts_of es)) called (sub open_paren called.ends refl (arguments es parts.1))
  expression (Make f es) h =
      let parts = and_parts (fit f) (all_fit es) h in
      let called = operand p.Class f (expression f parts.0) in record {
        front = λ next. refl;
        ends = fixed new_word space refl refl (lead (in_parens (parts_of es)) space refl space_starts called (sub open_paren called.ends refl (arguments es parts.1)));
      }
  expression (One op e) h =
      let parts = and_parts (fit e) (not (is_decrement op) || not (is_number (first_word (term_words e) None))) h in
      one_expression e op parts.1 (expression e parts.0)
  expression (Two op a b) h =
      let parts = and_parts (fit a) (fit b) h in
      let first = operand (p.Left op) a (expression a parts.0) in
      let second = operand (p.Right op) b (expression b parts.1) in
      subst (λ (bare : Bool). IsExpression bare (term_words (Two op a b))) (sym (two_wrapped op))
      (after (space ∷ binary_word op ∷ space ∷ operand_words (p.Right op) b (term_words b)) first
      (sub space first.ends refl
      (fixed space (binary_word op) refl (operator_apart op)
      (fixed (binary_word op) space (operator_good op) (operator_ends op)
      (lead_last space refl space_starts second (λ next f. f))))))
  expression (Choose c a b) h =
      let parts = and_parts (fit c) (fit a && fit b) h in
      let both = and_parts (fit a) (fit b) parts.1 in
      let test = operand p.Choice c (expression c parts.0) in
      let first = operand p.Choice a (expression a both.0) in
      let second = operand p.Choice b (expression b both.1) in
      let otherwise : Ends (closes false) (space ∷ colon ∷ space ∷ operand_words p.Choice b (term_words b)) =
      fixed space colon refl refl (fixed colon space refl refl (lead_last space refl space_starts second (λ next f. f))) in
      after (space ∷ question ∷ space ∷ (operand_words p.Choice a (term_words a) ++ space ∷ colon ∷ space ∷ operand_words p.Choice b (term_words b))) test
      (sub space test.ends refl
      (fixed space question refl refl
      (fixed question space refl refl
      (lead (space ∷ colon ∷ space ∷ operand_words p.Choice b (term_words b)) space refl space_starts first (sub space first.ends refl otherwise)))))
  expression (Fields NoKeys) h = record {
    front = λ next. refl;
    ends = fixed open_brace space refl refl (fixed space space refl refl (fixed space close_brace refl refl (brace_closes true)));
  }
  expression (Fields (AndKey name e es)) h =
      let parts = and_parts (is_prop name && fit e) (fields_fit es) h in
      let both = and_parts (is_prop name) (fit e) parts.0 in
      let inside = keyed name both.0 (listing (expression e both.1) (further_fields es parts.1)) in record {
        front = λ next. refl;
        ends = fixed open_brace space refl refl (fixed space (w.Prop name) refl refl (sub space inside refl (fixed space close_brace refl refl (brace_closes true))));
      }

  further : (es : Terms) → all_fit es ≡ true → IsTail (after_commas (parts_of es))
  further NoTerms h = no_tail
  further (AndTerm e es) h =
      let parts = and_parts (fit e) (all_fit es) h in
      comma_tail (lead_last space refl space_starts (listing (expression e parts.0) (further es parts.1)) (λ next f. f))

  arguments : (es : Terms) → all_fit es ≡ true → Ends (closes true) (in_parens (parts_of es))
  arguments NoTerms h = fixed open_paren close_paren refl empty_parens (paren_closes true)
  arguments (AndTerm e es) h =
      let parts = and_parts (fit e) (all_fit es) h in
      (parens {d = true} (listing (expression e parts.0) (further es parts.1))).ends

  further_fields : (es : Keyed) → fields_fit es ≡ true → IsTail (after_commas (fields_of es))
  further_fields NoKeys h = no_tail
  further_fields (AndKey name e es) h =
      let parts = and_parts (is_prop name && fit e) (fields_fit es) h in
      let both = and_parts (is_prop name) (fit e) parts.0 in
      comma_tail (fixed space (w.Prop name) refl refl (keyed name both.0 (listing (expression e both.1) (further_fields es parts.1))))

-- ---- statements

-- a gap
abbrev gaps : Option Word → Bool
gaps (Some (w.Gap text)) = true
gaps next = false

feed_gaps : (next : Option Word) → feeds next ≡ true → gaps next ≡ true
feed_gaps (Some (w.Gap text)) h = refl
feed_gaps next h = h

feed_apart : (next : Option Word) → feeds next ≡ true → next_apart next ≡ true
feed_apart (Some (w.Gap text)) h = refl
feed_apart next h = absurd (true≢false (sym h))

-- a word that stands before any gap
before_gap : (word : Word) → ((text : List ℕ) → spaced word (Some (w.Gap text)) ≡ true) → (next : Option Word) → gaps next ≡ true → spaced word next ≡ true
before_gap word g (Some (w.Gap text)) h = g text
before_gap word g next h = absurd (true≢false (sym h))

semicolon_ends : Ends gaps (semicolon ∷ [])
semicolon_ends = final semicolon refl (before_gap semicolon (λ text. refl))

-- before a line feed, what stands before any gap
feed : {words : List Word} → Ends gaps words → Ends feeds words
feed h = record { good = h.good; each = λ next f. h.each next (feed_gaps next f) }

-- a statement that begins with a keyword, or another word that is no access of an export
plain_line : {words : List Word} (word : Word) → not (is_export_access word) ≡ true → Ends feeds (word ∷ words) → IsLine (word ∷ words)
plain_line word a h = record { apart = λ next n. a; ends = h }

-- a statement that begins with an expression
led_line : {xs : List Word} {d : Bool} (words : List Word) → IsExpression d xs → Ends feeds (xs ++ words) → IsLine (xs ++ words)
led_line {xs} words e h = record {
  apart = λ next n. start_apart _ (ap starts (first_word-append xs words next) ∙ e.front (first_word words next));
  ends = h;
}

-- `e;` after a word
stated : {words : List Word} {d : Bool} → IsExpression d words → Ends feeds (space ∷ (words ++ semicolon ∷ []))
stated e = lead (semicolon ∷ []) space refl space_starts e (sub semicolon e.ends refl (feed semicolon_ends))

-- a gap before a statement
gap_line : {words : List Word} (text : List ℕ) → is_good (w.Gap text) ≡ true → IsLine words → Ends feeds (w.Gap text ∷ words)
gap_line {words} text g h = record {
  good = and_true _ _ g h.ends.good;
  each = λ next f. and_true _ _ (gap_next text (first_word words next) (h.apart next (feed_apart next f))) (h.ends.each next f);
}

-- the words after the first statement
record IsRest (words : List Word) : Type 0 where
  front : (next : Option Word) → feeds next ≡ true → feeds (first_word words next) ≡ true
  apart : (next : Option Word) → next_apart next ≡ true → next_apart (first_word words next) ≡ true
  ends : Ends feeds words

line_by_line : {xs ys : List Word} → IsLine xs → IsRest ys → IsLine (xs ++ ys)
line_by_line {xs} {ys} h t = record {
  apart = λ next n. ap next_apart (first_word-append xs ys next) ∙ h.apart (first_word ys next) (t.apart next n);
  ends = record {
    good = all_both is_good xs ys h.ends.good t.ends.good;
    each = λ next f. each_next_both spaced xs ys next (h.ends.each (first_word ys next) (t.front next f)) (t.ends.each next f);
  };
}

brace_gaps : (next : Option Word) → gaps next ≡ true → spaced close_brace next ≡ true
brace_gaps next h = before_gap close_brace (λ text. refl) next h

brace_feeds : (next : Option Word) → feeds next ≡ true → spaced close_brace next ≡ true
brace_feeds next h = brace_gaps next (feed_gaps next h)

braces : {may_follow : Option Word → Bool} (lines : List (List Word)) → ((next : Option Word) → may_follow next ≡ true → spaced close_brace next ≡ true) → Ends next_apart (line_feed ∷ inside_braces lines) → Ends may_follow (in_braces lines)
braces lines f h =
    fixed open_brace line_feed refl refl
    (sub close_brace h refl (final close_brace refl f))

after_test : {words : List Word} (e : Term) → fit e ≡ true → Ends feeds (space ∷ words) → IsLine (after_if e words)
after_test {words} e h rest =
    let test = expression e h in
    plain_line if_word refl
    (fixed if_word space refl refl
    (fixed space open_paren refl refl
    (lead (close_paren ∷ space ∷ words) open_paren refl paren_starts test
    (sub close_paren test.ends refl (fixed close_paren space refl refl rest)))))

-- a word before a line feed, and before any gap that begins with one
feed_spaced : (word : Word) (text : List ℕ) → first_passes (λ b. b == 10) text ≡ true → spaced word (Some line_feed) ≡ true → spaced word (Some (w.Gap text)) ≡ true
feed_spaced (w.Note Slash note) text f h = rw f refl
feed_spaced word text f h = h

feed_last : (words : List Word) (text : List ℕ) → first_passes (λ b. b == 10) text ≡ true → each_next spaced words (Some line_feed) ≡ true → each_next spaced words (Some (w.Gap text)) ≡ true
feed_last [] text f h = refl
feed_last (word ∷ []) text f h = and_true _ _ (feed_spaced word text f (and_parts (spaced word (Some line_feed)) true h).0) refl
feed_last (word ∷ other ∷ words) text f h =
    let parts = and_parts (spaced word (Some other)) (each_next spaced (other ∷ words) (Some line_feed)) h in
    and_true _ _ parts.0 (feed_last (other ∷ words) text f parts.1)

feed_next : (words : List Word) (next : Option Word) → feeds next ≡ true → each_next spaced words (Some line_feed) ≡ true → each_next spaced words next ≡ true
feed_next words (Some (w.Gap text)) f h = feed_last words text f h
feed_next words next f h = absurd (true≢false (sym f))

own_apart : (words : List Word) (next : Option Word) → begins_apart words ≡ true → next_apart next ≡ true → next_apart (first_word words next) ≡ true
own_apart [] next h n = n
own_apart (word ∷ words) next h n = h

-- words that are handed in
own_line : (words : List Word) → is_line words ≡ true → IsLine words
own_line words h =
    let parts = and_parts (list_all is_good words) (each_next spaced words (Some line_feed) && begins_apart words) h in
    let others = and_parts (each_next spaced words (Some line_feed)) (begins_apart words) parts.1 in
    record {
      apart = λ next n. own_apart words next others.1 n;
      ends = record { good = parts.0; each = λ next f. feed_next words next f others.0 };
    }

begins_from : (words : List Word) → next_apart (first_word words None) ≡ true → begins_apart words ≡ true
begins_from [] h = refl
begins_from (word ∷ words) h = h

-- the words of a tree's statement may be handed in
pub line_is : (words : List Word) → IsLine words → is_line words ≡ true
line_is words h = and_true _ _ h.ends.good (and_true _ _ (h.ends.each (Some line_feed) refl) (begins_from words (h.apart None refl)))

mutual
  pub line : (l : Line) → line_fit l ≡ true → IsLine (line_words l)
  line (Bind name e) h =
      let parts = and_parts (is_ident name) (fit e) h in
      plain_line const_word refl
      (fixed const_word space refl refl
      (fixed space (w.LocalBind name) refl refl
      (fixed (w.LocalBind name) space (good_if _ parts.0) refl
      (fixed space equals refl refl
      (fixed equals space refl refl (stated (expression e parts.1)))))))
  line (Hold name) h =
      plain_line let_word refl
      (fixed let_word space refl refl
      (fixed space (w.LocalBind name) refl refl
      (fixed (w.LocalBind name) semicolon (good_if _ h) refl (feed semicolon_ends))))
  line (Put target e) h =
      let parts = and_parts (fit target) (fit e) h in
      let first = brackets (begins_with_brace target) (expression target parts.0) in
      led_line (space ∷ equals ∷ space ∷ (term_words e ++ semicolon ∷ [])) first
      (sub space first.ends refl (fixed space equals refl refl (fixed equals space refl refl (stated (expression e parts.1)))))
  line (Run e) h =
      let first = brackets (begins_with_brace e) (expression e h) in led_line (semicolon ∷ []) first (sub semicolon first.ends refl (feed semicolon_ends))
  line (When e body) h =
      let parts = and_parts (fit e) (lines_fit body) h in
      after_test e parts.0 (fixed space open_brace refl refl (braces (each_line body) brace_feeds (inside body parts.1)))
  line (Short e l) h =
      let parts = and_parts (fit e) (line_fit l) h in after_test e parts.0 (gap_line (codes " ") refl (line l parts.1))
  line (Always body last) h =
      let parts = and_parts (lines_fit body) (lines_fit last) h in
      let first : Ends gaps (block_words body) = braces (each_line body) brace_gaps (inside body parts.0) in
      plain_line try_word refl
      (fixed try_word space refl refl
      (fixed space open_brace refl refl
      (sub space first refl
      (fixed space finally_word refl refl
      (fixed finally_word space refl refl
      (fixed space open_brace refl refl (braces (each_line last) brace_feeds (inside last parts.1))))))))
  line (Rescue body name last) h =
      let parts = and_parts (is_ident name) (lines_fit body && lines_fit last) h in
      let both = and_parts (lines_fit body) (lines_fit last) parts.1 in
      let first : Ends gaps (block_words body) = braces (each_line body) brace_gaps (inside body both.0) in
      plain_line try_word refl
      (fixed try_word space refl refl
      (fixed space open_brace refl refl
      (sub space first refl
      (fixed space catch_word refl refl
      (fixed catch_word space refl refl
      (fixed space open_paren refl refl
      (fixed open_paren (w.LocalBind name) refl refl
      (fixed (w.LocalBind name) close_paren (good_if _ parts.0) refl
      (fixed close_paren space refl refl
      (fixed space open_brace refl refl (braces (each_line last) brace_feeds (inside last both.1))))))))))))
  line (Fail e) h = plain_line throw_word refl (fixed throw_word space refl refl (stated (expression e h)))
  line (Leave None) h = plain_line return_word refl (fixed return_word semicolon refl refl (feed semicolon_ends))
  line (Leave (Some e)) h = plain_line return_word refl (fixed return_word space refl refl (stated (expression e h)))
  line (Inner adapter es bound words) h = own_line words h

  further_lines : (body : Lines) → lines_fit body ≡ true → IsRest (after_feeds (each_line body))
  further_lines NoLines h = record { front = λ next f. f; apart = λ next n. n; ends = record { good = refl; each = λ next f. refl } }
  further_lines (AndLine l lines) h =
      let parts = and_parts (line_fit l) (lines_fit lines) h in
      record { front = λ next f. refl; apart = λ next n. refl; ends = gap_line (10 ∷ []) refl (line_by_line (line l parts.0) (further_lines lines parts.1)) }

  inside : (body : Lines) → lines_fit body ≡ true → Ends next_apart (line_feed ∷ inside_braces (each_line body))
  inside NoLines h = final line_feed refl (gap_next (10 ∷ []))
  inside (AndLine l lines) h =
      let parts = and_parts (line_fit l) (lines_fit lines) h in
      let all = gap_line (10 ∷ []) refl (line_by_line (line l parts.0) (further_lines lines parts.1)) in
      sub line_feed all refl (final line_feed refl (gap_next (10 ∷ [])))

-- ---- functions

parameters_tail : (names : List (List ℕ)) → list_all is_ident names ≡ true → IsTail (further_parameters names)
parameters_tail [] h = no_tail
parameters_tail (name ∷ names) h =
    let parts = and_parts (is_ident name) (list_all is_ident names) h in
    comma_tail (fixed space (w.LocalBind name) refl refl
    (beside (closing false (w.LocalBind name) (good_if _ parts.0) (λ t. refl) refl (λ e. absurd (true≢false (sym e)))) (parameters_tail names parts.1)))

parameters : (names : List (List ℕ)) → list_all is_ident names ≡ true → Ends gaps (parenthesised (parameter_words names))
parameters [] h = fixed open_paren close_paren refl empty_parens (final close_paren refl (before_gap close_paren (λ text. refl)))
parameters (name ∷ names) h =
    let parts = and_parts (is_ident name) (list_all is_ident names) h in
    let all = beside (closing false (w.LocalBind name) (good_if _ parts.0) (λ t. refl) refl (λ e. absurd (true≢false (sym e)))) (parameters_tail names parts.1) in
    fixed open_paren (w.LocalBind name) refl refl (sub close_paren all refl (final close_paren refl (before_gap close_paren (λ text. refl))))

-- the text of a function after its name stands before any gap, and before what ends a member
pub function : {may_follow : Option Word → Bool} (params : List (List ℕ)) (body : Lines) → ((next : Option Word) → may_follow next ≡ true → spaced close_brace next ≡ true) → list_all is_ident params ≡ true → lines_fit body ≡ true → Ends may_follow (function_words params body)
function params body f p h =
    sub space (parameters params p) refl (fixed space open_brace refl refl (braces (each_line body) f (inside body h)))
