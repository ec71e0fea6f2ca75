-- The names in the words of a tree are those of its leaves, of whichever kind they are.
use Rattle.std.proofs.Common.{◌≡◌, ℕ, List, [], ◌∷◌, ◌++◌, refl, ap, sym, ◌∙◌, Bool, true, false, true≢false, map}
use Rattle.std.proofs.lemmas.List.{append-nil}
use Rattle.std.proofs.lemmas.List.Elements.{filter_map-append}
use Rattle.std.specs.Prelude.{Option, Some, None, ℤ, not, codes}
use Rattle.std.specs.List.{filter_map}
use Rattle.glue_words.specs.declared.word.Word.{Word}
use Rattle.glue_words.specs.declared.word.Word.TheVariants as w
use Rattle.glue_words.specs.Functions.{parameter_words, further_parameters, parenthesised}
use Rattle.glue_tree.specs.Term.{Term, Lit, Large, Chars, Const, Var, Name, Outside, Export, Field, Index, Apply, Make, One, Two, Choose, Fields, Terms, NoTerms, AndTerm, Keyed, NoKeys, AndKey, Line, Bind, Hold, Put, Run, When, Short, Always, Rescue, Fail, Leave, Inner, Lines, NoLines, AndLine}
use Rattle.glue_tree.specs.declared.tree.BinaryOperator.{BinaryOperator}
use Rattle.glue_tree.specs.declared.tree.BinaryOperator.TheVariants as b
use Rattle.glue_tree.specs.declared.tree.Constant.{Constant}
use Rattle.glue_tree.specs.declared.tree.Constant.TheVariants as c
use Rattle.glue_tree.specs.declared.tree.UnaryOperator.{UnaryOperator}
use Rattle.glue_tree.specs.declared.tree.UnaryOperator.TheVariants as u
use Rattle.glue_tree.specs.FixedWords.{open_brace, close_brace, open_paren, close_paren, open_bracket, close_bracket, dot, comma, semicolon, colon, question, equals, catch_word, const_word, finally_word, if_word, let_word, big_mark, new_word, return_word, throw_word, try_word, constant_word, unary_word, binary_word}
use Rattle.glue_words.specs.Words.{space, line_feed}
use Rattle.glue_tree.specs.Spelling.{term_words, parts_of, fields_of, after_commas, listed, parens_if, before_operand, behind_operand, operand_words, line_words, each_line, after_feeds, inside_braces, in_braces, lines_words, after_if, function_words}
use Rattle.glue_tree.specs.declared.operand.Position.{Position}
use Rattle.glue_tree.specs.declared.operand.Position.TheVariants as p
use Rattle.glue_tree.specs.Operands.{takes, begins_with_brace}
use Rattle.glue_tree.specs.Leaves.{leaves, leaves_of, keyed_leaves, line_leaves, lines_leaves, function_leaves}

-- a word of punctuation or a keyword
abbrev is_fixed : Word → Bool
is_fixed (w.Punct place) = true
is_fixed (w.Key place) = true
is_fixed word = false

constant_fixed : (constant : Constant) → is_fixed (constant_word constant) ≡ true
constant_fixed c.Null = refl
constant_fixed constant = refl

binary_fixed : (op : BinaryOperator) → is_fixed (binary_word op) ≡ true
binary_fixed b.Add = refl
binary_fixed op = refl

-- a kind of names: those of some words, and none of punctuation, keywords, gaps, numbers and texts
pub record IsKind (kind : Word → Option (List ℕ)) : Type 0 where
  pub punct : (place : ℕ) → kind (w.Punct place) ≡ None
  pub key : (place : ℕ) → kind (w.Key place) ≡ None
  pub gap : (text : List ℕ) → kind (w.Gap text) ≡ None
  pub num : (n : ℤ) → kind (w.Num n) ≡ None
  pub text : (text : List ℕ) → kind (w.Text text) ≡ None

module _ (kind : Word → Option (List ℕ)) (is : IsKind kind) where
  -- the names of the words are those of the leaves
  pub record Has (words found : List Word) : Type 0 where
    pub same : filter_map kind words ≡ filter_map kind found

  none : Has [] []
  none = record { same = refl }

  -- a word without a name, and a leaf
  bare : {words found : List Word} (word : Word) → kind word ≡ None → Has words found → Has (word ∷ words) found
  bare word h rest = record { same = rw h rest.same }

  leaf : {words found : List Word} (word : Word) → Has words found → Has (word ∷ words) (word ∷ found)
  leaf {words} {found} word rest = record { same = filter_map-append kind (word ∷ []) words ∙ ap (λ (xs : List (List ℕ)). filter_map kind (word ∷ []) ++ xs) rest.same ∙ sym (filter_map-append kind (word ∷ []) found) }

  -- a word of punctuation or a keyword, a space, and a line feed
  fixed_none : (word : Word) → is_fixed word ≡ true → kind word ≡ None
  fixed_none (w.Punct place) h = is.punct place
  fixed_none (w.Key place) h = is.key place
  fixed_none word h = absurd (true≢false (sym h))

  fix : {words found : List Word} (word : Word) → is_fixed word ≡ true → Has words found → Has (word ∷ words) found
  fix word h rest = bare word (fixed_none word h) rest

  s : {words found : List Word} → Has words found → Has (space ∷ words) found
  s rest = bare space (is.gap (codes " ")) rest

  f : {words found : List Word} → Has words found → Has (line_feed ∷ words) found
  f rest = bare line_feed (is.gap (10 ∷ [])) rest

  -- words after words, and at the end
  beside : {xs ys found others : List Word} → Has xs found → Has ys others → Has (xs ++ ys) (found ++ others)
  beside {xs} {ys} {found} {others} h rest = record { same = filter_map-append kind xs ys ∙ ap (λ (ns : List (List ℕ)). ns ++ filter_map kind ys) h.same ∙ ap (λ (ns : List (List ℕ)). filter_map kind found ++ ns) rest.same ∙ sym (filter_map-append kind found others) }

  ending : {xs ys found : List Word} → Has xs found → Has ys [] → Has (xs ++ ys) found
  ending {xs} {ys} {found} h rest = record { same = (beside h rest).same ∙ ap (filter_map kind) (append-nil found) }

  parens : {words found : List Word} → Has words found → Has (parenthesised words) found
  parens h = fix open_paren refl (ending h (fix close_paren refl none))

  brackets : {words found : List Word} (b : Bool) → Has words found → Has (parens_if b words) found
  brackets true h = parens h
  brackets false h = h

  operand : {words found : List Word} (position : Position) (e : Term) → Has words found → Has (operand_words position e words) found
  operand position e h = brackets (not (takes position e)) h

  -- what stands before an operand and behind it
  around : {words found : List Word} (op : UnaryOperator) → Has words found → Has (before_operand op ++ (words ++ behind_operand op)) found
  around u.Increment h = ending h (fix (unary_word u.Increment) refl none)
  around u.Decrement h = fix (unary_word u.Decrement) refl (ending h none)
  around u.BitNot h = fix (unary_word u.BitNot) refl (ending h none)
  around u.Not h = fix (unary_word u.Not) refl (ending h none)
  around u.TypeOf h = fix (unary_word u.TypeOf) refl (s (ending h none))

  mutual
    pub term_names : (e : Term) → Has (term_words e) (leaves e)
    term_names (Lit n) = bare (w.Num n) (is.num n) none
    term_names (Large n) = bare (w.Num n) (is.num n) (fix big_mark refl none)
    term_names (Chars text) = bare (w.Text text) (is.text text) none
    term_names (Const constant) = fix (constant_word constant) (constant_fixed constant) none
    term_names (Var name) = leaf (w.Local name) none
    term_names (Name name) = leaf (w.Refer name false) none
    term_names (Outside name) = leaf (w.Host name false) none
    term_names (Export name) = leaf (w.Refer (codes "wasm") false) (leaf (w.Wasm name) none)
    term_names (Field e name) = beside (operand p.Object e (term_names e)) (fix dot refl (leaf (w.Prop name) none))
    term_names (Index e i) = beside (operand p.Callee e (term_names e)) (fix open_bracket refl (ending (term_names i) (fix close_bracket refl none)))
    term_names (Apply f es) = beside (operand p.Callee f (term_names f)) (parens (listed_names es))
    term_names (Make f es) = fix new_word refl (s (beside (operand p.Class f (term_names f)) (parens (listed_names es))))
    term_names (One op e) = around op (operand (p.Operand op) e (term_names e))
    term_names (Two op a b) = beside (operand (p.Left op) a (term_names a)) (s (fix (binary_word op) (binary_fixed op) (s (operand (p.Right op) b (term_names b)))))
    term_names (Choose c a b) =
        beside (operand p.Choice c (term_names c)) (s (fix question refl (s (beside (operand p.Choice a (term_names a)) (s (fix colon refl (s (operand p.Choice b (term_names b)))))))))
    term_names (Fields es) = fix open_brace refl (s (ending (fields_names es) (s (fix close_brace refl none))))

    pub further_names : (es : Terms) → Has (after_commas (parts_of es)) (leaves_of es)
    further_names NoTerms = none
    further_names (AndTerm e es) = fix comma refl (s (beside (term_names e) (further_names es)))

    pub listed_names : (es : Terms) → Has (listed (parts_of es)) (leaves_of es)
    listed_names NoTerms = none
    listed_names (AndTerm e es) = beside (term_names e) (further_names es)

    further_fields_names : (es : Keyed) → Has (after_commas (fields_of es)) (keyed_leaves es)
    further_fields_names NoKeys = none
    further_fields_names (AndKey name e es) = fix comma refl (s (leaf (w.Prop name) (fix colon refl (s (beside (term_names e) (further_fields_names es))))))

    fields_names : (es : Keyed) → Has (listed (fields_of es)) (keyed_leaves es)
    fields_names NoKeys = none
    fields_names (AndKey name e es) = leaf (w.Prop name) (fix colon refl (s (beside (term_names e) (further_fields_names es))))

  braces : (lines : List (List Word)) {found : List Word} → Has (inside_braces lines) found → Has (in_braces lines) found
  braces lines h = fix open_brace refl (f (ending h (fix close_brace refl none)))

  if_names : {words found : List Word} (e : Term) → Has words found → Has (after_if e words) (leaves e ++ found)
  if_names e h = fix if_word refl (s (fix open_paren refl (beside (term_names e) (fix close_paren refl (s h)))))

  mutual
    pub line_names : (line : Line) → Has (line_words line) (line_leaves line)
    line_names (Bind name e) = fix const_word refl (s (leaf (w.LocalBind name) (s (fix equals refl (s (ending (term_names e) (fix semicolon refl none)))))))
    line_names (Hold name) = fix let_word refl (s (leaf (w.LocalBind name) (fix semicolon refl none)))
    line_names (Put target e) = beside (brackets (begins_with_brace target) (term_names target)) (s (fix equals refl (s (ending (term_names e) (fix semicolon refl none)))))
    line_names (Run e) = ending (brackets (begins_with_brace e) (term_names e)) (fix semicolon refl none)
    line_names (When e body) = if_names e (braces (each_line body) (inside_names body))
    line_names (Short e line) = if_names e (line_names line)
    line_names (Always body rest) = fix try_word refl (s (beside (braces (each_line body) (inside_names body)) (s (fix finally_word refl (s (braces (each_line rest) (inside_names rest)))))))
    line_names (Rescue body name rest) =
        fix try_word refl (s (beside (braces (each_line body) (inside_names body)) (s (fix catch_word refl (s (fix open_paren refl (leaf (w.LocalBind name) (fix close_paren refl (s (braces (each_line rest) (inside_names rest)))))))))))
    line_names (Fail e) = fix throw_word refl (s (ending (term_names e) (fix semicolon refl none)))
    line_names (Leave None) = fix return_word refl (fix semicolon refl none)
    line_names (Leave (Some e)) = fix return_word refl (s (ending (term_names e) (fix semicolon refl none)))
    line_names (Inner adapter es bound words) = record { same = refl }

    further_lines_names : (body : Lines) → Has (after_feeds (each_line body)) (lines_leaves body)
    further_lines_names NoLines = none
    further_lines_names (AndLine line lines) = f (beside (line_names line) (further_lines_names lines))

    pub lines_names : (body : Lines) → Has (lines_words body) (lines_leaves body)
    lines_names NoLines = none
    lines_names (AndLine line lines) = beside (line_names line) (further_lines_names lines)

    inside_names : (body : Lines) → Has (inside_braces (each_line body)) (lines_leaves body)
    inside_names NoLines = none
    inside_names (AndLine line lines) = ending (beside (line_names line) (further_lines_names lines)) (f none)

  further_parameters_names : (names : List (List ℕ)) → Has (further_parameters names) (map w.LocalBind names)
  further_parameters_names [] = none
  further_parameters_names (name ∷ names) = fix comma refl (s (leaf (w.LocalBind name) (further_parameters_names names)))

  parameters_names : (names : List (List ℕ)) → Has (parameter_words names) (map w.LocalBind names)
  parameters_names [] = none
  parameters_names (name ∷ names) = leaf (w.LocalBind name) (further_parameters_names names)

  pub function_names : (params : List (List ℕ)) (body : Lines) → Has (function_words params body) (function_leaves params body)
  function_names params body = beside (parens (parameters_names params)) (s (braces (each_line body) (inside_names body)))
