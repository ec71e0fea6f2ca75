-- Steps of the loops that spell lists.
use Rattle.std.proofs.Common.{◌≡◌, ℕ, ◌+◌, ◌<◌, List, [], ◌∷◌, ◌++◌, length, take, get_or, false, refl, sym, ap, ◌∙◌, append_assoc}
use Rattle.std.proofs.lemmas.List.{take_more, flat_map_more, append-nil}
use Rattle.glue_words.specs.declared.word.Word.{Word}
use Rattle.glue_words.specs.declared.word.Word.TheVariants.{LocalBind, Prop}
use Rattle.glue_words.specs.Functions.{further_parameters}
use Rattle.glue_tree.specs.Plainly.{plain_expr, plain_exprs, plain_fields, plain_stmt, plain_stmts}
use Rattle.glue_tree.specs.FixedWords.{colon, open_brace, close_brace, comma}
use Rattle.glue_words.specs.Words.{space, line_feed}
use Rattle.glue_tree.specs.Spelling.{term_words, parts_of, fields_of, comma_unless, feed_unless, is_none, listed, line_words, each_line, joined, inside_braces, lines_words, block_words}
use Rattle.glue_tree.specs.Term.{Term, Fields}
use Rattle.glue_tree.specs.Plainly.{expr_step}
use Rattle.glue_tree.specs.declared.tree.Expr.{Expr}
use Rattle.glue_tree.specs.declared.tree.Expr.TheOpen.{Expr-F}
use Rattle.glue_tree.specs.declared.tree.Expr.TheFolds.{fold-roll-Expr}
use Rattle.glue_tree.specs.declared.tree.Expr.TheVariants as e
use Rattle.glue_tree.specs.declared.tree.Stmt.{Stmt}

parts_last : (done : List Expr) (e : Expr) → parts_of (plain_exprs (done ++ e ∷ [])) ≡ parts_of (plain_exprs done) ++ term_words (plain_expr e) ∷ []
parts_last [] e = refl
parts_last (d ∷ done) e = ap (λ parts. term_words (plain_expr d) ∷ parts) (parts_last done e)

is_none_last : {A : Type 0} (xs : List A) (x : A) → is_none (xs ++ x ∷ []) ≡ false
is_none_last [] x = refl
is_none_last (y ∷ xs) x = refl

is_none_parts : (es : List Expr) → is_none (parts_of (plain_exprs es)) ≡ is_none es
is_none_parts [] = refl
is_none_parts (e ∷ es) = refl

lines_last : (done : List Stmt) (line : Stmt) → each_line (plain_stmts (done ++ line ∷ [])) ≡ each_line (plain_stmts done) ++ line_words (plain_stmt line) ∷ []
lines_last [] line = refl
lines_last (d ∷ done) line = ap (λ lines. line_words (plain_stmt d) ∷ lines) (lines_last done line)

listed_last : (parts : List (List Word)) (part : List Word) → listed (parts ++ part ∷ []) ≡ listed parts ++ (comma_unless (is_none parts) ++ part)
listed_last [] part = append-nil part
listed_last (first ∷ parts) part = sym (flat_map_more (λ p. comma ∷ space ∷ p) first parts part)

-- what stands after two pushes
pub pushed : (start done part more : List Word) {a b c : List Word} → a ≡ start ++ done → b ≡ a ++ part → c ≡ b ++ more → c ≡ start ++ (done ++ (part ++ more))
pushed start done part more ea eb ec =
    ec ∙ ap (λ l. l ++ more) (eb ∙ ap (λ l. l ++ part) ea)
    ∙ append_assoc (start ++ done) part more ∙ append_assoc start done (part ++ more)

take_next : {A : Type 0} (xs : List A) (i : ℕ) (x : A) → i < length xs → x ≡ get_or xs i x → take (i + 1) xs ≡ take i xs ++ x ∷ []
take_next xs i x lt is = take_more xs i x lt ∙ ap (λ y. take i xs ++ y ∷ []) (sym is)

params_last : (done : List (List ℕ)) (name : List ℕ) → further_parameters (done ++ name ∷ []) ≡ further_parameters done ++ comma ∷ space ∷ LocalBind name ∷ []
params_last [] name = refl
params_last (d ∷ done) name = ap (λ l. comma ∷ space ∷ LocalBind d ∷ l) (params_last done name)

pub param_next : (names : List (List ℕ)) (i : ℕ) (name : List ℕ) → i < length names → name ≡ get_or names i name → further_parameters (take (i + 1) names) ≡ further_parameters (take i names) ++ comma ∷ space ∷ LocalBind name ∷ []
param_next names i name lt is = ap further_parameters (take_next names i name lt is) ∙ params_last (take i names) name

joined_last : (lines : List (List Word)) (line : List Word) → joined (lines ++ line ∷ []) ≡ joined lines ++ (feed_unless (is_none lines) ++ line)
joined_last [] line = append-nil line
joined_last (first ∷ lines) line = sym (flat_map_more (λ p. line_feed ∷ p) first lines line)

is_none_lines : (lines : List Stmt) → is_none (each_line (plain_stmts lines)) ≡ is_none lines
is_none_lines [] = refl
is_none_lines (line ∷ lines) = refl

pub line_next : (lines : List Stmt) (i : ℕ) (line : Stmt) → i < length lines → line ≡ get_or lines i line → lines_words (plain_stmts (take (i + 1) lines)) ≡ lines_words (plain_stmts (take i lines)) ++ (feed_unless (is_none (take i lines)) ++ line_words (plain_stmt line))
line_next lines i line lt is =
    ap (λ l. lines_words (plain_stmts l)) (take_next lines i line lt is)
    ∙ ap joined (lines_last (take i lines) line)
    ∙ joined_last (each_line (plain_stmts (take i lines))) (line_words (plain_stmt line))
    ∙ ap (λ b. lines_words (plain_stmts (take i lines)) ++ (feed_unless b ++ line_words (plain_stmt line))) (is_none_lines (take i lines))

inside_is : (lines : List (List Word)) → inside_braces lines ≡ joined lines ++ feed_unless (is_none lines)
inside_is [] = refl
inside_is (line ∷ lines) = refl

-- the words of a block, as they are pushed
pub block_is : (body : List Stmt) → block_words (plain_stmts body) ≡ open_brace ∷ line_feed ∷ ((lines_words (plain_stmts body) ++ feed_unless (is_none body)) ++ close_brace ∷ [])
block_is body =
    ap (λ inside. open_brace ∷ line_feed ∷ (inside ++ close_brace ∷ []))
    (inside_is (each_line (plain_stmts body)) ∙ ap (λ b. lines_words (plain_stmts body) ++ feed_unless b) (is_none_lines body))

pub argument_next : (arguments : List Expr) (i : ℕ) (e : Expr) → i < length arguments → e ≡ get_or arguments i e → listed (parts_of (plain_exprs (take (i + 1) arguments))) ≡ listed (parts_of (plain_exprs (take i arguments))) ++ (comma_unless (is_none (take i arguments)) ++ term_words (plain_expr e))
argument_next arguments i e lt is =
    ap (λ l. listed (parts_of (plain_exprs l))) (take_next arguments i e lt is)
    ∙ ap listed (parts_last (take i arguments) e)
    ∙ listed_last (parts_of (plain_exprs (take i arguments))) (term_words (plain_expr e))
    ∙ ap (λ b. listed (parts_of (plain_exprs (take i arguments))) ++ (comma_unless b ++ term_words (plain_expr e))) (is_none_parts (take i arguments))

pub not_first : (arguments : List Expr) (i : ℕ) (e : Expr) → i < length arguments → e ≡ get_or arguments i e → false ≡ is_none (take (i + 1) arguments)
not_first arguments i e lt is = sym (ap is_none (take_next arguments i e lt is) ∙ is_none_last (take i arguments) e)

-- `key: e`
abbrev pub field_words : (List ℕ × Expr) → List Word
field_words field = Prop field.0 ∷ colon ∷ space ∷ term_words (plain_expr field.1)

fields_last : (done : List (List ℕ × Expr)) (field : List ℕ × Expr) → fields_of (plain_fields (done ++ field ∷ [])) ≡ fields_of (plain_fields done) ++ field_words field ∷ []
fields_last [] field = refl
fields_last (d ∷ done) field = ap (λ parts. field_words d ∷ parts) (fields_last done field)

is_none_fields : (fields : List (List ℕ × Expr)) → is_none (fields_of (plain_fields fields)) ≡ is_none fields
is_none_fields [] = refl
is_none_fields (field ∷ fields) = refl

pub field_next : (fields : List (List ℕ × Expr)) (i : ℕ) (field : List ℕ × Expr) → i < length fields → field ≡ get_or fields i field → listed (fields_of (plain_fields (take (i + 1) fields))) ≡ listed (fields_of (plain_fields (take i fields))) ++ (comma_unless (is_none (take i fields)) ++ field_words field)
field_next fields i field lt is =
    ap (λ l. listed (fields_of (plain_fields l))) (take_next fields i field lt is)
    ∙ ap listed (fields_last (take i fields) field)
    ∙ listed_last (fields_of (plain_fields (take i fields))) (field_words field)
    ∙ ap (λ b. listed (fields_of (plain_fields (take i fields))) ++ (comma_unless b ++ field_words field)) (is_none_fields (take i fields))

pub no_first : {A : Type 0} (items : List A) (i : ℕ) (item : A) → i < length items → item ≡ get_or items i item → false ≡ is_none (take (i + 1) items)
no_first items i item lt is = sym (ap is_none (take_next items i item lt is) ∙ is_none_last (take i items) item)

-- a record without its pointers
pub record_plain : (fields : List (List ℕ × Expr)) → plain_expr (e.Record fields) ≡ Fields (plain_fields fields)
record_plain fields = ap plain_expr (sym (e.rolls-Record fields)) ∙ fold-roll-Expr Term expr_step (Expr-F.Record fields)

-- what stands after three pushes
pub pushed_more : (start done part more other : List Word) {a b c d : List Word} → a ≡ start ++ done → b ≡ a ++ part → c ≡ b ++ more → d ≡ c ++ other → d ≡ start ++ (done ++ (part ++ (more ++ other)))
pushed_more start done part more other ea eb ec ed =
    ed ∙ ap (λ l. l ++ other) (pushed start done part more ea eb ec)
    ∙ append_assoc start (done ++ (part ++ more)) other ∙ ap (λ l. start ++ l) (append_assoc done (part ++ more) other ∙ ap (λ l. done ++ l) (append_assoc part more other))
