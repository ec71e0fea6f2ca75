-- The words of a function of a form: they have the names of those without `...`, and where its tree is fit they stand in a frame.
use Rattle.std.proofs.Common.{◌≡◌, ℕ, List, [], ◌∷◌, ◌++◌, refl, ap, sym, ◌∙◌, subst, Bool, true, false, append_assoc}
use Rattle.std.proofs.lemmas.Bool.{and_parts}
use Rattle.std.proofs.lemmas.List.Elements.{filter_map-append}
use Rattle.std.specs.Prelude.{Option, Some, None, codes, ◌&&◌}
use Rattle.std.specs.List.{list_all, filter_map}
use Rattle.glue_words.specs.declared.word.Word.{Word}
use Rattle.glue_words.specs.declared.word.Word.TheVariants as w
use Rattle.glue_words.specs.Ident.{is_ident}
use Rattle.glue_words.specs.Functions.{parameter_words, further_parameters, parenthesised}
use Rattle.glue_words.specs.Linking.{is_named_access}
use Rattle.glue_words.specs.Spacing.{joins, first_word, each_next, begins_apart}
use Rattle.glue_words.specs.Tables.{punct_text}
use Rattle.glue_words.specs.Words.{space}
use Rattle.glue_words.proofs.Belonging.{StandAlone}
use Rattle.glue_words.proofs.Spaced.{each_next_both, all_both, ends_in_gap-append}
use Rattle.glue_tree.specs.FixedWords.{open_paren, close_paren, close_brace, comma}
use Rattle.glue_tree.specs.Spelling.{is_none, comma_unless, block_words, function_words}
use Rattle.glue_tree.specs.Term.{Lines}
use Rattle.glue_tree.proofs.Fit.{is_right, is_inner, is_good, spaced, lines_fit}
use Rattle.glue_tree.proofs.Functions.{IsFrame, words_alone, words_named}
use Rattle.glue_tree.proofs.Names.{IsKind}
use Rattle.glue_tree.proofs.Spacing.{Ends, function}
use Rattle.glue_operands.specs.Form.{printed_parameter, printed_parameters, form_words}
use Rattle.glue_operands.specs.Spelling.{word_if}
use Rattle.glue_operands.specs.declared.form.Form.{Form}

and_true : (a b : Bool) → a ≡ true → b ≡ true → (a && b) ≡ true
and_true a b h k = ap (λ x. x && b) h ∙ k

-- ---- where nothing is gathered, the words are those of any function

further_printed : (names : List (List ℕ)) → printed_parameters false false names ≡ further_parameters names
further_printed [] = refl
further_printed (name ∷ names) = ap (λ (words : List Word). comma ∷ space ∷ w.LocalBind name ∷ words) (further_printed names)

all_printed : (names : List (List ℕ)) → printed_parameters true false names ≡ parameter_words names
all_printed [] = refl
all_printed (name ∷ names) = ap (λ (words : List Word). w.LocalBind name ∷ words) (further_printed names)

pub usual_words : (form : Form) (names : List (List ℕ)) (body : Lines) → form.has_rest ≡ false → form_words form names body ≡ function_words names body
usual_words form names body h =
    ap (λ (gathers : Bool). parenthesised (printed_parameters true gathers names) ++ space ∷ block_words body) h
    ∙ ap (λ (words : List Word). parenthesised words ++ space ∷ block_words body) (all_printed names)

-- ---- names

module _ (kind : Word → Option (List ℕ)) (is : IsKind kind) where
  abbrev found : List Word → List (List ℕ)
  found words = filter_map kind words

  one_found : (gathers : Bool) (name : List ℕ) → found (printed_parameter gathers name) ≡ found (w.LocalBind name ∷ [])
  one_found true name = rw (is.punct 12) refl
  one_found false name = refl

  -- whichever parameter gathers, they have the same names
  all_found : (first gathers others : Bool) (names : List (List ℕ))
      → found (printed_parameters first gathers names) ≡ found (printed_parameters first others names)
  all_found first gathers others [] = refl
  all_found first gathers others (name ∷ names) =
      let one = printed_parameter (gathers && is_none names) name in
      let other = printed_parameter (others && is_none names) name in
      let rest = printed_parameters false gathers names in
      let more = printed_parameters false others names in
      filter_map-append kind (comma_unless first) (one ++ rest)
      ∙ ap (λ (ns : List (List ℕ)). found (comma_unless first) ++ ns) (filter_map-append kind one rest
      ∙ ap (λ (ns : List (List ℕ)). ns ++ found rest) (one_found (gathers && is_none names) name ∙ sym (one_found (others && is_none names) name))
      ∙ ap (λ (ns : List (List ℕ)). found other ++ ns) (all_found false gathers others names)
      ∙ sym (filter_map-append kind other more))
      ∙ sym (filter_map-append kind (comma_unless first) (other ++ more))

  around_found : (words others more : List Word) → found words ≡ found others → found (parenthesised words ++ more) ≡ found (parenthesised others ++ more)
  around_found words others more h =
      let front = open_paren ∷ [] in
      let behind = close_paren ∷ [] in
      filter_map-append kind front ((words ++ behind) ++ more)
      ∙ ap (λ (ns : List (List ℕ)). found front ++ ns) (filter_map-append kind (words ++ behind) more
      ∙ ap (λ (ns : List (List ℕ)). ns ++ found more) (filter_map-append kind words behind
      ∙ ap (λ (ns : List (List ℕ)). ns ++ found behind) h
      ∙ sym (filter_map-append kind others behind))
      ∙ sym (filter_map-append kind (others ++ behind) more))
      ∙ sym (filter_map-append kind front ((others ++ behind) ++ more))

  pub form_found : (form : Form) (names : List (List ℕ)) (body : Lines) → filter_map kind (form_words form names body) ≡ filter_map kind (function_words names body)
  form_found form names body =
      around_found (printed_parameters true form.has_rest names) (parameter_words names) (space ∷ block_words body)
      (all_found true form.has_rest false names ∙ ap found (all_printed names))

-- ---- spacing

-- parameters stand before the parenthesis behind them
record StandInside (words : List Word) : Type 0 where
  good : list_all is_good words ≡ true
  each : each_next spaced words (Some close_paren) ≡ true

close_behind : (name : List ℕ) → spaced (w.LocalBind name) (Some close_paren) ≡ true
close_behind name = refl

spread_before : (name : List ℕ) → spaced (w.Punct 12) (Some (w.LocalBind name)) ≡ true
spread_before name = refl

-- `p` or `...p` before what stands behind a parameter
one_stands : (gathers : Bool) (name : List ℕ) → is_ident name ≡ true → (words : List Word)
    → spaced (w.LocalBind name) (first_word words (Some close_paren)) ≡ true → StandInside words → StandInside (printed_parameter gathers name ++ words)
one_stands true name i words f rest = record {
  good = and_true _ _ refl (and_true _ _ (ap (λ (b : Bool). ((b && true) && true) && true) i) rest.good);
  each = and_true _ _ (spread_before name) (and_true _ _ f rest.each);
}
one_stands false name i words f rest = record {
  good = and_true _ _ (ap (λ (b : Bool). ((b && true) && true) && true) i) rest.good;
  each = and_true _ _ f rest.each;
}

behind_one : (gathers : Bool) (name : List ℕ) (names : List (List ℕ))
    → spaced (w.LocalBind name) (first_word (printed_parameters false gathers names) (Some close_paren)) ≡ true
behind_one gathers name [] = refl
behind_one gathers name (other ∷ names) = refl

after_space : (gathers : Bool) (name : List ℕ) (words : List Word) → spaced space (first_word (printed_parameter gathers name ++ words) (Some close_paren)) ≡ true
after_space true name words = refl
after_space false name words = refl

-- a parameter and further ones
one_more : (gathers : Bool) (name : List ℕ) (names : List (List ℕ)) → is_ident name ≡ true → StandInside (printed_parameters false gathers names)
    → StandInside (printed_parameter (gathers && is_none names) name ++ printed_parameters false gathers names)
one_more gathers name names i rest =
    one_stands (gathers && is_none names) name i (printed_parameters false gathers names) (behind_one gathers name names) rest

further_stand : (gathers : Bool) (names : List (List ℕ)) → list_all is_ident names ≡ true → StandInside (printed_parameters false gathers names)
further_stand gathers [] h = record { good = refl; each = refl }
further_stand gathers (name ∷ names) h =
    let parts = and_parts (is_ident name) (list_all is_ident names) h in
    let all = one_more gathers name names parts.0 (further_stand gathers names parts.1) in
    let words = printed_parameters false gathers names in record {
      good = and_true _ _ refl (and_true _ _ refl all.good);
      each = and_true _ _ refl (and_true _ _ (after_space (gathers && is_none names) name words) all.each);
    }

-- `(` before a parameter
paren_before : (gathers : Bool) (name : List ℕ) (words : List Word) → spaced open_paren (first_word (printed_parameter gathers name ++ words) (Some close_paren)) ≡ true
unfolding joins punct_text
paren_before true name words = refl
paren_before false name words = refl

paren_paren : spaced open_paren (Some close_paren) ≡ true
unfolding joins punct_text
paren_paren = refl

opened_stand : (gathers : Bool) (names : List (List ℕ)) → list_all is_ident names ≡ true → StandInside (open_paren ∷ printed_parameters true gathers names)
opened_stand gathers [] h = record { good = refl; each = and_true _ _ paren_paren refl }
opened_stand gathers (name ∷ names) h =
    let parts = and_parts (is_ident name) (list_all is_ident names) h in
    let all = one_more gathers name names parts.0 (further_stand gathers names parts.1) in
    let words = printed_parameters false gathers names in record {
      good = and_true _ _ refl all.good;
      each = and_true _ _ (paren_before (gathers && is_none names) name words) all.each;
    }

-- the text of a function of a form stands where that of any function does
form_stands : {may_follow : Option Word → Bool} (form : Form) (names : List (List ℕ)) (body : Lines)
    → ((next : Option Word) → may_follow next ≡ true → spaced close_brace next ≡ true) → list_all is_ident names ≡ true → lines_fit body ≡ true
    → Ends may_follow (form_words form names body)
form_stands {may_follow} form names body f idents fit =
    let front = open_paren ∷ printed_parameters true form.has_rest names in
    let behind = close_paren ∷ space ∷ block_words body in
    let bare : Ends may_follow (open_paren ∷ behind) = function [] body f refl fit in
    let opened = opened_stand form.has_rest names idents in
    subst (Ends may_follow) (sym (append_assoc front (close_paren ∷ []) (space ∷ block_words body))) (record {
      good = all_both is_good front behind opened.good (and_parts (is_good open_paren) (list_all is_good behind) bare.good).1;
      each = λ next m. each_next_both spaced front behind next opened.each
          (and_parts (spaced open_paren (Some close_paren)) (each_next spaced behind next) (bare.each next m)).1;
    })

-- ---- the theorem: a function of a form that is fit stands alone in a frame, and takes exports by their names

module _ {A : Type 0} (p q : A → Bool) where
  all_parts : (xs : List A) → list_all (λ x. p x && q x) xs ≡ true → (list_all p xs ≡ true) × (list_all q xs ≡ true)
  all_parts [] h = (refl, refl)
  all_parts (x ∷ xs) h =
      let here = and_parts (p x && q x) (list_all (λ y. p y && q y) xs) h in
      let both = and_parts (p x) (q x) here.0 in
      let rest = all_parts xs here.1 in
      (and_true _ _ both.0 rest.0, and_true _ _ both.1 rest.1)

apart_both : (xs ys : List Word) → begins_apart xs ≡ true → begins_apart ys ≡ true → begins_apart (xs ++ ys) ≡ true
apart_both [] ys h k = k
apart_both (x ∷ xs) ys h k = h

module _ {front back : List Word} (frame : IsFrame front back) (form : Form) (names : List (List ℕ)) (body : Lines)
    (idents : list_all is_ident names ≡ true) (fit : lines_fit body ≡ true) where
  abbrev words : List Word
  words = form_words form names body

  inside : Ends (λ next. spaced close_brace next) words
  inside = form_stands form names body (λ next f. f) idents fit

  all_right : list_all is_right (front ++ (words ++ back)) ≡ true
  all_right = all_both is_right front (words ++ back) frame.right.0
      (all_both is_right words back (all_parts is_right is_inner words inside.good).0 frame.right.1)

  all_spaced : each_next spaced (front ++ (words ++ back)) None ≡ true
  all_spaced = each_next_both spaced front (words ++ back) None frame.before
      (each_next_both spaced words back None (inside.each (first_word back None) frame.behind) frame.after)

  pub form_alone : StandAlone (front ++ (words ++ back))
  form_alone = words_alone (front ++ (words ++ back)) all_right all_spaced (apart_both front (words ++ back) frame.apart refl)
      (ends_in_gap-append front (words ++ back) (ends_in_gap-append words back frame.ends))

  pub form_named : each_next is_named_access (front ++ (words ++ back)) None ≡ true
  form_named = words_named (front ++ (words ++ back)) all_spaced

  -- no word of the function is `export`
  pub form_inner : list_all is_inner words ≡ true
  form_inner = (all_parts is_right is_inner words inside.good).1
