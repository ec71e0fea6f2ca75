-- Steps of loops over texts, words and names.
use Rattle.std.proofs.Common.{◌≡◌, ℕ, ◌+◌, ◌<◌, ◌^◌, List, [], ◌∷◌, ◌++◌, length, take, get_or, map, refl, sym, ap, subst, ◌∙◌, arith, zero, suc, Bool, true, false, cond, fold}
use Rattle.std.proofs.Common.{Result, Ok, Err, IfOk, inl, inr, All}
use Rattle.std.specs.Prelude.{Option, Some, None, MatchOption}
use Rattle.std.specs.List.{cons_option}
use Rattle.std.specs.Fmt.{decimal}
use Rattle.std.proofs.lemmas.List.{take_more}
use Rattle.std.proofs.lemmas.List.Elements.{filter_map-append, All-nil, All-push}
use denote.Ref.{Bor}
use Rattle.values.specs.Lists.{IsIn, IsAway}
use Rattle.values.proofs.Members.{in_either}
use Rattle.glue_words.specs.declared.word.Word.{Word}
use Rattle.glue_words.specs.declared.item.Item.{Item}
use Rattle.glue_words.specs.Names.{bound_name, bound_in, used_name, used_in}
use Rattle.helper_set.proofs.Entries.{all_found}
use Rattle.helper_table.specs.declared.parts.HelperParts.{HelperParts}
use Rattle.helper_table.specs.Names.{printed}
use Rattle.helper_table.specs.Made.{count, helper_item, is_there}
use Rattle.helper_table.specs.Closed.{keyed, needed_helpers, binder, ArePresent, IsBinder, is_one, with_helper, with_binder, with_words, asked_helpers}
use Rattle.helper_table.specs.Laws.{read_printed, binds_law, near}
use Rattle.helper_table.specs.Prints.{cancel}
use Rattle.helper_table.proofs.Own.{bound_there}

-- the answer of a call, seen as another value
pub onto : {A E : Type 0} (r : Result A E) (x y : A) → x ≡ y → IfOk r (λ v. v ≡ x) → IfOk r (λ v. v ≡ y)
onto (Ok v) x y e h = h ∙ e
onto (Err v) x y e h = tt

-- the text at a place
pub text_at : (texts : List (Bor (List ℕ))) (i : ℕ) (d : Bor (List ℕ)) → i < length texts → (get_or texts i d).now ≡ get_or (map (λ t. t.now) texts) i []
text_at [] i d lt = absurd (omega (arith, lt))
text_at (t ∷ texts) zero d lt = refl
text_at (t ∷ texts) (suc i) d lt = text_at texts i d (omega (arith, lt))

-- a number behind a stem
abbrev IsNumber : (List ℕ → Type 0) → (ℕ → List ℕ) → Option ℕ → Type 0
IsNumber Is text found = MatchOption found ((n : ℕ) → n < 2 ^ 32 → Is (text n) → ⊥) (λ n. (n < 2 ^ 32) × Is (text n))

behind_case : (stem rest name : List ℕ) (found : Option ℕ) → name ≡ stem ++ rest → IsNumber (λ x. rest ≡ x) decimal found
    → IsNumber (λ x. name ≡ x) (λ n. printed stem (Some n)) found
behind_case stem rest name None is h = λ n small e. h n small (cancel stem rest (decimal n) (sym is ∙ e))
behind_case stem rest name (Some n) is h = (h.0, is ∙ ap (λ (x : List ℕ). stem ++ x) h.1)

pub behind_stem : {E : Type 0} (stem rest name : List ℕ) (r : Result (Option ℕ) E) → name ≡ stem ++ rest → IfOk r (IsNumber (λ x. rest ≡ x) decimal)
    → IfOk r (IsNumber (λ x. name ≡ x) (λ n. printed stem (Some n)))
behind_stem stem rest name (Ok found) is h = behind_case stem rest name found is h
behind_stem stem rest name (Err e) is h = tt

-- ---- words that declare a name

here : (name : List ℕ) (o : Option (List ℕ)) (rest : List (List ℕ)) → o ≡ Some name → IsIn name (cons_option o rest)
here name o rest e = subst (λ (p : Option (List ℕ)). IsIn name (cons_option p rest)) (sym e) (inl refl)

later : (name : List ℕ) (o : Option (List ℕ)) (rest : List (List ℕ)) → IsIn name rest → IsIn name (cons_option o rest)
later name None rest h = h
later name (Some other) rest h = inr h

pub declared_in : (words : List Word) (i : ℕ) (w : Word) (name : List ℕ) → i < length words → w ≡ get_or words i w → bound_name w ≡ Some name
    → IsIn name (bound_in words)
declared_in [] i w name lt is e = absurd (omega (arith, lt))
declared_in (v ∷ words) zero w name lt is e = here name (bound_name v) (bound_in words) (ap bound_name (sym is) ∙ e)
declared_in (v ∷ words) (suc i) w name lt is e = later name (bound_name v) (bound_in words) (declared_in words i w name (omega (arith, lt)) is e)

only : (name : List ℕ) (o : Option (List ℕ)) → IsIn name (cons_option o []) → o ≡ Some name
only name None h = absurd h
only name (Some other) (inl same) = ap Some (sym same)
only name (Some other) (inr none) = absurd none

-- a word more that doesn't declare the name
pub away_next : (words : List Word) (i : ℕ) (w : Word) (name : List ℕ) → i < length words → w ≡ get_or words i w → (bound_name w ≡ Some name → ⊥)
    → IsAway name (bound_in (take i words)) → IsAway name (bound_in (take (i + 1) words))
away_next words i w name lt is other away h =
    let one : take (i + 1) words ≡ take i words ++ w ∷ [] = take_more words i w lt ∙ ap (λ v. take i words ++ v ∷ []) (sym is) in
    let both : bound_in (take (i + 1) words) ≡ bound_in (take i words) ++ bound_in (w ∷ []) = ap bound_in one ∙ filter_map-append bound_name
    (take i words) (w ∷ []) in
    elim (in_either name (bound_in (take i words)) (bound_in (w ∷ [])) (subst (λ (ns : List (List ℕ)). IsIn name ns) both h)) [
      | inl before ↦ away before
      | inr now ↦ other (only name (bound_name w) now)
    ]

-- ---- needed keys

-- one key more
pub needed_next : (parts : HelperParts) (keys : List (List ℕ)) (i : ℕ) (key : List ℕ) (now next : List ℕ) → i < length keys → key ≡ get_or keys i key
    → now ≡ needed_helpers parts (take i keys)
    → next ≡ now ++ needed_helpers parts (key ∷ []) → next ≡ needed_helpers parts (take (i + 1) keys)
needed_next parts keys i key now next lt is h k =
    let one : take (i + 1) keys ≡ take i keys ++ key ∷ [] = take_more keys i key lt ∙ ap (λ (x : List ℕ). take i keys ++ x ∷ []) (sym is) in
    k ∙ ap (λ (xs : List ℕ). xs ++ needed_helpers parts (key ∷ [])) h ∙ sym
    (ap (needed_helpers parts) one ∙ filter_map-append (keyed parts) (take i keys) (key ∷ []))

-- the helpers with these keys are there
pub all_needed : (parts : HelperParts) (keys : List (List ℕ)) → ArePresent parts (needed_helpers parts keys)
all_needed parts keys =
    all_found (λ node. (node < count parts) × (is_there (helper_item parts node) ≡ true)) (keyed parts)
    (λ key i e. let r = read_printed parts key i e in (r.0, r.1)) keys

-- ---- helpers that names ask for

module _ (parts : HelperParts) (P : ℕ → Type 0) where
  with_all : (nodes : List ℕ) (o : Option ℕ) → ((i : ℕ) → o ≡ Some i → P i) → All P nodes → All P (with_helper nodes o)
  with_all nodes None there h = h
  with_all nodes (Some i) there h = by (is_one nodes i)
    where
      by : (b : Bool) → All P (cond b nodes (nodes ++ i ∷ []))
      by true = h
      by false = All-push P nodes i h (there i refl)

  names_all : (names : List (List ℕ)) (nodes : List ℕ) → ((name : List ℕ) (i : ℕ) → IsIn name names → binder parts name ≡ Some i → P i) → All P nodes
      → All P (fold (with_binder parts) nodes names)
  names_all [] nodes give h = h
  names_all (name ∷ names) nodes give h =
      names_all names (with_binder parts nodes name) (λ n i at. give n i (inr at))
      (with_all nodes (binder parts name) (λ i. give name i (inl refl)) h)

  items_all : (items : List Item) (nodes : List ℕ)
      → ((item : Item) (name : List ℕ) (i : ℕ) → IsIn item items → IsIn name (used_in item.words) → binder parts name ≡ Some i → P i) → All P nodes
      → All P (fold (λ nodes (item : Item). with_words parts nodes item.words) nodes items)
  items_all [] nodes give h = h
  items_all (item ∷ items) nodes give h =
      items_all items (with_words parts nodes item.words) (λ x name i at. give x name i (inr at))
      (names_all (used_in item.words) nodes (λ name i. give item name i (inl refl)) h)

  -- what holds of each helper to which words of items refer holds of all that they ask for
  pub asked_all : (items : List Item)
      → ((item : Item) (name : List ℕ) (i : ℕ) → IsIn item items → IsIn name (used_in item.words) → binder parts name ≡ Some i → P i)
      → All P (asked_helpers parts items)
  asked_all items give = items_all items [] give (All-nil P)

-- the helpers that items ask for are there
pub all_asked : (parts : HelperParts) (items : List Item) → ArePresent parts (asked_helpers parts items)
all_asked parts items =
    asked_all parts (λ node. (node < count parts) × (is_there (helper_item parts node) ≡ true)) items
    (λ item name i at used e. let b = binds_law parts name i e in (b.0, bound_there parts i name b.1))

-- a helper that is there is added no second time
pub asked_again : (parts : HelperParts) (nodes : List ℕ) (name : List ℕ) (node : ℕ) → IsBinder name (Some node) → is_one nodes node ≡ true
    → nodes ≡ with_binder parts nodes name
asked_again parts nodes name node told one = by (binder parts name) refl
  where
    by : (o : Option ℕ) → binder parts name ≡ o → nodes ≡ with_helper nodes o
    by None e = refl
    by (Some i) e =
        let b = binds_law parts name i e in
        let same : i ≡ node = told.1 parts i (near parts i b.0) b.1 in
        rw (ap (is_one nodes) same ∙ one) refl

-- and one that isn't there is added
pub asked_anew : (parts : HelperParts) (nodes : List ℕ) (name : List ℕ) (node found : ℕ) → IsBinder name (Some node) → is_one nodes node ≡ false
    → Some found ≡ binder parts name → nodes ++ found ∷ [] ≡ with_binder parts nodes name
asked_anew parts nodes name node found told none e =
    let b = binds_law parts name found (sym e) in
    let same : found ≡ node = told.1 parts found (near parts found b.0) b.1 in
    ap (λ (c : Bool). cond c nodes (nodes ++ found ∷ [])) (sym (ap (is_one nodes) same ∙ none)) ∙ ap (with_helper nodes) e

folded : {A B : Type 0} (f : B → A → B) (start : B) (xs ys : List A) → fold f start (xs ++ ys) ≡ fold f (fold f start xs) ys
folded f start [] ys = refl
folded f start (x ∷ xs) ys = folded f (f start x) xs ys

-- one item more of a list that is folded
fold_next : {A B : Type 0} (f : B → A → B) (start : B) (xs : List A) (i : ℕ) (x : A) → i < length xs → x ≡ get_or xs i x
    → f (fold f start (take i xs)) x ≡ fold f start (take (i + 1) xs)
fold_next f start xs i x lt is =
    sym (ap (fold f start) (take_more xs i x lt ∙ ap (λ y. take i xs ++ y ∷ []) (sym is)) ∙ folded f start (take i xs) (x ∷ []))

-- one word more
pub words_next : (parts : HelperParts) (words : List Word) (i : ℕ) (w : Word) (start now next : List ℕ) → i < length words → w ≡ get_or words i w
    → now ≡ with_words parts start (take i words) → next ≡ with_words parts now (w ∷ []) → next ≡ with_words parts start (take (i + 1) words)
words_next parts words i w start now next lt is h k =
    let one : take (i + 1) words ≡ take i words ++ w ∷ [] = take_more words i w lt ∙ ap (λ v. take i words ++ v ∷ []) (sym is) in
    k ∙ ap (λ ns. with_words parts ns (w ∷ [])) h
    ∙ sym (ap (with_words parts start) one ∙ ap (fold (with_binder parts) start) (filter_map-append used_name (take i words) (w ∷ []))
    ∙ folded (with_binder parts) start (used_in (take i words)) (used_in (w ∷ [])))

-- one item more
pub items_next : (parts : HelperParts) (items : List Item) (i : ℕ) (item : Item) (now next : List ℕ) → i < length items → item ≡ get_or items i item
    → now ≡ asked_helpers parts (take i items) → next ≡ with_words parts now item.words → next ≡ asked_helpers parts (take (i + 1) items)
items_next parts items i item now next lt is h k =
    k ∙ ap (λ ns. with_words parts ns item.words) h ∙ fold_next (λ nodes (x : Item). with_words parts nodes x.words) [] items i item lt is
