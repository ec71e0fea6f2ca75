-- Items that hold a function: their names are those of the function's leaves, and where the function is fit they stand alone.
use Rattle.std.proofs.Common.{◌≡◌, ℕ, List, [], ◌∷◌, ◌++◌, refl, ap, sym, ◌∙◌, subst, Bool, true, false, true≢false}
use Rattle.std.proofs.lemmas.Bool.{and_parts}
use Rattle.std.proofs.lemmas.List.Elements.{filter_map-append}
use Rattle.std.specs.Prelude.{Option, Some, None, ◌&&◌}
use Rattle.std.specs.List.{list_all, filter_map}
use Rattle.values.specs.Lists.{AreApart, AreDistinct}
use Rattle.glue_words.specs.declared.word.Word.{Word}
use Rattle.glue_words.specs.declared.word.NoteKind.TheVariants as n
use Rattle.glue_words.specs.declared.word.Word.TheVariants as w
use Rattle.glue_words.specs.Ident.{is_ident}
use Rattle.glue_words.specs.Limits.{is_computed}
use Rattle.glue_words.specs.Names.{bound_name, used_name, hosted_name, local_bound_name, local_name, wasm_name, spliced_key, used_in, hosted_in, local_bound_in, local_in, wasm_in}
use Rattle.glue_words.specs.Spacing.{first_word, each_next, begins_apart, is_open_after, is_open, note_stands, notes_stand}
use Rattle.glue_words.specs.Linking.{AreAmong, BindsOnce, Resolves, KeepsLocals, TakesExports, TakesKeys, is_named_access}
use Rattle.glue_words.proofs.Belonging.{StandAlone, ends_in_gap}
use Rattle.glue_words.proofs.ByKind.{stands_by_kind, is_sound}
use Rattle.glue_words.proofs.Spaced.{each_next_both, all_both, ends_in_gap-append, alone_by_kind}
use Rattle.glue_tree.specs.Term.{Lines}
use Rattle.glue_tree.specs.FixedWords.{open_paren, close_brace}
use Rattle.glue_tree.specs.Spelling.{function_words}
use Rattle.glue_tree.specs.Leaves.{function_leaves}
use Rattle.glue_tree.proofs.Names.{IsKind, Has, function_names}
use Rattle.glue_tree.proofs.Fit.{is_single, is_right, is_inner, spaced, lines_fit}
use Rattle.glue_tree.proofs.Spacing.{Ends, function}

-- ---- names

-- the words have the names of others, of each kind
pub record HasNames (words found : List Word) : Type 0 where
  pub same : (kind : Word → Option (List ℕ)) → IsKind kind → filter_map kind words ≡ filter_map kind found

pub used_kind : IsKind used_name
used_kind = record { punct = λ p. refl; key = λ p. refl; gap = λ t. refl; num = λ n. refl; text = λ t. refl }

pub hosted_kind : IsKind hosted_name
hosted_kind = record { punct = λ p. refl; key = λ p. refl; gap = λ t. refl; num = λ n. refl; text = λ t. refl }

pub bound_kind : IsKind bound_name
bound_kind = record { punct = λ p. refl; key = λ p. refl; gap = λ t. refl; num = λ n. refl; text = λ t. refl }

pub local_kind : IsKind local_name
local_kind = record { punct = λ p. refl; key = λ p. refl; gap = λ t. refl; num = λ n. refl; text = λ t. refl }

pub local_bound_kind : IsKind local_bound_name
local_bound_kind = record { punct = λ p. refl; key = λ p. refl; gap = λ t. refl; num = λ n. refl; text = λ t. refl }

pub wasm_kind : IsKind wasm_name
wasm_kind = record { punct = λ p. refl; key = λ p. refl; gap = λ t. refl; num = λ n. refl; text = λ t. refl }

pub spliced_kind : IsKind spliced_key
spliced_kind = record { punct = λ p. refl; key = λ p. refl; gap = λ t. refl; num = λ n. refl; text = λ t. refl }

-- an item's words and its leaves: the words before a function, the function, and the words after it
abbrev pub item_words : (front back : List Word) → (params : List (List ℕ)) → Lines → List Word
item_words front back params body = front ++ (function_words params body ++ back)

abbrev pub item_leaves : (front back : List Word) → (params : List (List ℕ)) → Lines → List Word
item_leaves front back params body = front ++ (function_leaves params body ++ back)

pub item_names : (front back : List Word) (params : List (List ℕ)) (body : Lines) → HasNames (item_words front back params body) (item_leaves front back params body)
item_names front back params body = record {
  same = λ kind is.
      let inside : Has kind is (function_words params body) (function_leaves params body) = function_names kind is params body in
      filter_map-append kind front (function_words params body ++ back)
      ∙ ap (λ (ns : List (List ℕ)). filter_map kind front ++ ns)
      (filter_map-append kind (function_words params body) back ∙ ap (λ (ns : List (List ℕ)). ns ++ filter_map kind back) inside.same ∙ sym (filter_map-append kind (function_leaves params body) back))
      ∙ sym (filter_map-append kind front (function_leaves params body ++ back));
}

-- what is linked by its leaves is linked by its words
module _ {words found : List Word} (names : HasNames words found) where
  pub binds_by_leaves : (hosts declared : List (List ℕ)) → BindsOnce hosts declared found → BindsOnce hosts declared words
  binds_by_leaves hosts declared h =
      let same = sym (names.same bound_name bound_kind) in record {
        distinct = subst AreDistinct same h.distinct;
        no_host = subst (λ (ns : List (List ℕ)). AreApart ns hosts) same h.no_host;
        new = subst (λ (ns : List (List ℕ)). AreApart ns declared) same h.new;
      }

  pub resolves_by_leaves : (hosts declared : List (List ℕ)) → Resolves hosts declared found → Resolves hosts declared words
  resolves_by_leaves hosts declared h = record {
    bound = subst (λ (ns : List (List ℕ)). AreAmong ns declared) (sym (names.same used_name used_kind)) h.bound;
    known = subst (λ (ns : List (List ℕ)). AreAmong ns hosts) (sym (names.same hosted_name hosted_kind)) h.known;
  }

  pub local_by_leaves : KeepsLocals found → KeepsLocals words
  local_by_leaves h =
      let locals = sym (names.same local_name local_kind) in
      let declared = sym (names.same local_bound_name local_bound_kind) in
      let used = sym (names.same used_name used_kind) in
      let hosted = sym (names.same hosted_name hosted_kind) in record {
        bound = subst (λ (ns : List (List ℕ)). AreAmong ns (local_bound_in words)) locals (subst (λ (ns : List (List ℕ)). AreAmong (local_in found) ns) declared h.bound);
        apart = subst (λ (ns : List (List ℕ)). AreApart ns (used_in words ++ hosted_in words)) declared
            (subst (λ (ns : List (List ℕ)). AreApart (local_bound_in found) (ns ++ hosted_in words)) used (subst (λ (ns : List (List ℕ)). AreApart (local_bound_in found) (used_in found ++ ns)) hosted h.apart));
      }

  pub exports_by_leaves : (exports : List (List ℕ)) (next : Option Word) → AreAmong (wasm_in found) exports → each_next is_named_access words next ≡ true → TakesExports exports words next
  exports_by_leaves exports next h n = record {
    known = subst (λ (ns : List (List ℕ)). AreAmong ns exports) (sym (names.same wasm_name wasm_kind)) h;
    named = n;
  }

  pub keys_by_leaves : (keys : List (List ℕ)) → TakesKeys keys found → TakesKeys keys words
  keys_by_leaves keys h =
      let same = sym (names.same spliced_key spliced_kind) in record {
        known = subst (λ (ns : List (List ℕ)). AreAmong ns keys) same h.known;
        formed = subst (λ (ns : List (List ℕ)). list_all is_computed ns ≡ true) same h.formed;
      }

-- ---- spacing

and_true : (a b : Bool) → a ≡ true → b ≡ true → (a && b) ≡ true
and_true a b h k = ap (λ x. x && b) h ∙ k

module _ {A : Type 0} (p q : A → Bool) where
  all_parts : (xs : List A) → list_all (λ x. p x && q x) xs ≡ true → (list_all p xs ≡ true) × (list_all q xs ≡ true)
  all_parts [] h = (refl, refl)
  all_parts (x ∷ xs) h =
      let here = and_parts (p x && q x) (list_all (λ y. p y && q y) xs) h in
      let both = and_parts (p x) (q x) here.0 in
      let rest = all_parts xs here.1 in
      (and_true _ _ both.0 rest.0, and_true _ _ both.1 rest.1)

next_parts : (words : List Word) (next : Option Word) → each_next spaced words next ≡ true → (each_next stands_by_kind words next ≡ true) × (each_next is_named_access words next ≡ true)
next_parts [] next h = (refl, refl)
next_parts (word ∷ words) next h =
    let here = and_parts (spaced word (first_word words next)) (each_next spaced words next) h in
    let both = and_parts (stands_by_kind word (first_word words next)) (is_named_access word (first_word words next)) here.0 in
    let rest = next_parts words next here.1 in
    (and_true _ _ both.0 rest.0, and_true _ _ both.1 rest.1)

single_open : (inside : Bool) (word : Word) → is_single word ≡ true → is_open_after inside word ≡ inside
single_open inside (w.Note n.Open text) h = absurd (true≢false (sym h))
single_open inside (w.Note n.Close text) h = absurd (true≢false (sym h))
single_open inside (w.Note n.Line text) h = absurd (true≢false (sym h))
single_open inside word h = refl

single_stands : (inside : Bool) (word : Word) → is_single word ≡ true → note_stands inside word ≡ true
single_stands inside (w.Note n.Close text) h = absurd (true≢false (sym h))
single_stands inside (w.Note n.Line text) h = absurd (true≢false (sym h))
single_stands inside word h = refl

singles_open : (inside : Bool) (words : List Word) → list_all is_single words ≡ true → is_open inside words ≡ inside
singles_open inside [] h = refl
singles_open inside (word ∷ words) h =
    let parts = and_parts (is_single word) (list_all is_single words) h in
    ap (λ (b : Bool). is_open b words) (single_open inside word parts.0) ∙ singles_open inside words parts.1

singles_stand : (inside : Bool) (words : List Word) → list_all is_single words ≡ true → notes_stand inside words ≡ true
singles_stand inside [] h = refl
singles_stand inside (word ∷ words) h =
    let parts = and_parts (is_single word) (list_all is_single words) h in
    and_true _ _ (single_stands inside word parts.0) (ap (λ (b : Bool). notes_stand b words) (single_open inside word parts.0) ∙ singles_stand inside words parts.1)

apart_both : (xs ys : List Word) → begins_apart xs ≡ true → begins_apart ys ≡ true → begins_apart (xs ++ ys) ≡ true
apart_both [] ys h k = k
apart_both (x ∷ xs) ys h k = h

-- words that are as their kinds say and stand before what follows them, that begin apart from what is before them and end with a gap
pub words_alone : (words : List Word) → list_all is_right words ≡ true → each_next spaced words None ≡ true → begins_apart words ≡ true → ends_in_gap words ≡ true
    → StandAlone words
words_alone words right stand apart ends =
    let parts = all_parts is_sound is_single words right in
    alone_by_kind words parts.0 (next_parts words None stand).0 apart (singles_stand false words parts.1) ends (singles_open false words parts.1)

-- and take exports by their names
pub words_named : (words : List Word) → each_next spaced words None ≡ true → each_next is_named_access words None ≡ true
words_named words stand = (next_parts words None stand).1

-- words around a function
pub record IsFrame (front back : List Word) : Type 0 where
  pub right : (list_all is_right front ≡ true) × (list_all is_right back ≡ true)
  pub before : each_next spaced front (Some open_paren) ≡ true
  pub behind : spaced close_brace (first_word back None) ≡ true
  pub after : each_next spaced back None ≡ true
  pub apart : begins_apart front ≡ true
  pub ends : ends_in_gap back ≡ true

-- ---- the theorem: a function that is fit stands alone in a frame, and takes exports by their names
module _ {front back : List Word} (frame : IsFrame front back) (params : List (List ℕ)) (body : Lines) (idents : list_all is_ident params ≡ true) (is_fit : lines_fit body ≡ true) where
  inside : Ends (λ next. spaced close_brace next) (function_words params body)
  inside = function params body (λ next f. f) idents is_fit

  item_right : list_all is_right (item_words front back params body) ≡ true
  item_right = all_both is_right front (function_words params body ++ back) frame.right.0
      (all_both is_right (function_words params body) back (all_parts is_right is_inner (function_words params body) inside.good).0 frame.right.1)

  item_spaced : each_next spaced (item_words front back params body) None ≡ true
  item_spaced = each_next_both spaced front (function_words params body ++ back) None frame.before
      (each_next_both spaced (function_words params body) back None (inside.each (first_word back None) frame.behind) frame.after)

  pub item_alone : StandAlone (item_words front back params body)
  item_alone =
      words_alone (item_words front back params body) item_right item_spaced (apart_both front (function_words params body ++ back) frame.apart refl)
      (ends_in_gap-append front (function_words params body ++ back) (ends_in_gap-append (function_words params body) back frame.ends))

  pub item_named : each_next is_named_access (item_words front back params body) None ≡ true
  item_named = words_named (item_words front back params body) item_spaced

  -- no word of the function is `export`
  pub function_inner : list_all is_inner (function_words params body) ≡ true
  function_inner = (all_parts is_right is_inner (function_words params body) inside.good).1
