-- Entries that are put in one by one.
use Rattle.std.proofs.Common.{◌≡◌, ℕ, ◌+◌, ◌<◌, ◌≤◌, Bool, true, false, List, [], ◌∷◌, ◌++◌, length, take, get_or, append_assoc, refl, sym, ap, ◌∙◌, cond, arith, inl, inr}
use Rattle.std.specs.Prelude.{Option, Some, None, All, unwrap_or}
use Rattle.std.specs.List.{filter_map, cons_option}
use Rattle.std.specs.List.Sorted.{IsStrictlySortedBy}
use Rattle.std.specs.Ordering.{nat_cmp, eq_by_cmp, is_eq}
use Rattle.std.specs.Cmp.{Equal-is, tied_itself}
use Rattle.std.specs.Cmp.Lexicographic.{slice_cmp, nat_list_cmp_total}
use Rattle.std.specs.BTreeMap.{insert_entry}
use Rattle.std.specs.FinSet as set
use Rattle.std.proofs.lemmas.Bool.{false≢true, cases_lt}
use Rattle.std.proofs.lemmas.List.{get_or_past, take_more}
use Rattle.std.proofs.lemmas.List.Elements.{All-nil, All-cons, filter_map-append}
use Rattle.values.specs.Map.{look_up, AreInOrder}
use Rattle.values.proofs.Maps.{look_up_inserted}
use Rattle.glue_words.specs.declared.word.Word.{Word}
use Rattle.least_set.specs.Least.{is_marked}
use Rattle.glue_words.specs.Names.{used_name, used_in}
use Rattle.helper_set.specs.Helpers.{AreEntries, referred}

-- marked, and below n
abbrev pub IsHeld : List Bool → ℕ → ℕ → Type 0
IsHeld marks n i = (i < n) × (is_marked marks i ≡ true)

same_text : (x y : List ℕ) → eq_by_cmp (slice_cmp nat_cmp) x y ≡ true → x ≡ y
same_text x y h = set.slice_cmp-IsAntisymmetric set.nat_cmp-IsAntisymmetric x y ((Equal-is (slice_cmp nat_cmp x y)).0 h)

some_apart : {A : Type 0} (x y : A) → Some x ≡ Some y → x ≡ y
some_apart x y e = ap (λ o. unwrap_or o x) e

none_is : {A : Type 0} (x : A) → None ≡ Some x → ⊥
none_is x e = cc

module _ (key : ℕ → List ℕ) (words : ℕ → List Word) (marks : List Bool) where
  pub begins : (entries : List (List ℕ × List Word)) → entries ≡ [] → AreEntries key words (IsHeld marks 0) entries
  unfolding IsStrictlySortedBy
  begins entries e = rw e (record {
    in_order = tt;
    each = λ i h. absurd (omega (arith, h.0));
    only = λ k ws h. absurd (none_is ws h);
  })

  -- no mark: the entries stay
  pub passes : (n : ℕ) (entries : List (List ℕ × List Word)) → is_marked marks n ≡ false → AreEntries key words (IsHeld marks n) entries → AreEntries key words (IsHeld marks (n + 1)) entries
  passes n entries free a = record {
    in_order = a.in_order;
    each = λ i h. elim (cases_lt i n) [
      | inl lt ↦ a.each i (lt, h.1)
      | inr le ↦ absurd (false≢true (sym free ∙ ap (λ j. is_marked marks j) (let e : n ≡ i = omega (arith, le, h.0) in e) ∙ h.1))
    ];
    only = λ k ws h. let o = a.only k ws h in (o.0, ((omega (arith, o.1.0.0), o.1.0.1), o.1.1, o.1.2));
  }

  each_case : (entries : List (List ℕ × List Word)) (i n : ℕ) (b : Bool) → (b ≡ true → i ≡ n) → (i ≡ n → b ≡ true) → (i < n → look_up (slice_cmp nat_cmp) entries (key i) ≡ Some (words i)) → i < n + 1 → cond b (Some (words n)) (look_up (slice_cmp nat_cmp) entries (key i)) ≡ Some (words i)
  each_case entries i n true same tied rest lt = ap (λ j. Some (words j)) (sym (same refl))
  each_case entries i n false same tied rest lt = elim (cases_lt i n) [
    | inl below ↦ rest below
    | inr le ↦ absurd (false≢true (tied (omega (arith, le, lt))))
  ]

  only_case : (entries : List (List ℕ × List Word)) (k : List ℕ) (ws : List Word) (n : ℕ) (b : Bool) → (b ≡ true → k ≡ key n) → is_marked marks n ≡ true → AreEntries key words (IsHeld marks n) entries → cond b (Some (words n)) (look_up (slice_cmp nat_cmp) entries k) ≡ Some ws → (i : ℕ) × (IsHeld marks (n + 1) i × (k ≡ key i) × (ws ≡ words i))
  only_case entries k ws n true same marked a e = (n, ((omega arith, marked), same refl, sym (some_apart (words n) ws e)))
  only_case entries k ws n false same marked a e = let o = a.only k ws e in (o.0, ((omega (arith, o.1.0.0), o.1.0.1), o.1.1, o.1.2))

  tied : (x y : List ℕ) → x ≡ y → eq_by_cmp (slice_cmp nat_cmp) x y ≡ true
  tied x y e = ap (λ (z : List ℕ). eq_by_cmp (slice_cmp nat_cmp) x z) (sym e) ∙ ap is_eq (tied_itself nat_list_cmp_total x)

  -- a mark: the helper's words are put in at its key
  pub puts : (count n : ℕ) (entries entries' : List (List ℕ × List Word)) → n < count → ((i j : ℕ) → i < count → j < count → key i ≡ key j → i ≡ j)
      → is_marked marks n ≡ true → entries' ≡ insert_entry (slice_cmp nat_cmp) entries (key n) (words n) → AreInOrder (slice_cmp nat_cmp) entries'
      → AreEntries key words (IsHeld marks n) entries → AreEntries key words (IsHeld marks (n + 1)) entries'
  puts count n entries entries' lt apart marked is order a = record {
    in_order = order;
    each = λ i h.
        let at : look_up (slice_cmp nat_cmp) entries' (key i) ≡ cond (eq_by_cmp (slice_cmp nat_cmp) (key i) (key n)) (Some (words n)) (look_up (slice_cmp nat_cmp) entries (key i)) =
        ap (λ (es : List (List ℕ × List Word)). look_up (slice_cmp nat_cmp) es (key i)) is ∙ look_up_inserted (slice_cmp nat_cmp) nat_list_cmp_total entries (key n) (words n) (key i) in
        at ∙ each_case entries i n (eq_by_cmp (slice_cmp nat_cmp) (key i) (key n))
        (λ e. apart i n (omega (arith, h.0, lt)) lt (same_text (key i) (key n) e)) (λ e. tied (key i) (key n) (ap key e)) (λ below. a.each i (below, h.1)) h.0;
    only = λ k ws h.
        let at : look_up (slice_cmp nat_cmp) entries' k ≡ cond (eq_by_cmp (slice_cmp nat_cmp) k (key n)) (Some (words n)) (look_up (slice_cmp nat_cmp) entries k) =
        ap (λ (es : List (List ℕ × List Word)). look_up (slice_cmp nat_cmp) es k) is ∙ look_up_inserted (slice_cmp nat_cmp) nat_list_cmp_total entries (key n) (words n) k in
        only_case entries k ws n (eq_by_cmp (slice_cmp nat_cmp) k (key n)) (same_text k (key n)) marked a (sym at ∙ h);
  }

  pub ends : (n : ℕ) (entries : List (List ℕ × List Word)) → length marks ≤ n → AreEntries key words (IsHeld marks n) entries → AreEntries key words (λ i. is_marked marks i ≡ true) entries
  ends n entries le a = record {
    in_order = a.in_order;
    each = λ i h. elim (cases_lt i (length marks)) [
      | inl lt ↦ a.each i (omega (arith, lt, le), h)
      | inr past ↦ absurd (false≢true (sym (get_or_past marks i false past) ∙ h))
    ];
    only = λ k ws h. let o = a.only k ws h in (o.0, (o.1.0.1, o.1.1, o.1.2));
  }

-- each answer passes
passing : (P : ℕ → Type 0) (o : Option ℕ) (rest : List ℕ) → ((i : ℕ) → o ≡ Some i → P i) → All P rest → All P (cons_option o rest)
passing P None rest good h = h
passing P (Some i) rest good h = All-cons P i rest (good i refl) h

pub all_found : (P : ℕ → Type 0) (binder : List ℕ → Option ℕ) → ((name : List ℕ) (i : ℕ) → binder name ≡ Some i → P i) → (names : List (List ℕ)) → All P (filter_map binder names)
all_found P binder good [] = All-nil P
all_found P binder good (name ∷ names) = passing P (binder name) (filter_map binder names) (good name) (all_found P binder good names)

-- what one word more refers to
pub referred_next : (binder : List ℕ → Option ℕ) (words : List Word) (i : ℕ) (w : Word) (start now next : List ℕ) → i < length words → w ≡ get_or words i w → now ≡ start ++ referred binder (take i words) → next ≡ now ++ referred binder (w ∷ []) → next ≡ start ++ referred binder (take (i + 1) words)
referred_next binder words i w start now next lt is h k =
    let one : take (i + 1) words ≡ take i words ++ w ∷ [] = take_more words i w lt ∙ ap (λ v. take i words ++ v ∷ []) (sym is) in
    let both : referred binder (take i words ++ w ∷ []) ≡ referred binder (take i words) ++ referred binder (w ∷ []) =
    ap (filter_map binder) (filter_map-append used_name (take i words) (w ∷ [])) ∙ filter_map-append binder (used_in (take i words)) (used_in (w ∷ [])) in
    k ∙ ap (λ xs. xs ++ referred binder (w ∷ [])) h ∙ append_assoc start (referred binder (take i words)) (referred binder (w ∷ []))
    ∙ ap (λ xs. start ++ xs) (sym both) ∙ ap (λ ws. start ++ referred binder ws) (sym one)
