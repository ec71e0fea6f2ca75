-- The test of the least set gives the least set.
use Rattle.std.proofs.Common.{◌≡◌, ◌⊎◌, ℕ, List, [], ◌∷◌, ◌++◌, map, Bool, true, false, true≢false, cond, refl, sym, ap, ◌∙◌, inl, inr, All, arith}
use Rattle.std.specs.Prelude.{not, ◌||◌, ◌==◌, if◌then◌else◌}
use Rattle.std.specs.List.{list_all, filter}
use Rattle.std.proofs.lemmas.Bool.{and_parts, eqb-true}
use Rattle.std.proofs.lemmas.List.Elements.{All-nil, All-cons, All-head, All-tail}
use Rattle.values.specs.Lists.{IsIn}
use Rattle.values.proofs.Members.{in_left, in_right}
use Rattle.wasm_reach.specs.declared.things.Thing.{Thing}
use Rattle.wasm_reach.specs.declared.things.Thing.TheVariants as things
use Rattle.wasm_reach.specs.Reach.{IsLeast}
use Rattle.wasm_reach.specs.Reached.{kind_of, place_of, is_same_thing, has, subsets, is_closed, is_reached}

-- ---- things that are one

thing_of : ℕ → ℕ → Thing
thing_of kind place =
    if kind == 0 then things.Type place else
    if kind == 1 then things.Func place else
    if kind == 2 then things.Table place else
    if kind == 3 then things.Memory place else
    if kind == 4 then things.Global place else
    if kind == 5 then things.Tag place else
    if kind == 6 then things.Elem place else things.Segment place

thing_back : (t : Thing) → thing_of (kind_of t) (place_of t) ≡ t
unfolding thing_of
thing_back (things.Type place) = refl
thing_back (things.Func place) = refl
thing_back (things.Table place) = refl
thing_back (things.Memory place) = refl
thing_back (things.Global place) = refl
thing_back (things.Tag place) = refl
thing_back (things.Elem place) = refl
thing_back (things.Segment place) = refl

eq_self : (n : ℕ) → (n == n) ≡ true
eq_self n = grind arith

same_thing : (a b : Thing) → is_same_thing a b ≡ true → a ≡ b
same_thing a b h =
    let p = and_parts (kind_of a == kind_of b) (place_of a == place_of b) h in
    sym (thing_back a) ∙ ap (λ (k : ℕ). thing_of k (place_of a)) (eqb-true (kind_of a) (kind_of b) p.0)
    ∙ ap (thing_of (kind_of b)) (eqb-true (place_of a) (place_of b) p.1) ∙ thing_back b

thing_self : (t : Thing) → is_same_thing t t ≡ true
thing_self t = rw (eq_self (kind_of t), eq_self (place_of t)) refl

-- ---- members

or_right : (a b : Bool) → b ≡ true → (a || b) ≡ true
or_right true b h = refl
or_right false b h = h

in_case : (t x : Thing) (set : List Thing) (b : Bool) → is_same_thing t x ≡ b → (b || has set t) ≡ true → (has set t ≡ true → IsIn t set) → IsIn t (x ∷ set)
in_case t x set true e h rest = inl (same_thing t x e)
in_case t x set false e h rest = inr (rest h)

pub in_from_has : (t : Thing) (set : List Thing) → has set t ≡ true → IsIn t set
in_from_has t [] h = absurd (true≢false (sym h))
in_from_has t (x ∷ set) h = in_case t x set (is_same_thing t x) refl h (in_from_has t set)

pub has_from_in : (t : Thing) (set : List Thing) → IsIn t set → has set t ≡ true
has_from_in t [] h = absurd h
has_from_in t (x ∷ set) (inl same) = ap (λ (b : Bool). b || has set t) (ap (is_same_thing t) (sym same) ∙ thing_self t)
has_from_in t (x ∷ set) (inr h) = or_right (is_same_thing t x) (has set t) (has_from_in t set h)

module _ {A : Type 0} (p : A → Bool) where
  all_at : (x : A) (xs : List A) → list_all p xs ≡ true → IsIn x xs → p x ≡ true
  all_at x [] h i = absurd i
  all_at x (y ∷ xs) h (inl same) = ap p same ∙ (and_parts (p y) (list_all p xs) h).0
  all_at x (y ∷ xs) h (inr i) = all_at x xs (and_parts (p y) (list_all p xs) h).1 i

  all_by : (xs : List A) → ((x : A) → IsIn x xs → p x ≡ true) → list_all p xs ≡ true
  all_by [] f = refl
  all_by (x ∷ xs) f = rw (f x (inl refl)) (all_by xs (λ y i. f y (inr i)))

  filter_case : (x : A) (xs : List A) (b : Bool) → p x ≡ b → IsIn (filter p xs) (subsets xs) → IsIn (cond b (x ∷ filter p xs) (filter p xs)) (map (λ set. x ∷ set) (subsets xs) ++ subsets xs)
  filter_case x xs true e h = in_left (x ∷ filter p xs) (map (λ set. x ∷ set) (subsets xs)) (subsets xs) (mapped (filter p xs) (subsets xs) h)
    where
      mapped : (set : List A) (sets : List (List A)) → IsIn set sets → IsIn (x ∷ set) (map (λ set. x ∷ set) sets)
      mapped set [] i = absurd i
      mapped set (other ∷ sets) (inl same) = inl (ap (λ (s : List A). x ∷ s) same)
      mapped set (other ∷ sets) (inr i) = inr (mapped set sets i)
  filter_case x xs false e h = in_right (filter p xs) (map (λ set. x ∷ set) (subsets xs)) (subsets xs) h

  -- what passes a test is one of the sets
  filter_in : (xs : List A) → IsIn (filter p xs) (subsets xs)
  unfolding subsets
  filter_in [] = inl refl
  filter_in (x ∷ xs) = filter_case x xs (p x) refl (filter_in xs)

  passes_case : (t x : A) (xs : List A) (b : Bool) → p x ≡ b → IsIn t (cond b (x ∷ filter p xs) (filter p xs)) → (IsIn t (filter p xs) → p t ≡ true) → p t ≡ true
  passes_case t x xs true e (inl same) rest = ap p same ∙ e
  passes_case t x xs true e (inr i) rest = rest i
  passes_case t x xs false e i rest = rest i

  pub passes_filter : (t : A) (xs : List A) → IsIn t (filter p xs) → p t ≡ true
  passes_filter t [] i = absurd i
  passes_filter t (x ∷ xs) i = passes_case t x xs (p x) refl i (passes_filter t xs)

  stays_case : (t x : A) (xs : List A) (b : Bool) → p x ≡ b → p t ≡ true → (t ≡ x) ⊎ IsIn t xs → (IsIn t xs → IsIn t (filter p xs)) → IsIn t (cond b (x ∷ filter p xs) (filter p xs))
  stays_case t x xs true e h (inl same) rest = inl same
  stays_case t x xs true e h (inr i) rest = inr (rest i)
  stays_case t x xs false e h (inl same) rest = absurd (true≢false (sym h ∙ ap p same ∙ e))
  stays_case t x xs false e h (inr i) rest = rest i

  stays : (t : A) (xs : List A) → IsIn t xs → p t ≡ true → IsIn t (filter p xs)
  stays t [] i h = absurd i
  stays t (x ∷ xs) i h = stays_case t x xs (p x) refl h i (λ j. stays t xs j h)

  pub all_in : (x : A) (xs : List A) → All (λ y. p y ≡ true) xs → IsIn x xs → p x ≡ true
  all_in x [] h i = absurd i
  all_in x (y ∷ xs) h (inl same) = ap p same ∙ All-head (λ y. p y ≡ true) y xs h
  all_in x (y ∷ xs) h (inr i) = all_in x xs (All-tail (λ y. p y ≡ true) y xs h) i

  pub all_with : (xs : List A) → ((x : A) → IsIn x xs → p x ≡ true) → All (λ y. p y ≡ true) xs
  all_with [] f = All-nil (λ y. p y ≡ true)
  all_with (x ∷ xs) f = All-cons (λ y. p y ≡ true) x xs (f x (inl refl)) (all_with xs (λ y i. f y (inr i)))

-- ---- the least set

module _ (all : List Thing) (refs : Thing → List Thing) (roots : List Thing) where
  abbrev reached : Thing → Bool
  reached = is_reached all refs roots

  closed_or : (set : List Thing) (t : Thing) (b : Bool) → is_closed refs roots set ≡ b → (not b || has set t) ≡ true → b ≡ true → has set t ≡ true
  closed_or set t true e h now = h
  closed_or set t false e h now = absurd (true≢false (sym now))

  -- what is reached is in each closed set
  in_closed : (set : List Thing) (t : Thing) → IsIn set (subsets all) → is_closed refs roots set ≡ true → reached t ≡ true → has set t ≡ true
  in_closed set t i closed h = closed_or set t (is_closed refs roots set) refl (all_at (λ set. not (is_closed refs roots set) || has set t) set (subsets all) h i) closed

  open_or : (set : List Thing) (t : Thing) (b : Bool) → is_closed refs roots set ≡ b → (b ≡ true → has set t ≡ true) → (not b || has set t) ≡ true
  open_or set t true e f = f refl
  open_or set t false e f = refl

  -- what is in each closed set is reached
  by_closed : (t : Thing) → ((set : List Thing) → IsIn set (subsets all) → is_closed refs roots set ≡ true → has set t ≡ true) → reached t ≡ true
  by_closed t f = all_by (λ set. not (is_closed refs roots set) || has set t) (subsets all) (λ set i. open_or set t (is_closed refs roots set) refl (λ now. f set i now))

  root_reached : (t : Thing) → IsIn t roots → reached t ≡ true
  root_reached t i = by_closed t (λ set s closed. all_at (has set) t roots (and_parts (list_all (has set) roots) (list_all (λ u. list_all (has set) (refs u)) set) closed).0 i)

  ref_reached : (t u : Thing) → reached t ≡ true → IsIn u (refs t) → reached u ≡ true
  ref_reached t u h i = by_closed u (λ set s closed.
      let parts = and_parts (list_all (has set) roots) (list_all (λ v. list_all (has set) (refs v)) set) closed in
      let here : IsIn t set = in_from_has t set (in_closed set t s closed h) in
      all_at (has set) u (refs t) (all_at (λ v. list_all (has set) (refs v)) t set parts.1 here) i)

  -- where the roots and all that is referred to are among these things, what is reached is the least set
  pub reached_least : ((t : Thing) → IsIn t roots → IsIn t all) → ((t u : Thing) → IsIn u (refs t) → IsIn u all) → IsLeast refs roots reached
  reached_least known referred = record {
    roots_in = all_with reached roots root_reached;
    closed = λ t h. all_with reached (refs t) (λ u i. ref_reached t u h i);
    least = λ p r c t h.
        let set = filter p all in
        let closed_roots : list_all (has set) roots ≡ true = all_by (has set) roots (λ x i. has_from_in x set (stays p x all (known x i) (all_in p x roots r i))) in
        let closed_refs : list_all (λ u. list_all (has set) (refs u)) set ≡ true =
        all_by (λ u. list_all (has set) (refs u)) set (λ u i. all_by (has set) (refs u) (λ v j. has_from_in v set (stays p v all (referred u v j) (all_in p v (refs u) (c u (passes_filter p u all i)) j)))) in
        passes_filter p t all (in_from_has t set (in_closed set t (filter_in p all) (rw (closed_roots, closed_refs) refl) h));
  }
