-- Marks and the list of what is marked.
use Rattle.std.proofs.Common.{◌≡◌, ℕ, ◌+◌, ◌<◌, ◌≤◌, Bool, true, false, List, [], ◌∷◌, ◌++◌, length, take, get_or, set, refl, sym, ap, subst, ◌∙◌, arith, inl, inr, ◌⊎◌, append_assoc}
use Rattle.std.specs.Prelude.{Contains, replicate}
use Rattle.std.specs.List.{sum_by, filter}
use Rattle.std.proofs.lemmas.Bool.Decides.{eqb_tells}
use Rattle.std.proofs.lemmas.Bool.{false≢true, cases_lt}
use Rattle.std.proofs.lemmas.List.{length-append, get_or-set_other, get_or-set_same, append-nil, get_or_past, get_or-replicate, length-replicate, take_more}
use Rattle.std.proofs.lemmas.List.Folds.{sum_by-replicate}
use Rattle.std.proofs.lemmas.List.Sums.{sum_by-set, count_by-le-length}
use Rattle.std.proofs.lemmas.List.Elements.{All-nil, All-cons, All-append, All-weaker, All-contains_itself, filter-append, Contains-push, Contains-append_left, Contains-append_right}
use Rattle.std.proofs.Math.ListN.{length-set}
use Rattle.wasm_reach.specs.declared.marks.Sizes.{Sizes}
use Rattle.wasm_reach.specs.declared.things.Thing.{Thing}
use Rattle.wasm_reach.specs.declared.things.Thing.TheVariants as things
use Rattle.wasm_reach.specs.Marks.{Rows, is_marked, with_mark, IsWithin, IsCounted, unmarked, room, one, marks_count}
use Rattle.wasm_reach.specs.Found.{Nodes, AreMarked, Adds}

-- ---- one list of marks

told_at : (xs : List Bool) (i j : ℕ) → get_or (set xs j true) i false ≡ true → (i ≡ j) ⊎ (get_or xs i false ≡ true)
told_at xs i j e = elim (eqb_tells i j) [
  | inl p ↦ inl p.1
  | inr p ↦ inr (sym (get_or-set_other xs j i true false p.1) ∙ e)
]

kept_at : (xs : List Bool) (i j : ℕ) → get_or xs i false ≡ true → get_or (set xs j true) i false ≡ true
kept_at xs i j e = elim (eqb_tells i j) [
  | inl p ↦ elim (cases_lt j (length xs)) [
    | inl lt ↦ rw (p.1) (get_or-set_same xs j true false lt)
    | inr le ↦ absurd (false≢true (sym (get_or_past xs i false (omega (arith, p.1, le))) ∙ e))
  ]
  | inr p ↦ get_or-set_other xs j i true false p.1 ∙ e
]

here_at : (xs : List Bool) (j : ℕ) → j < length xs → get_or (set xs j true) j false ≡ true
here_at xs j lt = get_or-set_same xs j true false lt

counted_at : (xs : List Bool) (j : ℕ) → j < length xs → get_or xs j false ≡ false → sum_by one (set xs j true) ≡ sum_by one xs + 1
counted_at xs j lt free = let s : sum_by one (set xs j true) + 0 ≡ sum_by one xs + 1 = rw free at (sum_by-set one xs j true false lt) in omega (arith, s)

few_at : (xs : List Bool) → sum_by one xs ≤ length xs
few_at xs = count_by-le-length (λ b. b) xs

none_at : (n i : ℕ) → get_or (replicate n false) i false ≡ true → ⊥
none_at n i e = elim (cases_lt i n) [
  | inl lt ↦ false≢true (sym (get_or-replicate n i false false lt) ∙ e)
  | inr le ↦ false≢true (sym (get_or_past (replicate n false) i false (omega (arith, le, length-replicate n false))) ∙ e)
]

-- ---- the marks of a module

set_told : (m : Rows) (t u : Thing) → is_marked (with_mark m u) t ≡ true → (t ≡ u) ⊎ (is_marked m t ≡ true)
set_told m (things.Type i) (things.Type j) e = elim (told_at m.types i j e) [ inl p ↦ inl (ap things.Type p) | inr p ↦ inr p ]
set_told m (things.Func i) (things.Func j) e = elim (told_at m.funcs i j e) [ inl p ↦ inl (ap things.Func p) | inr p ↦ inr p ]
set_told m (things.Table i) (things.Table j) e = elim (told_at m.tables i j e) [ inl p ↦ inl (ap things.Table p) | inr p ↦ inr p ]
set_told m (things.Memory i) (things.Memory j) e = elim (told_at m.memories i j e) [ inl p ↦ inl (ap things.Memory p) | inr p ↦ inr p ]
set_told m (things.Global i) (things.Global j) e = elim (told_at m.globals i j e) [ inl p ↦ inl (ap things.Global p) | inr p ↦ inr p ]
set_told m (things.Tag i) (things.Tag j) e = elim (told_at m.tags i j e) [ inl p ↦ inl (ap things.Tag p) | inr p ↦ inr p ]
set_told m (things.Elem i) (things.Elem j) e = elim (told_at m.elems i j e) [ inl p ↦ inl (ap things.Elem p) | inr p ↦ inr p ]
set_told m (things.Segment i) (things.Segment j) e = elim (told_at m.segments i j e) [ inl p ↦ inl (ap things.Segment p) | inr p ↦ inr p ]
set_told m t u e = inr e

set_kept : (m : Rows) (t u : Thing) → is_marked m t ≡ true → is_marked (with_mark m u) t ≡ true
set_kept m (things.Type i) (things.Type j) e = kept_at m.types i j e
set_kept m (things.Func i) (things.Func j) e = kept_at m.funcs i j e
set_kept m (things.Table i) (things.Table j) e = kept_at m.tables i j e
set_kept m (things.Memory i) (things.Memory j) e = kept_at m.memories i j e
set_kept m (things.Global i) (things.Global j) e = kept_at m.globals i j e
set_kept m (things.Tag i) (things.Tag j) e = kept_at m.tags i j e
set_kept m (things.Elem i) (things.Elem j) e = kept_at m.elems i j e
set_kept m (things.Segment i) (things.Segment j) e = kept_at m.segments i j e
set_kept m t u e = e

set_here : (m : Rows) (u : Thing) → IsWithin m u → is_marked (with_mark m u) u ≡ true
set_here m (things.Type j) lt = here_at m.types j lt
set_here m (things.Func j) lt = here_at m.funcs j lt
set_here m (things.Table j) lt = here_at m.tables j lt
set_here m (things.Memory j) lt = here_at m.memories j lt
set_here m (things.Global j) lt = here_at m.globals j lt
set_here m (things.Tag j) lt = here_at m.tags j lt
set_here m (things.Elem j) lt = here_at m.elems j lt
set_here m (things.Segment j) lt = here_at m.segments j lt

set_within : (m : Rows) (t u : Thing) → IsWithin m t → IsWithin (with_mark m u) t
set_within m (things.Type i) (things.Type j) lt = omega (arith, length-set m.types j true)
set_within m (things.Func i) (things.Func j) lt = omega (arith, length-set m.funcs j true)
set_within m (things.Table i) (things.Table j) lt = omega (arith, length-set m.tables j true)
set_within m (things.Memory i) (things.Memory j) lt = omega (arith, length-set m.memories j true)
set_within m (things.Global i) (things.Global j) lt = omega (arith, length-set m.globals j true)
set_within m (things.Tag i) (things.Tag j) lt = omega (arith, length-set m.tags j true)
set_within m (things.Elem i) (things.Elem j) lt = omega (arith, length-set m.elems j true)
set_within m (things.Segment i) (things.Segment j) lt = omega (arith, length-set m.segments j true)
set_within m t u lt = lt

room-set : (m : Rows) (u : Thing) → room (with_mark m u) ≡ room m
unfolding room
room-set m (things.Type j) = omega (arith, length-set m.types j true)
room-set m (things.Func j) = omega (arith, length-set m.funcs j true)
room-set m (things.Table j) = omega (arith, length-set m.tables j true)
room-set m (things.Memory j) = omega (arith, length-set m.memories j true)
room-set m (things.Global j) = omega (arith, length-set m.globals j true)
room-set m (things.Tag j) = omega (arith, length-set m.tags j true)
room-set m (things.Elem j) = omega (arith, length-set m.elems j true)
room-set m (things.Segment j) = omega (arith, length-set m.segments j true)

set_counted : (m : Rows) (u : Thing) → IsWithin m u → is_marked m u ≡ false → marks_count (with_mark m u) ≡ marks_count m + 1
unfolding marks_count
set_counted m (things.Type j) lt free = omega (arith, counted_at m.types j lt free)
set_counted m (things.Func j) lt free = omega (arith, counted_at m.funcs j lt free)
set_counted m (things.Table j) lt free = omega (arith, counted_at m.tables j lt free)
set_counted m (things.Memory j) lt free = omega (arith, counted_at m.memories j lt free)
set_counted m (things.Global j) lt free = omega (arith, counted_at m.globals j lt free)
set_counted m (things.Tag j) lt free = omega (arith, counted_at m.tags j lt free)
set_counted m (things.Elem j) lt free = omega (arith, counted_at m.elems j lt free)
set_counted m (things.Segment j) lt free = omega (arith, counted_at m.segments j lt free)

few_marks : (m : Rows) → marks_count m ≤ room m
unfolding marks_count room
few_marks m = omega (arith, few_at m.types, few_at m.funcs, few_at m.tables, few_at m.memories, few_at m.globals, few_at m.tags, few_at m.elems, few_at m.segments)

unmarked_none : (s : Sizes) (t : Thing) → is_marked (unmarked s) t ≡ true → ⊥
unfolding unmarked
unmarked_none s (things.Type i) e = none_at s.types i e
unmarked_none s (things.Func i) e = none_at s.funcs i e
unmarked_none s (things.Table i) e = none_at s.tables i e
unmarked_none s (things.Memory i) e = none_at s.memories i e
unmarked_none s (things.Global i) e = none_at s.globals i e
unmarked_none s (things.Tag i) e = none_at s.tags i e
unmarked_none s (things.Elem i) e = none_at s.elems i e
unmarked_none s (things.Segment i) e = none_at s.segments i e

unmarked_counted : (s : Sizes) → marks_count (unmarked s) ≡ 0
unfolding unmarked marks_count
unmarked_counted s = omega (arith, sum_by-replicate one s.types false, sum_by-replicate one s.funcs false, sum_by-replicate one s.tables false, sum_by-replicate one s.memories false, sum_by-replicate one s.globals false, sum_by-replicate one s.tags false, sum_by-replicate one s.elems false, sum_by-replicate one s.segments false)

-- ---- what was found

pub few_found : (marks : Rows) (found : List Thing) → AreMarked marks found → length found ≤ room marks
few_found marks found m = omega (arith, m.counted, few_marks marks)

pub marked_none : (s : Sizes) → AreMarked (unmarked s) []
marked_none s = record { counted = unmarked_counted s; told = λ t e. absurd (unmarked_none s t e) }

pub marked_more : (marks : Rows) (found : List Thing) (t : Thing) → AreMarked marks found → IsWithin marks t → is_marked marks t ≡ false → AreMarked (with_mark marks t) (found ++ t ∷ [])
marked_more marks found t m lt free = record {
  counted = omega (arith, set_counted marks t lt free, m.counted, length-append found (t ∷ []));
  told = λ u e. elim (set_told marks u t e) [
    | inl p ↦ subst (λ v. Contains (found ++ t ∷ []) v) (sym p) (Contains-push found t)
    | inr p ↦ Contains-append_left found (t ∷ []) u (m.told u p)
  ];
}

pub adds_none : (old : Nodes) → Adds old old []
adds_none old = record { same_room = refl; within = λ t h. h; kept = λ t h. h; extra = []; grown = sym (append-nil old.found); only = All-nil (Contains []); has = All-nil (λ t. is_marked old.marks t ≡ true) }

pub adds_known : (old : Nodes) (t : Thing) → is_marked old.marks t ≡ true → Adds old old (t ∷ [])
adds_known old t e = record { same_room = refl; within = λ u h. h; kept = λ u h. h; extra = []; grown = sym (append-nil old.found); only = All-nil (Contains (t ∷ [])); has = All-cons (λ u. is_marked old.marks u ≡ true) t [] e (All-nil (λ u. is_marked old.marks u ≡ true)) }

pub adds_new : (old new : Nodes) (t : Thing) → IsWithin old.marks t → new.marks ≡ with_mark old.marks t → new.found ≡ old.found ++ t ∷ [] → Adds old new (t ∷ [])
adds_new old new t lt is grown = record {
  same_room = ap room is ∙ room-set old.marks t;
  within = λ u h. subst (λ m. IsWithin m u) (sym is) (set_within old.marks u t h);
  kept = λ u h. ap (λ m. is_marked m u) is ∙ set_kept old.marks u t h;
  extra = t ∷ [];
  grown = grown;
  only = All-contains_itself (t ∷ []);
  has = All-cons (λ u. is_marked new.marks u ≡ true) t [] (ap (λ m. is_marked m t) is ∙ set_here old.marks t lt) (All-nil (λ u. is_marked new.marks u ≡ true));
}

pub adds_both : (a b c : Nodes) (xs ys : List Thing) → Adds a b xs → Adds b c ys → Adds a c (xs ++ ys)
adds_both a b c xs ys p q = record {
  same_room = q.same_room ∙ p.same_room;
  within = λ t h. q.within t (p.within t h);
  kept = λ t h. q.kept t (p.kept t h);
  extra = p.extra ++ q.extra;
  grown = q.grown ∙ ap (λ zs. zs ++ q.extra) p.grown ∙ append_assoc a.found p.extra q.extra;
  only = All-append (Contains (xs ++ ys)) p.extra q.extra (All-weaker (Contains xs) (Contains (xs ++ ys)) (λ x h. Contains-append_left xs ys x h) p.extra p.only) (All-weaker (Contains ys) (Contains (xs ++ ys)) (λ x h. Contains-append_right xs ys x h) q.extra q.only);
  has = All-append (λ t. is_marked c.marks t ≡ true) xs ys (All-weaker (λ t. is_marked b.marks t ≡ true) (λ t. is_marked c.marks t ≡ true) q.kept xs p.has) q.has;
}

-- one thing more, where it passes the test
pub added_more : (p : Thing → Bool) (things : List Thing) (i : ℕ) (d : Thing) (a b c : Nodes) → i < length things → Adds a b (filter p (take i things)) → Adds b c (filter p (get_or things i d ∷ [])) → Adds a c (filter p (take (i + 1) things))
added_more p things i d a b c lt h k =
    let is : filter p (take (i + 1) things) ≡ filter p (take i things) ++ filter p (get_or things i d ∷ []) = ap (filter p) (take_more things i d lt) ∙ filter-append p (take i things) (get_or things i d ∷ []) in
    subst (λ xs. Adds a c xs) (sym is) (adds_both a b c (filter p (take i things)) (filter p (get_or things i d ∷ [])) h k)

pub unmarked_by : (s : Sizes) (types funcs tables memories globals tags elems segments : List Bool)
    → types ≡ replicate s.types false → funcs ≡ replicate s.funcs false → tables ≡ replicate s.tables false → memories ≡ replicate s.memories false → globals ≡ replicate s.globals false → tags ≡ replicate s.tags false → elems ≡ replicate s.elems false → segments ≡ replicate s.segments false
    → record { types = types; funcs = funcs; tables = tables; memories = memories; globals = globals; tags = tags; elems = elems; segments = segments } ≡ unmarked s
unfolding unmarked
unmarked_by s types funcs tables memories globals tags elems segments a b c d e f g h = rw (a, b, c, d, e, f, g, h) refl

-- the places of marks that were made are those that were counted
pub counted_within : (s : Sizes) (t : Thing) → IsCounted s t → IsWithin (unmarked s) t
unfolding unmarked
counted_within s (things.Type i) lt = omega (arith, length-replicate s.types false)
counted_within s (things.Func i) lt = omega (arith, length-replicate s.funcs false)
counted_within s (things.Table i) lt = omega (arith, length-replicate s.tables false)
counted_within s (things.Memory i) lt = omega (arith, length-replicate s.memories false)
counted_within s (things.Global i) lt = omega (arith, length-replicate s.globals false)
counted_within s (things.Tag i) lt = omega (arith, length-replicate s.tags false)
counted_within s (things.Elem i) lt = omega (arith, length-replicate s.elems false)
counted_within s (things.Segment i) lt = omega (arith, length-replicate s.segments false)
