-- Places of entries, and rows of them.
use Rattle.std.proofs.Common.{lt-ltb, le-ltb, ◌≡◌, ◌≢◌, ℕ, suc, ◌+◌, ◌<◌, Bool, true, false, cond, List, [], ◌∷◌, ◌++◌, length, take, get_or, set, Option, Some, None, refl, sym, ap, subst, ◌∙◌, arith, inl, inr, append_assoc}
use Rattle.std.specs.Prelude.{replicate}
use Rattle.std.proofs.lemmas.Bool.{cases_lt}
use Rattle.std.proofs.lemmas.Bool.Decides.{eqb_tells}
use Rattle.std.proofs.lemmas.List.{take_more, append-nil, length-take, get_or-set_other, get_or-set_same, get_or-replicate, length-replicate}
use Rattle.std.proofs.Math.ListN.{length-set}
use Rattle.std.specs.List.{flat_map}
use Rattle.std.proofs.lemmas.List.Concat.{flat_map-append}
use Rattle.std.proofs.lemmas.Option.{slice_get-get_or}
use Rattle.wasm_collect.specs.Reach.{places, passes, is_place, entry_at, entry_of}
use Rattle.wasm_collect.specs.Edges.{with_item, with_row, with_target, AreRows}

module _ {A : Type 0} (test : A → Bool) where
  places-append : (k : ℕ) (xs ys : List (Option A)) → places test k (xs ++ ys) ≡ places test k xs ++ places test (k + length xs) ys
  unfolding places
  places-append k [] ys = let e : k + 0 ≡ k = omega arith in rw e refl
  places-append k (x ∷ xs) ys =
      let e : k + 1 + length xs ≡ k + suc (length xs) = omega arith in
      rw (places-append (k + 1) xs ys, e) (sym (append_assoc (cond (passes test x) (k ∷ []) []) (places test (k + 1) xs) (places test (k + suc (length xs)) ys)))

  one_place : (k : ℕ) (x : Option A) → places test k (x ∷ []) ≡ cond (passes test x) (k ∷ []) []
  unfolding places
  one_place k x = append-nil (cond (passes test x) (k ∷ []) [])

  -- the places among one entry more
  pub places_more : (xs : List (Option A)) (i : ℕ) (d : Option A) → i < length xs → places test 0 (take (i + 1) xs) ≡ places test 0 (take i xs) ++ cond (passes test (get_or xs i d)) (i ∷ []) []
  places_more xs i d lt =
      let e : 0 + length (take i xs) ≡ i = omega (arith, length-take i xs) in
      ap (places test 0) (take_more xs i d lt) ∙ places-append 0 (take i xs) (get_or xs i d ∷ [])
      ∙ ap (λ k. places test 0 (take i xs) ++ places test k (get_or xs i d ∷ [])) e
      ∙ ap (λ ys. places test 0 (take i xs) ++ ys) (one_place i (get_or xs i d))

  pub no_places : places test 0 [] ≡ []
  unfolding places
  no_places = refl

row_told : (rows : List (List ℕ)) (t : Option ℕ) (i j : ℕ) → j < length rows → get_or (with_row rows t i) j [] ≡ get_or rows j [] ++ cond (is_place j t) (i ∷ []) []
row_told rows None i j lt = sym (append-nil (get_or rows j []))
row_told rows (Some r) i j lt = elim (eqb_tells r j) [
  | inl p ↦
      let same : r ≡ j = p.1 in
      let within : r < length rows = omega arith in
      rw (p.0, lt-ltb r (length rows) within) (subst (λ k. get_or (set rows r (get_or rows r [] ++ i ∷ [])) k [] ≡ get_or rows k [] ++ i ∷ []) same (get_or-set_same rows r (get_or rows r [] ++ i ∷ []) [] within))
  | inr p ↦ rw (p.0) (other (p.1) ∙ sym (append-nil (get_or rows j [])))
]
  where
    other : r ≢ j → get_or (with_item rows r i) j [] ≡ get_or rows j []
    other ne = elim (cases_lt r (length rows)) [
      | inl within ↦ rw (lt-ltb r (length rows) within) (get_or-set_other rows r j (get_or rows r [] ++ i ∷ []) [] (λ e. ne (sym e)))
      | inr past ↦ rw (le-ltb r (length rows) past) refl
    ]

row_len : (rows : List (List ℕ)) (t : Option ℕ) (i : ℕ) → length (with_row rows t i) ≡ length rows
row_len rows None i = refl
row_len rows (Some r) i = elim (cases_lt r (length rows)) [
  | inl within ↦ rw (lt-ltb r (length rows) within) (length-set rows r (get_or rows r [] ++ i ∷ []))
  | inr past ↦ rw (le-ltb r (length rows) past) refl
]

target_told : {A : Type 0} (target : A → Option ℕ) (rows : List (List ℕ)) (x : Option A) (i j : ℕ) → j < length rows → get_or (with_target target rows x i) j [] ≡ get_or rows j [] ++ cond (passes (λ y. is_place j (target y)) x) (i ∷ []) []
target_told target rows None i j lt = sym (append-nil (get_or rows j []))
target_told target rows (Some x) i j lt = row_told rows (target x) i j lt

target_len : {A : Type 0} (target : A → Option ℕ) (rows : List (List ℕ)) (x : Option A) (i : ℕ) → length (with_target target rows x i) ≡ length rows
target_len target rows None i = refl
target_len target rows (Some x) i = row_len rows (target x) i

pub rows_none : {A : Type 0} (target : A → Option ℕ) (count : ℕ) (rows : List (List ℕ)) → rows ≡ replicate count [] → AreRows target [] count rows
rows_none target count rows is = record {
  counted = ap length is ∙ length-replicate count [];
  told = λ i lt. ap (λ r. get_or r i []) is ∙ get_or-replicate count i [] [] lt ∙ sym (no_places (λ x. is_place i (target x)));
}

pub rows_more : {A : Type 0} (target : A → Option ℕ) (segments : List (Option A)) (count : ℕ) (i : ℕ) (x : Option A) (old new : List (List ℕ)) → i < length segments → x ≡ get_or segments i x → AreRows target (take i segments) count old → new ≡ with_target target old x i → AreRows target (take (i + 1) segments) count new
rows_more target segments count i x old new lt at a is = record {
  counted = ap length is ∙ target_len target old x i ∙ a.counted;
  told = λ j below.
      let within : j < length old = omega (arith, a.counted) in
      let here : cond (passes (λ y. is_place j (target y)) (get_or segments i x)) (i ∷ []) [] ≡ cond (passes (λ y. is_place j (target y)) x) (i ∷ []) [] = ap (λ y. cond (passes (λ z. is_place j (target z)) y) (i ∷ []) []) (sym at) in
      ap (λ r. get_or r j []) is ∙ target_told target old x i j within
      ∙ ap (λ xs. xs ++ cond (passes (λ y. is_place j (target y)) x) (i ∷ []) []) (a.told j below)
      ∙ sym (places_more (λ y. is_place j (target y)) segments i x lt ∙ ap (λ xs. places (λ y. is_place j (target y)) 0 (take i segments) ++ xs) here);
}

-- ---- what stands at imported places

entry_is : {A : Type 0} (xs : List (Option A)) (i : ℕ) → i < length xs → entry_at xs i ≡ get_or xs i None
entry_is xs i lt = ap entry_of (slice_get-get_or xs i None lt)

one_of : {B : Type 0} (f : ℕ → List B) (i : ℕ) (b : Bool) → flat_map f (cond b (i ∷ []) []) ≡ cond b (f i) []
one_of f i true = append-nil (f i)
one_of f i false = refl

pub imported_none : {A B : Type 0} (f : ℕ → List B) (test : A → Bool) (start : List B) → start ≡ start ++ flat_map f (places test 0 [])
imported_none f test start = sym (ap (λ ps. start ++ flat_map f ps) (no_places test) ∙ append-nil start)

pub imported_more : {A B : Type 0} (f : ℕ → List B) (test : A → Bool) (xs : List (Option A)) (i : ℕ) (start old new : List B) → i < length xs → old ≡ start ++ flat_map f (places test 0 (take i xs)) → new ≡ old ++ cond (passes test (entry_at xs i)) (f i) [] → new ≡ start ++ flat_map f (places test 0 (take (i + 1) xs))
imported_more f test xs i start old new lt before is =
    let front = places test 0 (take i xs) in
    let here : cond (passes test (entry_at xs i)) (f i) [] ≡ flat_map f (cond (passes test (get_or xs i None)) (i ∷ []) []) = ap (λ x. cond (passes test x) (f i) []) (entry_is xs i lt) ∙ sym (one_of f i (passes test (get_or xs i None))) in
    is ∙ ap (λ ys. ys ++ cond (passes test (entry_at xs i)) (f i) []) before ∙ append_assoc start (flat_map f front) (cond (passes test (entry_at xs i)) (f i) [])
    ∙ ap (λ ys. start ++ ys) (ap (λ ys. flat_map f front ++ ys) here ∙ sym (flat_map-append f front (cond (passes test (get_or xs i None)) (i ∷ []) [])) ∙ ap (flat_map f) (sym (places_more test xs i None lt)))
