-- Counting and writing what stands in a file for a module's entries.
use Rattle.std.proofs.Common.{◌≡◌, ℕ, suc, cond, List, [], ◌∷◌, ◌++◌, map, length, take, count_by, Option, Some, None, is_some, refl, sym, ap, ◌∙◌, ◌≤◌}
use Rattle.std.specs.List.{flat_map, filter, filter_map, cons_option}
use Rattle.std.proofs.lemmas.List.{take_all}
use Rattle.std.proofs.lemmas.List.Sums.{length-filter}
use Rattle.wasm_emission.specs.Emission.{live, filed_at, some_bytes}

-- ---- counting

pub kept : {X Y : Type 0} (h : X → Option Y) (xs : List X) → length (filter (λ x. is_some (h x)) xs) ≡ length (filter_map h xs)
kept h [] = refl
kept h (x ∷ xs) = more (h x) x (filter (λ x. is_some (h x)) xs) (filter_map h xs) (kept h xs)
  where
    more : {X Y : Type 0} (o : Option Y) (x : X) (xs : List X) (ys : List Y) → length xs ≡ length ys → length (cond (is_some o) (x ∷ xs) xs) ≡ length (cons_option o ys)
    more (Some y) x xs ys h = ap suc h
    more None x xs ys h = h

pub counted : {X Y : Type 0} (h : X → Option Y) (xs : List X) → count_by (λ x. is_some (h x)) xs ≡ length (filter_map h xs)
counted h xs = sym (length-filter (λ x. is_some (h x)) xs) ∙ kept h xs

-- ---- writing

pub written : {X Y : Type 0} (h : X → Option Y) (spell : Y → List ℕ) (xs : List X) → flat_map (λ x. some_bytes spell (h x)) xs ≡ flat_map spell (filter_map h xs)
written h spell [] = refl
written h spell (x ∷ xs) = more spell (h x) (filter_map h xs) (flat_map (λ x. some_bytes spell (h x)) xs) (written h spell xs)
  where
    more : {Y : Type 0} (spell : Y → List ℕ) (o : Option Y) (ys : List Y) (rest : List ℕ) → rest ≡ flat_map spell ys → some_bytes spell o ++ rest ≡ flat_map spell (cons_option o ys)
    more spell (Some y) ys rest h = ap (λ bs. spell y ++ bs) h
    more spell None ys rest h = h

-- what stands for a list's items is what stands for those that are there
pub live_filed : {X Y : Type 0} (file : X → Option Y) (xs : List (Option X)) → filter_map (filed_at file) xs ≡ filter_map file (live xs)
live_filed file [] = refl
live_filed file (Some x ∷ xs) = ap (cons_option (file x)) (live_filed file xs)
live_filed file (None ∷ xs) = live_filed file xs

-- where something stands for each item
pub all_filed : {X Y : Type 0} (f : X → Y) (xs : List X) → filter_map (λ x. Some (f x)) xs ≡ map f xs
all_filed f [] = refl
all_filed f (x ∷ xs) = ap (λ ys. f x ∷ ys) (all_filed f xs)

pub each_filed : {X : Type 0} (xs : List X) → filter_map (λ x. Some x) xs ≡ xs
each_filed [] = refl
each_filed (x ∷ xs) = ap (λ ys. x ∷ ys) (each_filed xs)

-- ---- what a loop over a list has counted and written when it ends

pub all_counted : {X Y : Type 0} (file : X → Option Y) (xs : List (Option X)) (i n : ℕ) → length xs ≤ i → n ≡ count_by (λ x. is_some (filed_at file x)) (take i xs) → n ≡ length (filter_map file (live xs))
all_counted file xs i n le is = is ∙ ap (count_by (λ x. is_some (filed_at file x))) (take_all i xs le) ∙ counted (filed_at file) xs ∙ ap length (live_filed file xs)

pub all_written : {X Y : Type 0} (file : X → Option Y) (spell : Y → List ℕ) (xs : List (Option X)) (i : ℕ) (old new : List ℕ) → length xs ≤ i → new ≡ old ++ flat_map (λ x. some_bytes spell (filed_at file x)) (take i xs) → new ≡ old ++ flat_map spell (filter_map file (live xs))
all_written file spell xs i old new le is = is ∙ ap (λ ys. old ++ flat_map (λ x. some_bytes spell (filed_at file x)) ys) (take_all i xs le) ∙ ap (λ bs. old ++ bs) (written (filed_at file) spell xs) ∙ ap (λ ys. old ++ flat_map spell ys) (live_filed file xs)
