-- What is said of the entries of a list, at a place and where one is put, pushed or changed, and entries that are all there.
use Rattle.std.proofs.Common.{◌≡◌, ℕ, zero, suc, ◌+◌, ◌<◌, Bool, true, cond, List, [], ◌∷◌, ◌++◌, map, length, Option, Some, None, refl, sym, ap, subst, ◌∙◌, arith, set}
use Rattle.std.specs.Prelude.{slice_get, is_some}
use Rattle.std.specs.List.{AllByRecursion, filter_map, cons_option}
use Rattle.std.specs.Option.{option_map}
use Rattle.std.proofs.lemmas.Bool.{false≢true}
use Rattle.std.proofs.lemmas.List.{map-append, length-map, length-append, length-set}
use Rattle.std.proofs.lemmas.Option.{none-some}
use Rattle.wasm_file_laws.proofs.EachItem.{all_both}
use Rattle.wasm_emission.specs.Emission.{live}
use Rattle.wasm_core.specs.Parsing.{joined}
use Rattle.wasm_collect.specs.Reach.{entry_at, passes, places}
use Rattle.wasm_core_laws.specs.ModuleFits.{IfThere, AllThere}
use Rattle.wasm_core_laws.proofs.Everywhere.{all_map, all_kept}

-- ---- the entry at a place

-- what holds of the entry at a place, where there is one
pub if_there_at : {A : Type 0} (P : A → Type 0) (xs : List (Option A)) (i : ℕ) → AllThere P xs → IfThere P (entry_at xs i)
if_there_at P [] i h = tt
if_there_at P (x ∷ xs) zero h = h.0
if_there_at P (x ∷ xs) (suc i) h = if_there_at P xs i h.1

-- the same where the entry is known
pub there_at : {A : Type 0} (P : A → Type 0) (xs : List (Option A)) (i : ℕ) (x : A) → AllThere P xs → entry_at xs i ≡ Some x → P x
there_at P xs i x h is = subst (IfThere P) is (if_there_at P xs i h)

-- an entry that stands
pub standing : {A : Type 0} (o : Option A) → is_some o ≡ true → (x : A) × (o ≡ Some x)
standing (Some x) h = (x, refl)
standing None h = absurd (false≢true h)

-- where an entry stands there is a place
pub stands_within : {A : Type 0} (xs : List (Option A)) (i : ℕ) → is_some (entry_at xs i) ≡ true → i < length xs
stands_within [] i is = absurd (false≢true is)
stands_within (x ∷ xs) zero is = omega arith
stands_within (x ∷ xs) (suc i) is = let lt = stands_within xs i is in omega (arith, lt)

-- ---- each entry, and entries that are put, pushed or changed

module _ {A : Type 0} where
  -- what is said at each place is said of each entry
  pub there_by : (P : A → Type 0) (xs : List (Option A)) → ((i : ℕ) (x : A) → entry_at xs i ≡ Some x → P x) → AllThere P xs
  there_by P [] h = tt
  there_by P (None ∷ xs) h = (tt, there_by P xs (λ i. h (suc i)))
  there_by P (Some y ∷ xs) h = (h zero y refl, there_by P xs (λ i. h (suc i)))

  -- what follows from what is said of each entry
  pub there_weaker : (P Q : A → Type 0) → ((x : A) → P x → Q x) → (xs : List (Option A)) → AllThere P xs → AllThere Q xs
  there_weaker P Q h xs all = there_by Q xs (λ i x is. h x (there_at P xs i x all is))

  -- with another one at a place
  pub there_set : (P : A → Type 0) (xs : List (Option A)) (i : ℕ) (y : Option A) → IfThere P y → AllThere P xs → AllThere P (set xs i y)
  there_set P [] i y h all = tt
  there_set P (x ∷ xs) zero y h all = (h, all.1)
  there_set P (x ∷ xs) (suc i) y h all = (all.0, there_set P xs i y h all.1)

  -- with one more
  pub there_push : (P : A → Type 0) (xs : List (Option A)) (y : A) → P y → AllThere P xs → AllThere P (xs ++ Some y ∷ [])
  there_push P [] y h all = (h, tt)
  there_push P (x ∷ xs) y h all = (all.0, there_push P xs y h all.1)

  -- the places that held an entry hold one
  pub record HaveStayed (xs ys : List (Option A)) : Type 0 where
    pub same_len : length ys ≡ length xs
    pub stand : (i : ℕ) → is_some (entry_at xs i) ≡ true → is_some (entry_at ys i) ≡ true

  pub stayed_self : (xs : List (Option A)) → HaveStayed xs xs
  stayed_self xs = record { same_len = refl; stand = λ i h. h }

  pub stayed_same : (xs ys : List (Option A)) → ys ≡ xs → HaveStayed xs ys
  stayed_same xs ys same = subst (HaveStayed xs) (sym same) (stayed_self xs)

  -- the entry at a place is changed
  abbrev pub altered : (A → A) → ℕ → List (Option A) → List (Option A)
  altered g i xs = set xs i (option_map g (entry_at xs i))

  -- what a change keeps holds at each place where it held
  pub altered_keeps : (P : Option A → Type 0) (g : A → A) → ((x : A) → P (Some x) → P (Some (g x))) → (xs : List (Option A)) (i j : ℕ) → P (entry_at xs j) → P (entry_at (altered g i xs) j)
  altered_keeps P g keep [] i j h = h
  altered_keeps P g keep (Some x ∷ xs) zero zero h = keep x h
  altered_keeps P g keep (None ∷ xs) zero zero h = h
  altered_keeps P g keep (x ∷ xs) zero (suc j) h = h
  altered_keeps P g keep (x ∷ xs) (suc i) zero h = h
  altered_keeps P g keep (x ∷ xs) (suc i) (suc j) h = altered_keeps P g keep xs i j h

  -- where one entry is changed all stay
  pub altered_stayed : (g : A → A) (i : ℕ) (xs : List (Option A)) → HaveStayed xs (altered g i xs)
  altered_stayed g i xs = record {
    same_len = length-set xs i (option_map g (entry_at xs i));
    stand = altered_keeps (λ o. is_some o ≡ true) g (λ x h. refl) xs i;
  }

  -- what a change keeps holds of each entry where it held
  pub there_altered : (P : A → Type 0) (g : A → A) → ((x : A) → P x → P (g x)) → (i : ℕ) (xs : List (Option A)) → AllThere P xs → AllThere P (altered g i xs)
  there_altered P g keep i [] all = tt
  there_altered P g keep zero (Some x ∷ xs) all = (keep x all.0, all.1)
  there_altered P g keep zero (None ∷ xs) all = all
  there_altered P g keep (suc i) (x ∷ xs) all = (all.0, there_altered P g keep i xs all.1)

-- a change that f does not see leaves what the live entries give
pub live_altered : {A : Type 0} (f : A → Option ℕ) (g : A → A) → ((x : A) → f (g x) ≡ f x) → (i : ℕ) (xs : List (Option A)) → filter_map f (live (altered g i xs)) ≡ filter_map f (live xs)
live_altered f g same i [] = refl
live_altered f g same zero (Some x ∷ xs) = ap (λ o. cons_option o (filter_map f (live xs))) (same x)
live_altered f g same zero (None ∷ xs) = refl
live_altered f g same (suc i) (Some x ∷ xs) = ap (cons_option (f x)) (live_altered f g same i xs)
live_altered f g same (suc i) (None ∷ xs) = live_altered f g same i xs

-- a change that the test does not see leaves the places of those that pass
pub places_altered : {A : Type 0} (test : A → Bool) (g : A → A) → ((x : A) → test (g x) ≡ test x) → (i k : ℕ) (xs : List (Option A)) → places test k (altered g i xs) ≡ places test k xs
unfolding places
places_altered test g same i k [] = refl
places_altered test g same zero k (Some x ∷ xs) = ap (λ b. cond b (k ∷ []) [] ++ places test (k + 1) xs) (same x)
places_altered test g same zero k (None ∷ xs) = refl
places_altered test g same (suc i) k (x ∷ xs) = ap (λ ps. cond (passes test x) (k ∷ []) [] ++ ps) (places_altered test g same i (k + 1) xs)

-- what stands where an entry is dropped stood there, at another place
pub dropped_at : {A : Type 0} (xs : List (Option A)) (i j : ℕ) (y : A) → entry_at (set xs i None) j ≡ Some y → (j ≡ i → ⊥) × (entry_at xs j ≡ Some y)
dropped_at [] i j y is = absurd (none-some y is)
dropped_at (x ∷ xs) zero zero y is = absurd (none-some y is)
dropped_at (x ∷ xs) zero (suc j) y is = ((λ e. absurd (omega (arith, e))), is)
dropped_at (x ∷ xs) (suc i) zero y is = ((λ e. absurd (omega (arith, e))), is)
dropped_at (x ∷ xs) (suc i) (suc j) y is = let r = dropped_at xs i j y is in ((λ e. r.0 (omega (arith, e))), r.1)

-- the other entries are as they were
pub altered_other : {A : Type 0} (g : A → A) (i j : ℕ) (xs : List (Option A)) → (j ≡ i → ⊥) → entry_at (altered g i xs) j ≡ entry_at xs j
altered_other g i j [] ne = refl
altered_other g zero zero (x ∷ xs) ne = absurd (ne refl)
altered_other g zero (suc j) (x ∷ xs) ne = refl
altered_other g (suc i) zero (x ∷ xs) ne = refl
altered_other g (suc i) (suc j) (x ∷ xs) ne = altered_other g i j xs (λ e. ne (ap suc e))

-- ---- entries that are all there

-- of entries that are all there
pub all_some : {A : Type 0} (P : A → Type 0) (xs : List A) → AllByRecursion P xs → AllThere P (map Some xs)
all_some P xs h = all_map (IfThere P) Some xs h

-- imported entries and others
pub all_joined : {A : Type 0} (P : A → Type 0) (xs ys : List A) → AllByRecursion P xs → AllByRecursion P ys → AllThere P (joined xs ys)
all_joined P xs ys h k = all_both (IfThere P) (map Some xs) (map Some ys) (all_some P xs h) (all_some P ys k)

-- what is said of each entry that is there is said of each live one
pub all_live : {A : Type 0} (P : A → Type 0) (xs : List (Option A)) → AllThere P xs → AllByRecursion P (live xs)
all_live P xs h = all_kept P (λ x. x) xs h

-- the live entries are all
pub live_some : {A : Type 0} (xs : List A) → live (map Some xs) ≡ xs
live_some [] = refl
live_some (x ∷ xs) = ap (λ ys. x ∷ ys) (live_some xs)

-- imported entries and others are one list
pub joined_some : {A : Type 0} (xs ys : List A) → joined xs ys ≡ map Some (xs ++ ys)
joined_some xs ys = sym (map-append Some xs ys)

-- the entry at a place
pub entry_some : {A : Type 0} (xs : List A) (i : ℕ) → entry_at (map Some xs) i ≡ slice_get xs i
entry_some [] i = refl
entry_some (x ∷ xs) zero = refl
entry_some (x ∷ xs) (suc i) = entry_some xs i

-- below the length an entry stands
pub some_stands : {A : Type 0} (xs : List A) (i : ℕ) → i < length xs → is_some (entry_at (map Some xs) i) ≡ true
some_stands [] i lt = absurd (omega (arith, lt))
some_stands (x ∷ xs) zero lt = refl
some_stands (x ∷ xs) (suc i) lt = some_stands xs i (omega (arith, lt))

-- how many imported entries and others there are
pub joined_count : {A : Type 0} (xs ys : List A) → length (joined xs ys) ≡ length xs + length ys
joined_count xs ys = length-append (map Some xs) (map Some ys) ∙ ap (λ n. n + length (map Some ys)) (length-map xs Some) ∙ ap (λ n. length xs + n) (length-map ys Some)

-- below that number an entry stands
pub joined_stands : {A : Type 0} (xs ys : List A) (i : ℕ) → i < length xs + length ys → is_some (entry_at (joined xs ys) i) ≡ true
joined_stands xs ys i lt = ap (λ zs. is_some (entry_at zs i)) (joined_some xs ys) ∙ some_stands (xs ++ ys) i (omega (arith, lt, length-append xs ys))
