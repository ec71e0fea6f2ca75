-- Lists without the elements at their ends that pass a test.
use Rattle.std.proofs.Common.{◌≡◌, ℕ, zero, suc, Bool, true, false, cond, List, [], ◌∷◌, ◌++◌, replicate, refl, sym, ap, ◌∙◌, ⊎_elim, arith, length, ◌<◌}
use Rattle.std.proofs.lemmas.Bool.{cases_Bool}

-- without the elements at the start that pass
abbrev pub skip : {X : Type 0} → (X → Bool) → List X → List X
skip p [] = []
skip p (x ∷ xs) = cond (p x) (skip p xs) (x ∷ xs)

-- an element before a list, unless it passes and the list is empty
abbrev pub put : {X : Type 0} → (X → Bool) → X → List X → List X
put p x [] = cond (p x) [] (x ∷ [])
put p x (y ∷ ys) = x ∷ y ∷ ys

-- without the elements at the end that pass
abbrev pub cut : {X : Type 0} → (X → Bool) → List X → List X
cut p [] = []
cut p (x ∷ xs) = put p x (cut p xs)

abbrev pub strip : {X : Type 0} → (X → Bool) → List X → List X
strip p xs = cut p (skip p xs)

-- each element has a property
abbrev pub Holds : {X : Type 0} → (X → Type 0) → List X → Type 0
Holds P [] = Unit {0}
Holds P (x ∷ xs) = P x × Holds P xs

abbrev pub rest : {X : Type 0} → List X → List X
rest [] = []
rest (x ∷ xs) = xs

pub skip_yes : {X : Type 0} (p : X → Bool) (x : X) (xs : List X) → p x ≡ true → skip p (x ∷ xs) ≡ skip p xs
skip_yes p x xs h = ap (λ b. cond b (skip p xs) (x ∷ xs)) h

pub skip_no : {X : Type 0} (p : X → Bool) (x : X) (xs : List X) → p x ≡ false → skip p (x ∷ xs) ≡ x ∷ xs
skip_no p x xs h = ap (λ b. cond b (skip p xs) (x ∷ xs)) h

pub put_no : {X : Type 0} (p : X → Bool) (x : X) (ys : List X) → p x ≡ false → put p x ys ≡ x ∷ ys
put_no p x [] h = ap (λ b. cond b [] (x ∷ [])) h
put_no p x (y ∷ ys) h = refl

pub put_some : {X : Type 0} (p : X → Bool) (x : X) (ys : List X) → 0 < length ys → put p x ys ≡ x ∷ ys
put_some p x [] h = absurd (omega (arith, h))
put_some p x (y ∷ ys) h = refl

pub put_none : {X : Type 0} (p : X → Bool) (x : X) → p x ≡ true → put p x [] ≡ []
put_none p x h = ap (λ b. cond b [] (x ∷ [])) h

skip-put : {X : Type 0} (p : X → Bool) (x : X) (ys : List X) → p x ≡ true → skip p (put p x ys) ≡ skip p ys
skip-put p x [] h = ap (skip p) (put_none p x h)
skip-put p x (y ∷ ys) h = skip_yes p x (y ∷ ys) h

-- the two ends are independent
pub skip-cut : {X : Type 0} (p : X → Bool) (xs : List X) → skip p (cut p xs) ≡ cut p (skip p xs)
skip-cut p [] = refl
skip-cut p (x ∷ xs) = ⊎_elim
    (λ h. skip-put p x (cut p xs) h ∙ skip-cut p xs ∙ sym (ap (cut p) (skip_yes p x xs h)))
    (λ h. ap (skip p) (put_no p x (cut p xs) h) ∙ skip_no p x (cut p xs) h ∙ sym (put_no p x (cut p xs) h) ∙ sym (ap (cut p) (skip_no p x xs h)))
    (cases_Bool (p x))

pub skip-skip : {X : Type 0} (p : X → Bool) (xs : List X) → skip p (skip p xs) ≡ skip p xs
skip-skip p [] = refl
skip-skip p (x ∷ xs) = ⊎_elim
    (λ h. ap (skip p) (skip_yes p x xs h) ∙ skip-skip p xs ∙ sym (skip_yes p x xs h))
    (λ h. ap (skip p) (skip_no p x xs h))
    (cases_Bool (p x))

cut-put : {X : Type 0} (p : X → Bool) (x : X) (ys : List X) → cut p (put p x ys) ≡ put p x (cut p ys)
cut-put p x [] = ⊎_elim
    (λ h. ap (cut p) (put_none p x h) ∙ sym (put_none p x h))
    (λ h. ap (cut p) (put_no p x [] h))
    (cases_Bool (p x))
cut-put p x (y ∷ ys) = refl

pub cut-cut : {X : Type 0} (p : X → Bool) (xs : List X) → cut p (cut p xs) ≡ cut p xs
cut-cut p [] = refl
cut-cut p (x ∷ xs) = cut-put p x (cut p xs) ∙ ap (put p x) (cut-cut p xs)

pub strip-strip : {X : Type 0} (p : X → Bool) (xs : List X) → strip p (strip p xs) ≡ strip p xs
strip-strip p xs = ap (cut p) (skip-cut p (skip p xs)) ∙ cut-cut p (skip p (skip p xs)) ∙ ap (cut p) (skip-skip p xs)

-- the first element that is left doesn't pass
pub skip_head : {X : Type 0} (p : X → Bool) (xs : List X) (x : X) (ys : List X) → skip p xs ≡ x ∷ ys → p x ≡ false
skip_head p [] x ys e = absurd cc
skip_head p (w ∷ ws) x ys e = ⊎_elim
    (λ h. skip_head p ws x ys (sym (skip_yes p w ws h) ∙ e))
    (λ h. same_head p w x ws ys (sym (skip_no p w ws h) ∙ e) h)
    (cases_Bool (p w))
  where
    same_head : {X : Type 0} (p : X → Bool) (w x : X) (ws ys : List X) → w ∷ ws ≡ x ∷ ys → p w ≡ false → p x ≡ false
    same_head p w x ws ys e h = grind arith

cut_last : {X : Type 0} (p : X → Bool) (xs : List X) (w : X) → p w ≡ true → cut p (xs ++ w ∷ []) ≡ cut p xs
cut_last p [] w h = put_none p w h
cut_last p (x ∷ xs) w h = ap (put p x) (cut_last p xs w h)

pub strip_last : {X : Type 0} (p : X → Bool) (xs : List X) (w : X) → p w ≡ true → strip p (xs ++ w ∷ []) ≡ strip p xs
strip_last p xs w h = sym (skip-cut p (xs ++ w ∷ [])) ∙ ap (skip p) (cut_last p xs w h) ∙ skip-cut p xs

pub strip_front : {X : Type 0} (p : X → Bool) (w : X) (xs : List X) → p w ≡ true → strip p (w ∷ xs) ≡ strip p xs
strip_front p w xs h = ap (cut p) (skip_yes p w xs h)

pub strip_many : {X : Type 0} (p : X → Bool) (n : ℕ) (w : X) (xs : List X) → p w ≡ true → strip p (replicate n w ++ xs) ≡ strip p xs
strip_many p zero w xs h = refl
strip_many p (suc n) w xs h = strip_front p w (replicate n w ++ xs) h ∙ strip_many p n w xs h

pub Holds-skip : {X : Type 0} (P : X → Type 0) (p : X → Bool) (xs : List X) → Holds P xs → Holds P (skip p xs)
Holds-skip P p [] h = tt
Holds-skip P p (x ∷ xs) h = elim (p x) as (λ b. Holds P (cond b (skip p xs) (x ∷ xs))) [ true ↦ Holds-skip P p xs h.1 | false ↦ h ]

Holds-put : {X : Type 0} (P : X → Type 0) (p : X → Bool) (x : X) (ys : List X) → P x → Holds P ys → Holds P (put p x ys)
Holds-put P p x [] a h = elim (p x) as (λ b. Holds P (cond b [] (x ∷ []))) [ true ↦ tt | false ↦ (a, tt) ]
Holds-put P p x (y ∷ ys) a h = (a, h)

pub Holds-cut : {X : Type 0} (P : X → Type 0) (p : X → Bool) (xs : List X) → Holds P xs → Holds P (cut p xs)
Holds-cut P p [] h = tt
Holds-cut P p (x ∷ xs) h = Holds-put P p x (cut p xs) h.0 (Holds-cut P p xs h.1)

pub Holds-strip : {X : Type 0} (P : X → Type 0) (p : X → Bool) (xs : List X) → Holds P xs → Holds P (strip p xs)
Holds-strip P p xs h = Holds-cut P p (skip p xs) (Holds-skip P p xs h)
