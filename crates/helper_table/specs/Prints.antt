-- Printed names tell their stems and numbers.
use Rattle.std.proofs.Common.{◌≡◌, ℕ, ◌<◌, ◌^◌, Bool, true, false, true≢false, List, [], ◌∷◌, ◌++◌, length, drop, refl, sym, ap, ◌∙◌, cond, arith, append-nil}
use Rattle.std.specs.Cmp.Lexicographic.{pointwise}
use Rattle.std.specs.Prelude.{not, nat_eq, Option, Some, None}
use Rattle.std.specs.Char.{is_ascii_digit}
use Rattle.std.specs.Str.{all_ascii_digits}
use Rattle.std.specs.Fmt.{decimal}
use Rattle.std.proofs.lemmas.Bool.{and_parts, eqb-true}
use Rattle.std.proofs.lemmas.Fmt.{decimal_injective, digits_decimal, decimal_nonempty}
use Rattle.std.proofs.lemmas.Str.Parse.{IsNumeralModel, numerals_by_value, tells_all_ascii_digits}
use Rattle.std.specs.Str.Parse.{digits_value}
use Rattle.helper_table.specs.Names.{printed, is_stem}

-- the name without the digits at its end
stem_of : List ℕ → List ℕ
stem_of [] = []
stem_of (c ∷ cs) = cond (all_ascii_digits (c ∷ cs)) [] (c ∷ stem_of cs)

digit_case : (b : Bool) → (b ≡ true → ⊥) → b ≡ false
digit_case true h = absurd (h refl)
digit_case false h = refl

not_is : (b : Bool) → not b ≡ true → b ≡ true → ⊥
not_is true h e = true≢false (sym h)
not_is false h e = true≢false (sym e)

-- a stem with something behind it isn't all digits
mixed : (s ds : List ℕ) → is_stem s ≡ true → all_ascii_digits (s ++ ds) ≡ true → ⊥
mixed [] ds h e = true≢false (sym h)
mixed (c ∷ []) ds h e = not_is (is_ascii_digit c) h (and_parts (is_ascii_digit c) (all_ascii_digits ds) e).0
mixed (c ∷ d ∷ s) ds h e = mixed (d ∷ s) ds h (and_parts (is_ascii_digit c) (all_ascii_digits ((d ∷ s) ++ ds)) e).1

stem_of-digits : (ds : List ℕ) → all_ascii_digits ds ≡ true → stem_of ds ≡ []
unfolding stem_of
stem_of-digits [] h = refl
stem_of-digits (d ∷ ds) h = ap (λ b. cond b [] (d ∷ stem_of ds)) h

stem_of-printed : (s ds : List ℕ) → is_stem s ≡ true → all_ascii_digits ds ≡ true → stem_of (s ++ ds) ≡ s
unfolding stem_of
stem_of-printed [] ds h e = absurd (true≢false (sym h))
stem_of-printed (c ∷ []) ds h e =
    ap (λ b. cond b [] (c ∷ stem_of ds)) (digit_case (all_ascii_digits (c ∷ ds)) (mixed (c ∷ []) ds h)) ∙ ap (λ cs. c ∷ cs) (stem_of-digits ds e)
stem_of-printed (c ∷ d ∷ s) ds h e =
    ap (λ b. cond b [] (c ∷ stem_of ((d ∷ s) ++ ds))) (digit_case (all_ascii_digits (c ∷ ((d ∷ s) ++ ds))) (mixed (c ∷ d ∷ s) ds h)) ∙ ap
    (λ cs. c ∷ cs) (stem_of-printed (d ∷ s) ds h e)

own : IsNumeralModel (λ ds. all_ascii_digits ds ≡ true) (digits_value 10)
own = numerals_by_value (λ ds. all_ascii_digits ds ≡ true) tells_all_ascii_digits

-- the number fits
abbrev pub IsSmall : Option ℕ → Type 0
IsSmall None = Unit {0}
IsSmall (Some n) = n < 2 ^ 64

tail_of : Option ℕ → List ℕ
tail_of None = []
tail_of (Some n) = decimal n

is_tail : (s : List ℕ) (o : Option ℕ) → printed s o ≡ s ++ tail_of o
unfolding tail_of
is_tail s None = sym (append-nil s)
is_tail s (Some n) = refl

tail_digits : (o : Option ℕ) → IsSmall o → all_ascii_digits (tail_of o) ≡ true
unfolding tail_of
tail_digits None h = refl
tail_digits (Some n) h = digits_decimal own n h

tail_apart : (o p : Option ℕ) → IsSmall o → IsSmall p → tail_of o ≡ tail_of p → o ≡ p
unfolding tail_of
tail_apart None None h k e = refl
tail_apart None (Some n) h k e = absurd (omega (arith, ap length e, decimal_nonempty n k))
tail_apart (Some n) None h k e = absurd (omega (arith, ap length e, decimal_nonempty n h))
tail_apart (Some n) (Some m) h k e = ap Some (decimal_injective n m h k e)

pub cancel : (xs ys zs : List ℕ) → xs ++ ys ≡ xs ++ zs → ys ≡ zs
cancel [] ys zs e = e
cancel (x ∷ xs) ys zs e = cancel xs ys zs (ap (drop 1) e)

-- a printed name is read back: it tells its stem and its number
pub printed_apart : (s t : List ℕ) (o p : Option ℕ) → is_stem s ≡ true → is_stem t ≡ true → IsSmall o → IsSmall p → printed s o ≡ printed t p
    → (s ≡ t) × (o ≡ p)
printed_apart s t o p hs ht ho hp e =
    let joined : s ++ tail_of o ≡ t ++ tail_of p = sym (is_tail s o) ∙ e ∙ is_tail t p in
    let stems : s ≡ t = sym (stem_of-printed s (tail_of o) hs (tail_digits o ho)) ∙ ap stem_of joined ∙ stem_of-printed t (tail_of p) ht (tail_digits p hp) in
    (stems, tail_apart o p ho hp (cancel s (tail_of o) (tail_of p) (joined ∙ ap (λ (u : List ℕ). u ++ tail_of p) (sym stems))))

-- ---- texts that are one

eq_self : (n : ℕ) → nat_eq n n ≡ true
eq_self n = grind arith

pub text_self : (xs : List ℕ) → pointwise nat_eq xs xs ≡ true
text_self [] = refl
text_self (x ∷ xs) = rw (eq_self x) (text_self xs)

pub text_same : (xs ys : List ℕ) → pointwise nat_eq xs ys ≡ true → xs ≡ ys
text_same [] [] h = refl
text_same [] (y ∷ ys) h = absurd (true≢false (sym h))
text_same (x ∷ xs) [] h = absurd (true≢false (sym h))
text_same (x ∷ xs) (y ∷ ys) h =
    let p = and_parts (nat_eq x y) (pointwise nat_eq xs ys) h in
    ap (λ z. z ∷ xs) (eqb-true x y p.0) ∙ ap (λ (zs : List ℕ). y ∷ zs) (text_same xs ys p.1)
