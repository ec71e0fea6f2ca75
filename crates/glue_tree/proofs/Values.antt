-- What equality of values says, and operators on whole numbers and texts as ECMAScript has them.
use Rattle.std.proofs.Common.{◌≡◌, ℕ, List, [], ◌∷◌, refl, ap, sym, ◌∙◌, Bool, true, false, true≢false, arith}
use Rattle.std.proofs.lemmas.Bool.{and_parts}
use Rattle.std.proofs.lemmas.Bool.Decides.{nat_tests}
use Rattle.std.specs.Prelude.{◌<◌, ◌^◌, ℤ, pos, negsuc, codes, ◌==◌, bit_and, bit_or, bit_xor}
use Rattle.values.specs.Value.{Thing, Helper, OfExport, OfHost, Value, Undefined, Null, Truth, Number, BigInt, Letters, Itself, Object, WithFields, NoFields, is_same_text, is_same_number, is_same_truth, is_same_thing, is_same, is_like, is_less, is_at_most, is_true, type_of, sum_of, difference_of, complement_of, by_bits, shifted_left, shifted_right, shifted_unsigned, unsigned}

-- ---- equality

number_same : (n : ℕ) → (n == n) ≡ true
number_same n = grind (arith, nat_tests)

same_numbers : (m n : ℕ) → (m == n) ≡ true → m ≡ n
same_numbers m n h = grind (arith, nat_tests)

-- a text is the same as itself
pub text_same : (s : List ℕ) → is_same_text s s ≡ true
text_same [] = refl
text_same (x ∷ s) = rw (number_same x) (text_same s)

-- texts that are the same are equal
pub same_texts : (s t : List ℕ) → is_same_text s t ≡ true → s ≡ t
same_texts [] [] h = refl
same_texts [] (y ∷ t) h = absurd (true≢false (sym h))
same_texts (x ∷ s) [] h = absurd (true≢false (sym h))
same_texts (x ∷ s) (y ∷ t) h =
    let parts = and_parts (x == y) (is_same_text s t) h in ap (λ z. z ∷ s) (same_numbers x y parts.0) ∙ ap (λ u. y ∷ u) (same_texts s t parts.1)

-- a thing is the same as itself
pub thing_same : (t : Thing) → is_same_thing t t ≡ true
thing_same (Helper key) = text_same key
thing_same (OfExport name) = text_same name
thing_same (OfHost name) = text_same name

-- things that are the same are equal
pub same_things : (t u : Thing) → is_same_thing t u ≡ true → t ≡ u
same_things (Helper k) (Helper l) h = ap Helper (same_texts k l h)
same_things (OfExport k) (OfExport l) h = ap OfExport (same_texts k l h)
same_things (OfHost k) (OfHost l) h = ap OfHost (same_texts k l h)
same_things t u h = absurd (true≢false (sym h))

-- whole numbers that are the same are equal
pub same_wholes : (m n : ℤ) → is_same_number m n ≡ true → m ≡ n
same_wholes (pos m) (pos n) h = ap pos (same_numbers m n h)
same_wholes (negsuc m) (negsuc n) h = ap negsuc (same_numbers m n h)
same_wholes m n h = absurd (true≢false (sym h))

same_truths : (a b : Bool) → is_same_truth a b ≡ true → a ≡ b
same_truths true true h = refl
same_truths false false h = refl
same_truths true false h = sym h
same_truths false true h = h

-- values that are the same are equal
pub same_values : (v w : Value) → is_same v w ≡ true → v ≡ w
same_values Undefined Undefined h = refl
same_values Null Null h = refl
same_values (Truth a) (Truth b) h = ap Truth (same_truths a b h)
same_values (Number m) (Number n) h = ap Number (same_wholes m n h)
same_values (BigInt m) (BigInt n) h = ap BigInt (same_wholes m n h)
same_values (Letters s) (Letters t) h = ap Letters (same_texts s t h)
same_values (Itself t) (Itself u) h = ap Itself (same_things t u h)
same_values (Object m) (Object n) h = ap Object (same_numbers m n h)
same_values v w h = absurd (true≢false (sym h))

-- ---- whole numbers

-- `n >>> 0` of a number that an i32 has unsigned
pub unsigned_small : (n : ℕ) → n < 2 ^ 32 → unsigned (Number (pos n)) ≡ Number (pos n)
unsigned_small n h = ap (λ m. Number (pos m)) (omega (arith, h))

-- ---- samples

-- `null == undefined`, `null !== undefined`, `1 == 1`, `{} !== {}`
nothing_alike : is_like Null Undefined ≡ true
nothing_alike = refl

nothing_apart : is_same Null Undefined ≡ false
nothing_apart = refl

ones_alike : is_like (Number (pos 1)) (Number (pos 1)) ≡ true
ones_alike = refl

records_apart : is_same (WithFields NoFields) (WithFields NoFields) ≡ false
records_apart = refl

-- `""`, `0` and `0n` are false, `"0"` is true
no_text : is_true (Letters []) ≡ false
no_text = refl

no_number : is_true (Number (pos 0)) ≡ false
no_number = refl

no_big : is_true (BigInt (pos 0)) ≡ false
no_big = refl

some_text : is_true (Letters (codes "0")) ≡ true
some_text = refl

-- `-1 >>> 0` is 4294967295, `~5` is -6, `1 << 31` is -2147483648, `-8 >> 1` is -4
all_bits : unsigned (Number (negsuc 0)) ≡ Number (pos 4294967295)
all_bits = refl

-- `true >>> 0` is 1, `true >>> 1` and `false >>> 0` are 0
truth_as_one : unsigned (Truth true) ≡ Number (pos 1)
truth_as_one = refl

truth_shifted : shifted_unsigned (Truth true) (Number (pos 1)) ≡ Number (pos 0)
truth_shifted = refl

untruth_as_zero : unsigned (Truth false) ≡ Number (pos 0)
untruth_as_zero = refl

complement : complement_of (Number (pos 5)) ≡ Number (negsuc 5)
complement = refl

lowest : shifted_left (Number (pos 1)) (Number (pos 31)) ≡ Number (negsuc 2147483647)
lowest = refl

halved : shifted_right (Number (negsuc 7)) (Number (pos 1)) ≡ Number (negsuc 3)
halved = refl

-- `5 & 3` is 1, `5 | 3` is 7, `5 ^ 3` is 6
both_bits : by_bits bit_and (Number (pos 5)) (Number (pos 3)) ≡ Number (pos 1)
both_bits = refl

either_bit : by_bits bit_or (Number (pos 5)) (Number (pos 3)) ≡ Number (pos 7)
either_bit = refl

one_bit : by_bits bit_xor (Number (pos 5)) (Number (pos 3)) ≡ Number (pos 6)
one_bit = refl

-- `-1 < 0`, `0 <= 0`, `2 - 5` is -3, `"a" + "b"` is "ab", `typeof null` is "object"
below : is_less (Number (negsuc 0)) (Number (pos 0)) ≡ true
below = refl

not_above : is_at_most (Number (pos 0)) (Number (pos 0)) ≡ true
not_above = refl

less : difference_of (Number (pos 2)) (Number (pos 5)) ≡ Number (negsuc 2)
less = refl

both_texts : sum_of (Letters (codes "a")) (Letters (codes "b")) ≡ Letters (codes "ab")
both_texts = refl

kind_of_null : type_of Null ≡ Letters (codes "object")
kind_of_null = refl
