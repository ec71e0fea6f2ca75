-- A literal is read back as its text.
use Rattle.std.proofs.Common.{◌≡◌, ℕ, ◌/◌, ◌%◌, ◌<◌, ◌∷◌, ◌++◌, [], List, Bool, true, false, refl, ap, sym, ◌∙◌, append_assoc, arith, eqb, length, get_or, cond}
use Rattle.std.specs.Prelude.{Option, Some, None, encode_utf8, encode_utf8_all, ◌||◌, not, nat_lt}
use Rattle.std.specs.List.{flat_map}
use Rattle.std.specs.Str.{chars, IsUtf8}
use Rattle.std.specs.Char.{digit_char}
use Rattle.std.proofs.Common.{suc, lit<}
use Rattle.std.proofs.lemmas.List.{append-nil}
use Rattle.std.proofs.lemmas.Bool.Decides.{nat_tests}
use Rattle.std.proofs.lemmas.Str.{encodes-chars, inside_one, encode_ascii, digit_value-digit_char}
use Rattle.glue_words.specs.Literal.{escaped_char, literal, Inside, Escaped, read_next, read_bytes, prepend, read_from, read_literal}

prepend_nil : (x : Option (List ℕ)) → prepend [] x ≡ x
prepend_nil None = refl
prepend_nil (Some x) = refl

prepend_prepend : (xs ys : List ℕ) (x : Option (List ℕ)) → prepend xs (prepend ys x) ≡ prepend (xs ++ ys) x
prepend_prepend xs ys None = refl
prepend_prepend xs ys (Some x) = ap Some (sym (append_assoc xs ys x))

-- a byte that stands for itself in a literal
abbrev is_plain : ℕ → Bool
is_plain b = not ((eqb b 34 || eqb b 92) || (eqb b 10 || eqb b 13))

read_plain_byte : (b : ℕ) (rest : List ℕ) → is_plain b ≡ true → read_from Inside (b ∷ rest) ≡ prepend (b ∷ []) (read_from Inside rest)
read_plain_byte b rest h = grind (arith, nat_tests)

read_plain : (bs rest : List ℕ) → ((k : ℕ) → k < length bs → is_plain (get_or bs k 0) ≡ true) → read_from Inside (bs ++ rest) ≡ prepend bs (read_from Inside rest)
read_plain [] rest h = sym (prepend_nil (read_from Inside rest))
read_plain (b ∷ bs) rest h =
    read_plain_byte b (bs ++ rest) (h 0 (omega arith))
    ∙ ap (prepend (b ∷ [])) (read_plain bs rest (λ k l. h (suc k) (omega arith)))
    ∙ prepend_prepend (b ∷ []) bs (read_from Inside rest)

plain_from_equal : (c b : ℕ) → is_plain c ≡ true → (b < 128 → c ≡ b) → is_plain b ≡ true
plain_from_equal c b p h = grind (arith, nat_tests)

plain_in_encode : (c : ℕ) → is_plain c ≡ true → (k : ℕ) → k < length (encode_utf8 c) → is_plain (get_or (encode_utf8 c) k 0) ≡ true
plain_in_encode c p k h =
    plain_from_equal c (get_or (encode_utf8 c) k 0) p (inside_one c [] (encode_utf8 c) k (sym (append-nil (encode_utf8 c))) h)

read_mark : (b c : ℕ) (rest : List ℕ) → read_next Escaped b ≡ Inside → read_bytes Escaped b ≡ c ∷ [] → c < 128 → read_from Inside (92 ∷ b ∷ rest) ≡ prepend (encode_utf8 c) (read_from Inside rest)
read_mark b c rest n s h =
    rw (encode_ascii c h) (rw (n, s) (prepend_nil (prepend (c ∷ []) (read_from Inside rest))))

by_number : (n c : ℕ) (x : Option (List ℕ)) → n ≡ c → prepend [] (prepend [] (prepend [] (prepend (encode_utf8 n) x))) ≡ prepend (encode_utf8 c) x
by_number n c x e = simp prepend_nil (ap (λ m. prepend (encode_utf8 m) x) e)

read_number : (c : ℕ) (rest : List ℕ) → c < 128 → read_from Inside (92 ∷ 120 ∷ digit_char (c / 16) ∷ digit_char (c % 16) ∷ rest) ≡ prepend (encode_utf8 c) (read_from Inside rest)
read_number c rest h =
    let a = digit_value-digit_char (c / 16) (omega arith) in
    let b = digit_value-digit_char (c % 16) (omega arith) in
    by_number _ c (read_from Inside rest) (omega (arith, a, b))

read_other : (c : ℕ) (rest : List ℕ) → is_plain c ≡ true → read_from Inside (encode_utf8 c ++ rest) ≡ prepend (encode_utf8 c) (read_from Inside rest)
read_other c rest p = read_plain (encode_utf8 c) rest (plain_in_encode c p)

by_test : (P : List ℕ → Type 0) (b : Bool) (xs ys : List ℕ) → (b ≡ true → P xs) → (b ≡ false → P ys) → P (cond b xs ys)
by_test P true xs ys t f = t refl
by_test P false xs ys t f = f refl

equal_from_test : (c n : ℕ) → eqb c n ≡ true → c ≡ n
equal_from_test c n h = grind (arith, nat_tests)

mark_from_test : (c n b : ℕ) (rest : List ℕ) → n < 128 → eqb c n ≡ true → read_next Escaped b ≡ Inside → read_bytes Escaped b ≡ n ∷ [] → read_from Inside (92 ∷ b ∷ rest) ≡ prepend (encode_utf8 c) (read_from Inside rest)
mark_from_test c n b rest low h next bytes =
    read_mark b n rest next bytes low ∙ ap (λ m. prepend (encode_utf8 m) (read_from Inside rest)) (sym (equal_from_test c n h))

-- the `\u` escapes of the two line separators
separator_from_test : (c n d : ℕ) (rest : List ℕ) → eqb c n ≡ true → read_from Inside (92 ∷ 117 ∷ 50 ∷ 48 ∷ 50 ∷ d ∷ rest) ≡ prepend (encode_utf8 n) (read_from Inside rest) → read_from Inside (92 ∷ 117 ∷ 50 ∷ 48 ∷ 50 ∷ d ∷ rest) ≡ prepend (encode_utf8 c) (read_from Inside rest)
separator_from_test c n d rest h e = e ∙ ap (λ m. prepend (encode_utf8 m) (read_from Inside rest)) (sym (equal_from_test c n h))

low_from_test : (c : ℕ) → (nat_lt c 32 || eqb c 127) ≡ true → c < 128
low_from_test c h = grind (arith, nat_tests)

plain_from_tests : (c : ℕ) → eqb c 34 ≡ false → eqb c 92 ≡ false → eqb c 10 ≡ false → eqb c 13 ≡ false → is_plain c ≡ true
plain_from_tests c a b d e = grind (arith, nat_tests)

read_escaped : (c : ℕ) (rest : List ℕ) → read_from Inside (escaped_char c ++ rest) ≡ prepend (encode_utf8 c) (read_from Inside rest)
read_escaped c rest =
    let P : List ℕ → Type 0 = λ xs. read_from Inside (xs ++ rest) ≡ prepend (encode_utf8 c) (read_from Inside rest) in
    by_test P (eqb c 34) _ _ (λ t. mark_from_test c 34 34 rest (lit< tt) t refl refl)
    (λ quote. by_test P (eqb c 92) _ _ (λ t. mark_from_test c 92 92 rest (lit< tt) t refl refl)
    (λ slash. by_test P (eqb c 10) _ _ (λ t. mark_from_test c 10 110 rest (lit< tt) t refl refl)
    (λ feed. by_test P (eqb c 13) _ _ (λ t. mark_from_test c 13 114 rest (lit< tt) t refl refl)
    (λ ret. by_test P (eqb c 0x2028) _ _ (λ t. separator_from_test c 0x2028 56 rest t (simp prepend_nil))
    (λ _. by_test P (eqb c 0x2029) _ _ (λ t. separator_from_test c 0x2029 57 rest t (simp prepend_nil))
    (λ _. by_test P (nat_lt c 32 || eqb c 127) _ _ (λ t. read_number c rest (low_from_test c t))
    (λ _. read_other c rest (plain_from_tests c quote slash feed ret))))))))

read_all : (cs : List ℕ) → read_from Inside (flat_map escaped_char cs ++ 34 ∷ []) ≡ Some (encode_utf8_all cs)
read_all [] = refl
read_all (c ∷ cs) =
    rw append_assoc (read_escaped c (flat_map escaped_char cs ++ 34 ∷ []) ∙ ap (prepend (encode_utf8 c)) (read_all cs))

pub literal_reads : (text : List ℕ) → IsUtf8 text → read_literal (literal text) ≡ Some text
unfolding literal read_literal
literal_reads text u = prepend_nil (read_from Inside (flat_map escaped_char (chars text) ++ 34 ∷ [])) ∙ read_all (chars text) ∙ ap Some (encodes-chars text u)
