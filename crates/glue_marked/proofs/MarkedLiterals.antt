-- Reading a text literal.
use Rattle.std.proofs.Common.{◌≡◌, ◌∙◌, ◌∷◌, ◌++◌, ◌<◌, ◌≤◌, ◌+◌, ◌/◌, ◌%◌, suc, [], List, ℕ, true, false, length}
use Rattle.std.proofs.Common.{drop, get_or, refl, sym, ap, arith, append_assoc, add-one, drop-cons}
use Rattle.std.specs.Prelude.{Option, Some, None, encode_utf8}
use Rattle.std.specs.Str.{IsUtf8, is_utf8, bytes_eq}
use Rattle.std.proofs.lemmas.List.{drop_all}
use Rattle.std.proofs.lemmas.Bool.{lt-ltb, le-ltb}
use Rattle.std.proofs.lemmas.Str.{is_utf8-from_IsUtf8}
use Rattle.std.proofs.lemmas.Slice.Eq.{bytes_eq-Decides}
use lib.Utf8.{encode}
use Rattle.glue_words.specs.Literal.{Reading, Start, Inside, Escaped, Digits, Done, Bad, read_next, read_bytes}
use Rattle.glue_words.specs.Literal.{prepend, read_from, read_literal, literal}
use Rattle.glue_words.specs.declared.word.Word.TheVariants.{Text}
use Rattle.glue_marked.specs.Marked.{text_word, text_if}

-- ---- codes

pub two_bytes : (c : ℕ) → 128 ≤ c → c < 2048 → encode_utf8 c ≡ (192 + c / 64) ∷ (128 + c % 64) ∷ []
unfolding encode
two_bytes c h k = rw (le-ltb c 128 h, lt-ltb c 2048 k, encode) refl

pub three_bytes : (c : ℕ) → 2048 ≤ c → c < 65536
    → encode_utf8 c ≡ (224 + c / 4096) ∷ (128 + c / 64 % 64) ∷ (128 + c % 64) ∷ []
unfolding encode
three_bytes c h k = let g : 128 ≤ c = omega arith in rw (le-ltb c 128 g, le-ltb c 2048 h, lt-ltb c 65536 k, encode) refl

pub four_bytes : (c : ℕ) → 65536 ≤ c
    → encode_utf8 c ≡ (240 + c / 262144) ∷ (128 + c / 4096 % 64) ∷ (128 + c / 64 % 64) ∷ (128 + c % 64) ∷ []
unfolding encode
four_bytes c h =
    let g : 128 ≤ c = omega arith in let k : 2048 ≤ c = omega arith in rw (
      le-ltb c 128 g,
      le-ltb c 2048 k,
      le-ltb c 65536 h,
      encode,
    ) refl

pub ruleset codes = (two_bytes, three_bytes, four_bytes)

-- ---- steps

pub prepend_nil : (x : Option (List ℕ)) → prepend [] x ≡ x
prepend_nil None = refl
prepend_nil (Some x) = refl

prepend_prepend : (xs ys : List ℕ) (x : Option (List ℕ)) → prepend (xs ++ ys) x ≡ prepend xs (prepend ys x)
prepend_prepend xs ys None = refl
prepend_prepend xs ys (Some x) = ap Some (append_assoc xs ys x)

read_cons : (at : Reading) (b : ℕ) (rest : List ℕ)
    → read_from at (b ∷ rest) ≡ prepend (read_bytes at b) (read_from (read_next at b) rest)
read_cons Start b rest = refl
read_cons Inside b rest = refl
read_cons Escaped b rest = refl
read_cons (Digits left value) b rest = refl
read_cons Done b rest = refl
read_cons Bad b rest = refl

-- a byte more
pub read_more : (out : List ℕ) (at : Reading) (bytes : List ℕ) (i : ℕ) → i < length bytes →
    prepend out (read_from at (drop i bytes))
    ≡ prepend (out ++ read_bytes at (get_or bytes i 0))
    (read_from (read_next at (get_or bytes i 0)) (drop (i + 1) bytes))
read_more out at bytes i h =
    rw (add-one, drop-cons bytes i 0)
    (ap (prepend out) (read_cons at (get_or bytes i 0) (drop (suc i) bytes))
    ∙ sym (prepend_prepend out (read_bytes at (get_or bytes i 0))
    (read_from (read_next at (get_or bytes i 0)) (drop (suc i) bytes))))

-- no byte more
pub read_end : (at : Reading) (bytes : List ℕ) (i : ℕ) → length bytes ≤ i
    → read_from at (drop i bytes) ≡ read_from at []
read_end at bytes i h = rw (drop_all i bytes h) refl

pub ruleset steps = (read_more, read_end)

-- ---- the word

pub text_none : (front : List ℕ) → read_literal front ≡ None → text_word front ≡ None
unfolding text_word
text_none front e = rw (e, text_word) refl

text_some : (front text : List ℕ) → read_literal front ≡ Some text → text_word front ≡ text_if text front
unfolding text_word
text_some front text e = rw (e, text_word) refl

pub text_no : (front text : List ℕ) → read_literal front ≡ Some text → is_utf8 text ≡ false → text_word front ≡ None
unfolding text_if
text_no front text e h = text_some front text e ∙ rw (h, text_if) refl

pub text_found : (front text : List ℕ) → read_literal front ≡ Some text → IsUtf8 text
    → bytes_eq (literal text) front ≡ true → text_word front ≡ Some (Text text)
unfolding text_if
text_found front text e u t = text_some front text e ∙ rw (is_utf8-from_IsUtf8 text u, t, text_if) refl

pub text_other : (front text : List ℕ) → read_literal front ≡ Some text → IsUtf8 text
    → bytes_eq (literal text) front ≡ false → text_word front ≡ None
unfolding text_if
text_other front text e u t = text_some front text e ∙ rw (is_utf8-from_IsUtf8 text u, t, text_if) refl

-- the literal that is written for a text is read as it, where its bytes are
pub literal_found : (text : List ℕ) → read_literal (literal text) ≡ Some text → IsUtf8 text
    → text_word (literal text) ≡ Some (Text text)
literal_found text e u = text_found (literal text) text e u ((bytes_eq-Decides (literal text) (literal text)).1 refl)
