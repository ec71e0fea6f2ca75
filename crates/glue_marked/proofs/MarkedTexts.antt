-- What is in the notation is ASCII, so it is a text; a name that isn't reserved is an identifier.
use Rattle.std.proofs.Common.{◌≡◌, ◌∙◌, ◌∷◌, ◌<◌, ◌==◌, ◌||◌, ◌&&◌, [], List, ℕ, Bool, true, false, not, refl, sym}
use Rattle.std.proofs.Common.{ap, arith, lit<, zero, suc, nat_lt}
use Rattle.std.specs.Prelude.{if◌then◌else◌}
use Rattle.std.specs.List.{list_all}
use Rattle.std.specs.Str.{IsUtf8, IsAscii, chars}
use Rattle.std.specs.Char.{is_ascii_alphabetic}
use Rattle.std.proofs.lemmas.Bool.{true≢false, and_parts}
use Rattle.std.proofs.lemmas.Bool.Decides.{nat_tests, Decides-eqb}
use Rattle.std.proofs.lemmas.Str.{IsUtf8-from_ascii}
use Rattle.glue_words.specs.Ident.{is_ident, is_reserved, has_ident_form}
use Rattle.glue_words.specs.Limits.{is_gap, is_gap_byte, is_template, is_template_rest, is_end, is_brace}
use Rattle.glue_words.proofs.Idents.{ascii_ident, has_ascii_form}
use Rattle.glue_marked.specs.Marked.{is_named, is_name_byte, is_free}

-- bytes that pass a test of ASCII bytes
ascii_all : (test : ℕ → Bool) (bytes : List ℕ) → ((b : ℕ) → test b ≡ true → b < 128) → list_all test bytes ≡ true
    → IsAscii bytes
ascii_all test [] low h i = lit< tt
ascii_all test (b ∷ bs) low h zero = low b (and_parts (test b) (list_all test bs) h).0
ascii_all test (b ∷ bs) low h (suc i) = ascii_all test bs low (and_parts (test b) (list_all test bs) h).1 i

name_low : (b : ℕ) → is_name_byte b ≡ true → b < 128
unfolding is_name_byte
name_low b h = grind (arith, nat_tests)

gap_low : (b : ℕ) → is_gap_byte b ≡ true → b < 128
gap_low b h = grind (arith, nat_tests)

pub first_is_name : (b : ℕ) → ((b == 36 || (b == 95)) || is_ascii_alphabetic b) ≡ true → is_name_byte b ≡ true
unfolding is_name_byte
first_is_name b h = grind (arith, nat_tests)

pub named_text : (name : List ℕ) → is_named name ≡ true → IsUtf8 name
unfolding is_named
named_text [] h = absurd (true≢false (sym h))
named_text (b ∷ bs) h =
    let parts = and_parts ((b == 36 || (b == 95)) || is_ascii_alphabetic b) (list_all is_name_byte bs) h in
    IsUtf8-from_ascii (b ∷ bs)
    (ascii_all is_name_byte (b
    ∷ bs) name_low (ap (λ (x : Bool). x && list_all is_name_byte bs) (first_is_name b parts.0) ∙ parts.1))

pub gap_text : (bytes : List ℕ) → is_gap bytes ≡ true → IsUtf8 bytes
gap_text [] h = absurd (true≢false (sym h))
gap_text (b ∷ bs) h = IsUtf8-from_ascii (b ∷ bs) (ascii_all is_gap_byte (b ∷ bs) gap_low h)

-- a byte of a template
printable : (b : ℕ) → (nat_lt 31 b && nat_lt b 127) ≡ true → b < 128
printable b h = grind (arith, nat_tests)

at_front : (b : ℕ) (bs : List ℕ) → b < 128 → IsAscii bs → IsAscii (b ∷ bs)
at_front b bs low rest zero = low
at_front b bs low rest (suc i) = rest i

end_ascii : (bs : List ℕ) → is_end bs ≡ true → IsAscii bs
end_ascii [] h i = lit< tt
end_ascii (b ∷ bs) h i = absurd (true≢false (sym h))

brace_ascii : (bs : List ℕ) → is_brace bs ≡ true → IsAscii bs
brace_ascii [] h = λ i. lit< tt
brace_ascii (b ∷ bs) h =
    let parts = and_parts (b == 123) (is_end bs) h in
    let e = (Decides-eqb b 123).0 parts.0 in
    at_front b bs (omega arith) (end_ascii bs parts.1)

-- a byte that a piece begins with
opens : (b : ℕ) → (b == 96 || (b == 125)) ≡ true → b < 128
opens b h = grind (arith, nat_tests)

template_rest : (escaped : Bool) (bytes : List ℕ) → is_template_rest escaped bytes ≡ true → IsAscii bytes
template_rest escaped [] h = λ i. lit< tt
template_rest true (b ∷ bs) h =
    let parts = and_parts (b == 110) (is_template_rest false bs) h in
    let e = (Decides-eqb b 110).0 parts.0 in
    at_front b bs (omega arith) (template_rest false bs parts.1)
template_rest false (b ∷ bs) h =
    by_byte (b == 96) (b == 36) (b == 92) (Decides-eqb b 96).0 (Decides-eqb b 36).0 (Decides-eqb b 92).0 h
    (template_rest true bs) (template_rest false bs)
  where
    by_byte :
        (quote dollar slash : Bool) → (quote ≡ true → b ≡ 96) → (dollar ≡ true → b ≡ 36) → (slash ≡ true → b ≡ 92) →
        (if quote then is_end bs else
        (if dollar then is_brace bs else
        (if slash then is_template_rest true bs else ((nat_lt 31 b && nat_lt b 127)
        && is_template_rest false bs)))) ≡ true →
        (is_template_rest true bs ≡ true → IsAscii bs) → (is_template_rest false bs ≡ true → IsAscii bs)
        → IsAscii (b ∷ bs)
    by_byte true dollar slash q d s h after before = let e = q refl in at_front b bs (omega arith) (end_ascii bs h)
    by_byte false true slash q d s h after before = let e = d refl in at_front b bs (omega arith) (brace_ascii bs h)
    by_byte false false true q d s h after before = let e = s refl in at_front b bs (omega arith) (after h)
    by_byte false false false q d s h after before =
        let parts = and_parts (nat_lt 31 b && nat_lt b 127) (is_template_rest false bs) h in
        at_front b bs (printable b parts.0) (before parts.1)

pub template_text : (bytes : List ℕ) → is_template bytes ≡ true → IsUtf8 bytes
template_text [] h = absurd (true≢false (sym h))
template_text (b ∷ bs) h =
    let parts = and_parts (b == 96 || (b == 125)) (is_template_rest false bs) h in
    IsUtf8-from_ascii (b ∷ bs) (at_front b bs (opens b parts.0) (template_rest false bs parts.1))

pub named_ident : (name : List ℕ) → is_named name ≡ true → is_ident name ≡ is_free name
unfolding is_named is_name_byte is_ident is_free
named_ident name h = by_cases (is_reserved name) refl
  where
    by_cases : (r : Bool) → is_reserved name ≡ r → is_ident name ≡ is_free name
    by_cases true e = ap (λ (x : Bool). not x && has_ident_form (chars name)) e ∙ sym (ap not e)
    by_cases false e = ascii_ident name (ap (λ (x : Bool). not x && has_ascii_form name) e ∙ h) ∙ sym (ap not e)

pub ruleset texts = (named_text, gap_text, template_text, named_ident)
