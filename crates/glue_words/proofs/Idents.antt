-- Which names are identifiers: names that were made so, and names with a number.
use Rattle.std.proofs.Common.{◌≡◌, ℕ, zero, suc, length, get_or, ◌<◌, ◌/◌, ◌%◌, List, ◌∷◌, [], ◌++◌, refl, sym, ap, ◌∙◌, subst, true, false, Bool, cond, true≢false, arith, inl, inr, ◌⊎◌}
use lib.Utf8.{scalar, scalars, encode}
use Rattle.std.specs.Prelude.{◌||◌, ◌&&◌, ◌==◌, not, nat_lt, nat_le, map, encode_utf8_all, encode_utf8, nat_eq}
use Rattle.std.specs.List.{list_all, list_any}
use Rattle.std.specs.Str.{chars, IsUtf8}
use Rattle.std.specs.Char.{is_ascii_alphabetic, is_ascii_alphanumeric}
use Rattle.std.specs.Fmt.{decimal, digits, digits_onto, digit_glyph}
use Rattle.std.specs.Cmp.Lexicographic.{pointwise}
use Rattle.std.proofs.lemmas.Bool.{and_parts, cases_lt}
use Rattle.std.proofs.lemmas.List.{append-nil}
use Rattle.std.proofs.lemmas.Bool.Decides.{nat_tests}
use Rattle.std.proofs.lemmas.List.Folds.{list_all-append}
use Rattle.std.proofs.lemmas.Slice.Eq.{bytes_eq-Decides}
use Rattle.std.proofs.lemmas.Str.{chars-encodes, encodes-chars, inside_one, encode_ascii, encodes-append}
use Rattle.unicode_ident.specs.Ident.{is_xid_start, is_xid_continue}
use Rattle.unicode_ident.proofs.Computing.{unicode_ident}
use Rattle.unicode_ident.proofs.IdentLemmas.{is_xid_start-ascii, is_xid_continue-ascii, is_xid_start-is_xid_continue}
use Rattle.ucd_table.specs.Rows.{Range, in_ranges}
use Rattle.ucd_table.proofs.Stepped.{of_ranges, zip_stepped}
use Rattle.ucd_table.proofs.Facts.{Stepped-everywhere}
use Rattle.ucd_derived.proofs.BinaryLemmas.{is_xid_continue_stepped}
use Rattle.glue_words.specs.declared.ident.TheConstants.{RESERVED}
use Rattle.glue_words.specs.Ident.{is_reserved, is_first, is_rest, has_ident_form, is_ident, kept_char, cleaned_name, to_ident}
use Rattle.glue_words.specs.Limits.{first_passes, last_passes, are_ident_chars, is_prop}
use Rattle.glue_words.specs.Spacing.{is_ident_byte}
use Rattle.glue_words.specs.Ident.{numbered}

-- ---- characters of identifiers are scalar values

scalar_ranges : List Range
scalar_ranges = (0, 0xD7FF) ∷ (0xE000, 0x10FFFF) ∷ []

continue_in_ranges : (c : ℕ) → is_xid_continue c ≡ true → in_ranges scalar_ranges c ≡ true
unfolding unicode_ident scalar_ranges
continue_in_ranges c h =
    let both = zip_stepped (λ a b. not a || b) is_xid_continue (in_ranges scalar_ranges) is_xid_continue_stepped (of_ranges scalar_ranges refl) in
    subst (λ a. (not a || in_ranges scalar_ranges c) ≡ true) h (Stepped-everywhere _ both refl c)

scalar_in_ranges : (c : ℕ) → in_ranges scalar_ranges c ≡ true → scalar c ≡ true
unfolding scalar_ranges in_ranges
scalar_in_ranges c h = grind (arith, nat_tests)

scalar_kept : (ch : ℕ) (dollar line continue : Bool) → (ch == 36) ≡ dollar → (ch == 95) ≡ line → is_xid_continue ch ≡ continue → scalar (cond ((dollar || line) || continue) ch 95) ≡ true
scalar_kept ch true line continue d l c = grind (arith, nat_tests)
scalar_kept ch false true continue d l c = grind (arith, nat_tests)
scalar_kept ch false false true d l c = scalar_in_ranges ch (continue_in_ranges ch c)
scalar_kept ch false false false d l c = refl

scalars_kept : (cs : List ℕ) → scalars (map kept_char cs) ≡ true
scalars_kept [] = refl
scalars_kept (c ∷ cs) =
    ap (λ b. b && scalars (map kept_char cs)) (scalar_kept c (c == 36) (c == 95) (is_xid_continue c) refl refl refl) ∙ scalars_kept cs

-- ---- a name that was made an identifier is one

kept_either : (ch : ℕ) (b : Bool) → is_rest ch ≡ b → is_rest (cond b ch 95) ≡ true
kept_either ch true h = h
kept_either ch false h = refl

rest_kept : (cs : List ℕ) → list_all is_rest (map kept_char cs) ≡ true
rest_kept [] = refl
rest_kept (c ∷ cs) = ap (λ b. b && list_all is_rest (map kept_char cs)) (kept_either c (is_rest c) refl) ∙ rest_kept cs

chars_underscored : (name : List ℕ) → chars (95 ∷ cleaned_name name) ≡ 95 ∷ map kept_char (chars name)
unfolding cleaned_name encode
chars_underscored name = chars-encodes (95 ∷ map kept_char (chars name)) (scalars_kept (chars name))

pub underscored_ident : (name : List ℕ) → is_ident (95 ∷ cleaned_name name) ≡ true
unfolding is_ident
underscored_ident name = ap has_ident_form (chars_underscored name) ∙ rest_kept (chars name)

either_ident : (name : List ℕ) (b : Bool) → is_ident (cleaned_name name) ≡ b → is_ident (cond b (cleaned_name name) (95 ∷ cleaned_name name)) ≡ true
either_ident name true e = e
either_ident name false e = underscored_ident name

-- the name that is made of any bytes is an identifier
pub made_ident : (name : List ℕ) → is_ident (to_ident name) ≡ true
unfolding to_ident
made_ident name = either_ident name (is_ident (cleaned_name name)) refl

either_text : (name : List ℕ) (b : Bool) → IsUtf8 (cond b (cleaned_name name) (95 ∷ cleaned_name name))
unfolding cleaned_name encode
either_text name true = (map kept_char (chars name), (scalars_kept (chars name), refl))
either_text name false = (95 ∷ map kept_char (chars name), (scalars_kept (chars name), refl))

-- and it is a text
pub made_text : (name : List ℕ) → IsUtf8 (to_ident name)
unfolding to_ident
made_text name = either_text name (is_ident (cleaned_name name))

-- ---- an identifier followed by a number is one

is_digit : ℕ → Bool
is_digit b = nat_lt 47 b && nat_lt b 58

cond_passes : {X : Type 0} (P : X → Type 0) (b : Bool) (x y : X) → P x → P y → P (cond b x y)
cond_passes P true x y h k = h
cond_passes P false x y h k = k

glyph_digit : (n : ℕ) → is_digit (digit_glyph false (n % 10)) ≡ true
unfolding is_digit
glyph_digit n = grind (arith, nat_tests)

onto_digits : (k n : ℕ) (acc : List ℕ) → list_all is_digit acc ≡ true → list_all is_digit (digits_onto k 10 false n acc) ≡ true
onto_digits zero n acc h = h
onto_digits (suc k) n acc h =
    let more : list_all is_digit (digit_glyph false (n % 10) ∷ acc) ≡ true = ap (λ b. b && list_all is_digit acc) (glyph_digit n) ∙ h in
    cond_passes (λ ds. list_all is_digit ds ≡ true) (n / 10 == 0) _ _ more (onto_digits k (n / 10) (digit_glyph false (n % 10) ∷ acc) more)

all_digits : (n : ℕ) → list_all is_digit (decimal n) ≡ true
unfolding digits
all_digits n = onto_digits 64 n [] refl

first_any : (d : ℕ) (ds : List ℕ) → is_digit d ≡ true → list_any is_digit (d ∷ ds) ≡ true
first_any d ds h = ap (λ b. b || list_any is_digit ds) h

or_true : (a b : Bool) → b ≡ true → (a || b) ≡ true
or_true true b h = refl
or_true false b h = h

onto_some : (k n : ℕ) (acc : List ℕ) → list_any is_digit acc ≡ true → list_any is_digit (digits_onto k 10 false n acc) ≡ true
onto_some zero n acc h = h
onto_some (suc k) n acc h =
    let more = first_any (digit_glyph false (n % 10)) acc (glyph_digit n) in
    cond_passes (λ ds. list_any is_digit ds ≡ true) (n / 10 == 0) _ _ more (onto_some k (n / 10) (digit_glyph false (n % 10) ∷ acc) more)

some_onto : (k n : ℕ) → list_any is_digit (digits_onto (suc k) 10 false n []) ≡ true
some_onto k n =
    let more = first_any (digit_glyph false (n % 10)) [] (glyph_digit n) in
    cond_passes (λ ds. list_any is_digit ds ≡ true) (n / 10 == 0) _ _ more (onto_some k (n / 10) (digit_glyph false (n % 10) ∷ []) more)

some_digit : (n : ℕ) → list_any is_digit (decimal n) ≡ true
unfolding digits
some_digit n = some_onto 63 n

any_right : (xs ys : List ℕ) → list_any is_digit ys ≡ true → list_any is_digit (xs ++ ys) ≡ true
any_right [] ys h = h
any_right (x ∷ xs) ys h = or_true (is_digit x) (list_any is_digit (xs ++ ys)) (any_right xs ys h)

false_by : (b : Bool) → (b ≡ true → ⊥) → b ≡ false
false_by true h = absurd (h refl)
false_by false h = refl

not_true : (b : Bool) → not b ≡ true → b ≡ true → ⊥
not_true true h k = true≢false (sym h)
not_true false h k = true≢false (sym k)

-- a name with a digit is none of some words without digits
none_with_digit : {X : Type 0} (word : X → List ℕ) (xs : List X) (name : List ℕ) → list_all (λ x. not (list_any is_digit (word x))) xs ≡ true → list_any is_digit name ≡ true → list_any (λ x. pointwise nat_eq (word x) name) xs ≡ false
none_with_digit word [] name h some = refl
none_with_digit word (x ∷ xs) name h some =
    let parts = and_parts (not (list_any is_digit (word x))) (list_all (λ y. not (list_any is_digit (word y))) xs) h in
    let differs : pointwise nat_eq (word x) name ≡ false =
    false_by _ (λ same. not_true _ parts.0 (ap (list_any is_digit) ((bytes_eq-Decides (word x) name).0 same) ∙ some)) in
    ap (λ b. b || list_any (λ y. pointwise nat_eq (word y) name) xs) differs ∙ none_with_digit word xs name parts.1 some

numbered_free : (name : List ℕ) (n : ℕ) → is_reserved (numbered name n) ≡ false
unfolding is_digit
numbered_free name n = none_with_digit (λ word. word.now) RESERVED (numbered name n) refl (any_right name (decimal n) (some_digit n))

digit_rest : (b : ℕ) → is_digit b ≡ true → is_rest b ≡ true
unfolding is_digit
digit_rest b h =
    let low : b < 128 = grind (arith, nat_tests) in
    let alike = is_xid_continue-ascii b low in
    let named : (is_ascii_alphanumeric b || (b == 95)) ≡ true = grind (arith, nat_tests) in
    or_true (b == 36 || (b == 95)) (is_xid_continue b) (alike ∙ named)

digits_rest : (ds : List ℕ) → list_all is_digit ds ≡ true → list_all is_rest ds ≡ true
digits_rest [] h = refl
digits_rest (d ∷ ds) h =
    let parts = and_parts (is_digit d) (list_all is_digit ds) h in
    ap (λ b. b && list_all is_rest ds) (digit_rest d parts.0) ∙ digits_rest ds parts.1

digit_scalar : (b : ℕ) → is_digit b ≡ true → (scalar b ≡ true) × (encode_utf8 b ≡ b ∷ [])
unfolding is_digit
digit_scalar b h =
    let low : b < 128 = grind (arith, nat_tests) in
    (grind (arith, nat_tests), encode_ascii b low)

digits_scalars : (ds : List ℕ) → list_all is_digit ds ≡ true → (scalars ds ≡ true) × (encode_utf8_all ds ≡ ds)
digits_scalars [] h = (refl, refl)
digits_scalars (d ∷ ds) h =
    let parts = and_parts (is_digit d) (list_all is_digit ds) h in
    let one = digit_scalar d parts.0 in
    let rest = digits_scalars ds parts.1 in (
      ap (λ b. b && scalars ds) one.0 ∙ rest.0,
      ap (λ xs. xs ++ encode_utf8_all ds) one.1 ∙ ap (λ xs. d ∷ xs) rest.1,
    )

scalars_append : (cs ds : List ℕ) → scalars cs ≡ true → scalars ds ≡ true → scalars (cs ++ ds) ≡ true
scalars_append [] ds h k = k
scalars_append (c ∷ cs) ds h k =
    let parts = and_parts (scalar c) (scalars cs) h in
    ap (λ b. b && scalars (cs ++ ds)) parts.0 ∙ scalars_append cs ds parts.1 k

spelled_numbered : (cs name : List ℕ) (n : ℕ) → scalars cs ≡ true → encode_utf8_all cs ≡ name → (scalars (cs ++ decimal n) ≡ true) × (encode_utf8_all (cs ++ decimal n) ≡ numbered name n)
spelled_numbered cs name n known spelled =
    let number = digits_scalars (decimal n) (all_digits n) in (
      scalars_append cs (decimal n) known number.0,
      encodes-append cs (decimal n) ∙ ap (λ xs. xs ++ encode_utf8_all (decimal n)) spelled ∙ ap (λ xs. name ++ xs) number.1,
    )

-- a text with a number is a text
pub numbered_text : (name : List ℕ) (n : ℕ) → IsUtf8 name → IsUtf8 (numbered name n)
numbered_text name n (cs, (known, spelled)) = (cs ++ decimal n, spelled_numbered cs name n known spelled)

form_longer : (cs ds : List ℕ) → has_ident_form cs ≡ true → list_all is_rest ds ≡ true → has_ident_form (cs ++ ds) ≡ true
form_longer [] ds h k = absurd (true≢false (sym h))
form_longer (c ∷ cs) ds h k =
    let parts = and_parts (is_first c) (list_all is_rest cs) h in
    ap (λ b. b && list_all is_rest (cs ++ ds)) parts.0
    ∙ list_all-append is_rest cs ds
    ∙ ap (λ b. b && list_all is_rest ds) parts.1
    ∙ k

numbered_form : (name : List ℕ) (n : ℕ) → IsUtf8 name → has_ident_form (chars name) ≡ true → has_ident_form (chars (numbered name n)) ≡ true
numbered_form name n (cs, (known, spelled)) h =
    let longer = spelled_numbered cs name n known spelled in
    let was : chars name ≡ cs = ap chars (sym spelled) ∙ chars-encodes cs known in
    let now : chars (numbered name n) ≡ cs ++ decimal n = ap chars (sym longer.1) ∙ chars-encodes (cs ++ decimal n) longer.0 in
    ap has_ident_form now ∙ form_longer cs (decimal n) (sym (ap has_ident_form was) ∙ h) (digits_rest (decimal n) (all_digits n))

-- an identifier with a number is an identifier
pub numbered_ident : (name : List ℕ) (n : ℕ) → IsUtf8 name → is_ident name ≡ true → is_ident (numbered name n) ≡ true
unfolding is_ident
numbered_ident name n text h =
    let parts = and_parts (not (is_reserved name)) (has_ident_form (chars name)) h in
    ap (λ b. not b && has_ident_form (chars (numbered name n))) (numbered_free name n) ∙ numbered_form name n text parts.1

-- ---- the bytes of an identifier

move_line : (dollar line other high : Bool) → ((dollar || line) || (other || line)) ≡ true → (((dollar || line) || other) || high) ≡ true
move_line true line other high h = refl
move_line false true other high h = refl
move_line false false true high h = refl
move_line false false false high h = absurd (true≢false (sym h))

ident_byte : (c b : ℕ) → is_rest c ≡ true → (b < 128 → c ≡ b) → is_ident_byte b ≡ true
ident_byte c b h same = elim (cases_lt b 128) [
  | inl low ↦
      let alike = is_xid_continue-ascii b low in
      let known : ((b == 36 || (b == 95)) || (is_ascii_alphanumeric b || (b == 95))) ≡ true =
      sym (ap (λ x. (b == 36 || (b == 95)) || x) alike) ∙ ap is_rest (sym (same low)) ∙ h in
      move_line (b == 36) (b == 95) (is_ascii_alphanumeric b) (nat_le 128 b) known
  | inr up ↦ or_true ((b == 36 || (b == 95)) || is_ascii_alphanumeric b) (nat_le 128 b) (grind (arith, nat_tests))
]

all_by_index : (p : ℕ → Bool) (bs : List ℕ) → ((k : ℕ) → k < length bs → p (get_or bs k 0) ≡ true) → list_all p bs ≡ true
all_by_index p [] h = refl
all_by_index p (b ∷ bs) h =
    ap (λ x. x && list_all p bs) (h 0 (omega arith)) ∙ all_by_index p bs (λ k l. h (suc k) (omega arith))

char_bytes : (c : ℕ) → is_rest c ≡ true → list_all is_ident_byte (encode_utf8 c) ≡ true
char_bytes c h =
    all_by_index is_ident_byte (encode_utf8 c) (λ k l. ident_byte c (get_or (encode_utf8 c) k 0) h (inside_one c [] (encode_utf8 c) k (sym (append-nil (encode_utf8 c))) l))

chars_bytes : (cs : List ℕ) → list_all is_rest cs ≡ true → list_all is_ident_byte (encode_utf8_all cs) ≡ true
chars_bytes [] h = refl
chars_bytes (c ∷ cs) h =
    let parts = and_parts (is_rest c) (list_all is_rest cs) h in
    list_all-append is_ident_byte (encode_utf8 c) (encode_utf8_all cs)
    ∙ ap (λ x. x && list_all is_ident_byte (encode_utf8_all cs)) (char_bytes c parts.0)
    ∙ chars_bytes cs parts.1

or_cases : (a b : Bool) → (a || b) ≡ true → (a ≡ true) ⊎ (b ≡ true)
or_cases true b h = inl refl
or_cases false b h = inr h

first_is_rest : (c : ℕ) → is_first c ≡ true → is_rest c ≡ true
first_is_rest c h = elim (or_cases (c == 36 || (c == 95)) (is_xid_start c) h) [
  | inl mark ↦ ap (λ x. x || is_xid_continue c) mark
  | inr start ↦ or_true (c == 36 || (c == 95)) (is_xid_continue c) (is_xid_start-is_xid_continue c start)
]

form_rest : (cs : List ℕ) → has_ident_form cs ≡ true → list_all is_rest cs ≡ true
form_rest [] h = refl
form_rest (c ∷ cs) h =
    let parts = and_parts (is_first c) (list_all is_rest cs) h in
    ap (λ x. x && list_all is_rest cs) (first_is_rest c parts.0) ∙ parts.1

-- an identifier holds identifier characters alone
pub ident_bytes : (name : List ℕ) → IsUtf8 name → is_ident name ≡ true → list_all is_ident_byte name ≡ true
unfolding is_ident
ident_bytes name text h =
    let form = (and_parts (not (is_reserved name)) (has_ident_form (chars name)) h).1 in
    ap (list_all is_ident_byte) (sym (encodes-chars name text)) ∙ chars_bytes (chars name) (form_rest (chars name) form)

-- an identifier has a character
pub ident_some : (name : List ℕ) → is_ident name ≡ true → 0 < length name
unfolding is_ident chars
ident_some [] h = absurd (true≢false (sym (and_parts (not (is_reserved [])) false h).1))
ident_some (b ∷ bs) h = omega arith

some_first : (p : ℕ → Bool) (bs : List ℕ) → 0 < length bs → list_all p bs ≡ true → first_passes p bs ≡ true
some_first p [] some h = absurd (omega arith)
some_first p (b ∷ bs) some h = (and_parts (p b) (list_all p bs) h).0

some_last : (p : ℕ → Bool) (b : ℕ) (bs : List ℕ) → list_all p (b ∷ bs) ≡ true → last_passes p (b ∷ bs) ≡ true
some_last p b [] h = (and_parts (p b) true h).0
some_last p b (c ∷ bs) h = some_last p c bs (and_parts (p b) (list_all p (c ∷ bs)) h).1

last_some : (p : ℕ → Bool) (bs : List ℕ) → 0 < length bs → list_all p bs ≡ true → last_passes p bs ≡ true
last_some p [] some h = absurd (omega arith)
last_some p (b ∷ bs) some h = some_last p b bs h

-- an identifier begins with an identifier character, and ends with one
pub ident_first : (name : List ℕ) → IsUtf8 name → is_ident name ≡ true → first_passes is_ident_byte name ≡ true
ident_first name text h = some_first is_ident_byte name (ident_some name h) (ident_bytes name text h)

pub ident_last : (name : List ℕ) → IsUtf8 name → is_ident name ≡ true → last_passes is_ident_byte name ≡ true
ident_last name text h = last_some is_ident_byte name (ident_some name h) (ident_bytes name text h)

-- ---- identifiers of ASCII characters, by a test that reads no table of characters

abbrev is_ascii_first : ℕ → Bool
is_ascii_first b = (b == 36 || (b == 95)) || is_ascii_alphabetic b

abbrev is_ascii_rest : ℕ → Bool
is_ascii_rest b = (b == 36 || (b == 95)) || is_ascii_alphanumeric b

abbrev pub has_ascii_form : List ℕ → Bool
has_ascii_form [] = false
has_ascii_form (b ∷ bs) = is_ascii_first b && list_all is_ascii_rest bs

-- an identifier of ASCII characters
abbrev pub is_ascii_ident : List ℕ → Bool
is_ascii_ident name = not (is_reserved name) && has_ascii_form name

rest_low : (b : ℕ) → is_ascii_rest b ≡ true → b < 128
rest_low b h = grind (arith, nat_tests)

first_low : (b : ℕ) → is_ascii_first b ≡ true → b < 128
first_low b h = grind (arith, nat_tests)

widen : (a b c : Bool) → (a || b) ≡ true → (a || (b || c)) ≡ true
widen true b c h = refl
widen false true c h = refl
widen false false c h = absurd (true≢false (sym h))

ascii_rest : (b : ℕ) → is_ascii_rest b ≡ true → is_rest b ≡ true
ascii_rest b h =
    ap (λ x. (b == 36 || (b == 95)) || x) (is_xid_continue-ascii b (rest_low b h)) ∙ widen (b == 36 || (b == 95)) (is_ascii_alphanumeric b) (b == 95) h

ascii_first : (b : ℕ) → is_ascii_first b ≡ true → is_first b ≡ true
ascii_first b h = ap (λ x. (b == 36 || (b == 95)) || x) (is_xid_start-ascii b (first_low b h)) ∙ h

ascii_rests : (bs : List ℕ) → list_all is_ascii_rest bs ≡ true → list_all is_rest bs ≡ true
ascii_rests [] h = refl
ascii_rests (b ∷ bs) h =
    let parts = and_parts (is_ascii_rest b) (list_all is_ascii_rest bs) h in
    ap (λ x. x && list_all is_rest bs) (ascii_rest b parts.0) ∙ ascii_rests bs parts.1

low_scalar : (b : ℕ) → b < 128 → scalar b ≡ true
low_scalar b h = grind (arith, nat_tests)

ascii_spelled : (bs : List ℕ) → list_all is_ascii_rest bs ≡ true → (scalars bs ≡ true) × (encode_utf8_all bs ≡ bs)
ascii_spelled [] h = (refl, refl)
ascii_spelled (b ∷ bs) h =
    let parts = and_parts (is_ascii_rest b) (list_all is_ascii_rest bs) h in
    let low = rest_low b parts.0 in
    let rest = ascii_spelled bs parts.1 in (
      ap (λ x. x && scalars bs) (low_scalar b low) ∙ rest.0,
      ap (λ xs. xs ++ encode_utf8_all bs) (encode_ascii b low) ∙ ap (λ xs. b ∷ xs) rest.1,
    )

ascii_chars : (b : ℕ) (bs : List ℕ) → b < 128 → list_all is_ascii_rest bs ≡ true → chars (b ∷ bs) ≡ b ∷ bs
ascii_chars b bs low h =
    let rest = ascii_spelled bs h in
    let spelled : encode_utf8_all (b ∷ bs) ≡ b ∷ bs = ap (λ xs. xs ++ encode_utf8_all bs) (encode_ascii b low) ∙ ap (λ xs. b ∷ xs) rest.1 in
    ap chars (sym spelled) ∙ chars-encodes (b ∷ bs) (ap (λ x. x && scalars bs) (low_scalar b low) ∙ rest.0)

ascii_form : (name : List ℕ) → has_ascii_form name ≡ true → has_ident_form (chars name) ≡ true
ascii_form [] h = absurd (true≢false (sym h))
ascii_form (b ∷ bs) h =
    let parts = and_parts (is_ascii_first b) (list_all is_ascii_rest bs) h in
    ap has_ident_form (ascii_chars b bs (first_low b parts.0) parts.1)
    ∙ ap (λ x. x && list_all is_rest bs) (ascii_first b parts.0)
    ∙ ascii_rests bs parts.1

pub ascii_ident : (name : List ℕ) → is_ascii_ident name ≡ true → is_ident name ≡ true
unfolding is_ident
ascii_ident name h =
    let parts = and_parts (not (is_reserved name)) (has_ascii_form name) h in
    ap (λ x. x && has_ident_form (chars name)) parts.0 ∙ ascii_form name parts.1

-- the name of a property, of ASCII characters
abbrev pub is_ascii_prop : List ℕ → Bool
is_ascii_prop [] = false
is_ascii_prop (b ∷ bs) = is_ascii_rest b && list_all is_ascii_rest bs

pub ascii_prop : (name : List ℕ) → is_ascii_prop name ≡ true → is_prop name ≡ true
unfolding is_prop
ascii_prop [] h = absurd (true≢false (sym h))
ascii_prop (b ∷ bs) h =
    let parts = and_parts (is_ascii_rest b) (list_all is_ascii_rest bs) h in
    ap are_ident_chars (ascii_chars b bs (rest_low b parts.0) parts.1)
    ∙ ap (λ x. x && list_all is_rest bs) (ascii_rest b parts.0)
    ∙ ascii_rests bs parts.1

form_prop : (cs : List ℕ) → has_ident_form cs ≡ true → are_ident_chars cs ≡ true
form_prop [] h = h
form_prop (c ∷ cs) h =
    let parts = and_parts (is_first c) (list_all is_rest cs) h in
    ap (λ x. x && list_all is_rest cs) (first_is_rest c parts.0) ∙ parts.1

-- an identifier may name a property
pub ident_prop : (name : List ℕ) → is_ident name ≡ true → is_prop name ≡ true
unfolding is_ident is_prop
ident_prop name h =
    let form = (and_parts (not (is_reserved name)) (has_ident_form (chars name)) h).1 in form_prop (chars name) form
