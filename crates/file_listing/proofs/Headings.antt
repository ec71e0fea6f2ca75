-- The parts of a heading are those of one file.
use Rattle.std.proofs.Common.{◌≡◌, ◌≢◌, ℕ, ◌<◌, ◌≤◌, ◌^◌, List, [], ◌∷◌, ◌++◌, codes, Bool, true, false, Result, Ok, refl, sym, ap, ◌∙◌, arith, append_assoc}
use Rattle.std.proofs.lemmas.List.{append_cancel_left}
use Rattle.std.proofs.lemmas.Fmt.{digits_decimal, decimal_injective, parse-decimal, IsAscii-decimal}
use Rattle.std.proofs.lemmas.Str.{IsUtf8-from_ascii}
use Rattle.std.proofs.lemmas.Str.Parse.{IsNumeralModel, numerals_by_value, tells_digits, not_in_digits}
use Rattle.std.specs.Fmt.{decimal}
use Rattle.std.specs.Int.{IsInRange}
use Rattle.std.specs.Str.{IsUtf8}
use Rattle.std.specs.Str.Parse.{AllDigits, digits_value, ParsesUnsigned}
use Rattle.glue_ends.specs.Listing.{form_word}
use Rattle.file_listing.specs.Parts.{Lacks, IsLastCut, file_word, heading_line, AreParts, IsHeadingOf, IsNoHeading}
use Rattle.file_listing.proofs.Lacking.{lacks_by_test, not_lacking, unique_last}

own : IsNumeralModel (AllDigits 10) (digits_value 10)
own = numerals_by_value (AllDigits 10) tells_digits

pub decimal_lacks : (c n : ℕ) → (IsInRange 48 57 c → ⊥) → n < 2 ^ 64 → Lacks c (decimal n)
decimal_lacks c n outside small = not_in_digits own (decimal n) c (digits_decimal own n small) outside

pub decimal_lacks_space : (n : ℕ) → n < 2 ^ 64 → Lacks 32 (decimal n)
decimal_lacks_space n small = decimal_lacks 32 n (λ within. omega (arith, within.0)) small

pub decimal_lacks_feed : (n : ℕ) → n < 2 ^ 64 → Lacks 10 (decimal n)
decimal_lacks_feed n small = decimal_lacks 10 n (λ within. omega (arith, within.0)) small

pub word_lacks_space : (is_text : Bool) → Lacks 32 (form_word is_text)
word_lacks_space true = lacks_by_test 32 (codes "text") refl
word_lacks_space false = lacks_by_test 32 (codes "hex") refl

pub word_lacks_feed : (is_text : Bool) → Lacks 10 (form_word is_text)
word_lacks_feed true = lacks_by_test 10 (codes "text") refl
word_lacks_feed false = lacks_by_test 10 (codes "hex") refl

pub same_word : (a b : Bool) → form_word a ≡ form_word b → a ≡ b
same_word true true h = refl
same_word true false h = cc
same_word false true h = cc
same_word false false h = refl

-- a heading has these parts
pub parts_of_heading : (line path : List ℕ) (is_text : Bool) (count : ℕ) → IsHeadingOf line path is_text count → AreParts line path (form_word is_text) (decimal count)
parts_of_heading line path is_text count h = record { whole = h.whole; word_lacks = word_lacks_space is_text; count_lacks = decimal_lacks_space count h.few }

pub after_file : (line rest path word count : List ℕ) → line ≡ file_word rest → AreParts line path word count → rest ≡ path ++ 32 ∷ (word ++ 32 ∷ count)
after_file line rest path word count is parts = append_cancel_left (codes "file ") rest (path ++ 32 ∷ (word ++ 32 ∷ count)) (sym is ∙ parts.whole)

-- what stands before the last space, and after it
pub before_count : (rest front last path word count : List ℕ) → rest ≡ path ++ 32 ∷ (word ++ 32 ∷ count) → Lacks 32 count → IsLastCut 32 rest front last → (front ≡ path ++ 32 ∷ word) × (last ≡ count)
before_count rest front last path word count is lacks cut =
    unique_last 32 front last (path ++ 32 ∷ word) count cut.lacks lacks (sym cut.whole ∙ is ∙ sym (append_assoc path (32 ∷ word) (32 ∷ count)))

pub no_count : (rest path word count : List ℕ) → rest ≡ path ++ 32 ∷ (word ++ 32 ∷ count) → Lacks 32 rest → ⊥
no_count rest path word count is lacks = not_lacking 32 path (word ++ 32 ∷ count) (rw is at lacks)

pub no_word : (front path word : List ℕ) → front ≡ path ++ 32 ∷ word → Lacks 32 front → ⊥
no_word front path word is lacks = not_lacking 32 path word (rw is at lacks)

pub parts_whole : (line rest front last path word : List ℕ) → line ≡ file_word rest → IsLastCut 32 rest front last → IsLastCut 32 front path word → AreParts line path word last
parts_whole line rest front last path word is outer inner = record {
  whole = is ∙ ap file_word (outer.whole ∙ ap (λ l. l ++ 32 ∷ last) inner.whole ∙ append_assoc path (32 ∷ word) (32 ∷ last));
  word_lacks = inner.lacks;
  count_lacks = outer.lacks;
}

-- two ways to read a line are one
pub record SameParts (path word count p w c : List ℕ) : Type 0 where
  pub same_path : path ≡ p
  pub same_word : word ≡ w
  pub same_count : count ≡ c

pub same_parts : (line path word count p w c : List ℕ) → AreParts line path word count → AreParts line p w c → SameParts path word count p w c
same_parts line path word count p w c a b =
    let rest : path ++ 32 ∷ (word ++ 32 ∷ count) ≡ p ++ 32 ∷ (w ++ 32 ∷ c) = append_cancel_left (codes "file ") (path ++ 32 ∷ (word ++ 32 ∷ count)) (p ++ 32 ∷ (w ++ 32 ∷ c)) (sym a.whole ∙ b.whole) in
    let outer = unique_last 32 (path ++ 32 ∷ word) count (p ++ 32 ∷ w) c a.count_lacks b.count_lacks (append_assoc path (32 ∷ word) (32 ∷ count) ∙ rest ∙ sym (append_assoc p (32 ∷ w) (32 ∷ c))) in
    let inner = unique_last 32 path word p w a.word_lacks b.word_lacks outer.0 in
    record { same_path = inner.0; same_word = inner.1; same_count = outer.1 }

pub no_heading_without_parts : (line : List ℕ) → ((path word count : List ℕ) → AreParts line path word count → ⊥) → IsNoHeading line
no_heading_without_parts line none path is_text count h = none path (form_word is_text) (decimal count) (parts_of_heading line path is_text count h)

pub no_heading_by_word : (line path word count : List ℕ) → AreParts line path word count → ((is_text : Bool) → word ≢ form_word is_text) → IsNoHeading line
no_heading_by_word line path word count parts none p is_text n h =
    none is_text (same_parts line path word count p _ _ parts (parts_of_heading line p is_text n h)).same_word

pub no_heading_by_path : (line path word count : List ℕ) → AreParts line path word count → (IsUtf8 path → ⊥) → IsNoHeading line
no_heading_by_path line path word count parts none p is_text n h =
    none (rw (same_parts line path word count p _ _ parts (parts_of_heading line p is_text n h)).same_path h.text)

pub no_heading_by_count : (line path word count : List ℕ) → AreParts line path word count → ((n : ℕ) → n < 2 ^ 64 → count ≢ decimal n) → IsNoHeading line
no_heading_by_count line path word count parts none p is_text n h =
    none n h.few (same_parts line path word count p _ _ parts (parts_of_heading line p is_text n h)).same_count

pub heading_by_parts : (line path word digits : List ℕ) (is_text : Bool) (count : ℕ) → AreParts line path word digits → word ≡ form_word is_text → IsUtf8 path → (digits ≡ decimal count) × (count < 2 ^ 64) → IsHeadingOf line path is_text count
heading_by_parts line path word digits is_text count parts form text number = record {
  whole = parts.whole ∙ ap (λ w. heading_line path w digits) form ∙ ap (λ c. heading_line path (form_word is_text) c) number.0;
  text = text;
  few = number.1;
}

-- two headings of one line are one
pub record SameHeading (path : List ℕ) (is_text : Bool) (count : ℕ) (p : List ℕ) (t : Bool) (n : ℕ) : Type 0 where
  pub same_path : path ≡ p
  pub same_form : is_text ≡ t
  pub same_count : count ≡ n

pub same_heading : (line path : List ℕ) (is_text : Bool) (count : ℕ) (p : List ℕ) (t : Bool) (n : ℕ) → IsHeadingOf line path is_text count → IsHeadingOf line p t n
    → SameHeading path is_text count p t n
same_heading line path is_text count p t n a b =
    let parts = same_parts line path (form_word is_text) (decimal count) p (form_word t) (decimal n) (parts_of_heading line path is_text count a) (parts_of_heading line p t n b) in
    record { same_path = parts.same_path; same_form = same_word is_text t parts.same_word; same_count = decimal_injective count n a.few b.few parts.same_count }

-- ---- numbers

pub no_number_by_text : (digits : List ℕ) → (IsUtf8 digits → ⊥) → (n : ℕ) → n < 2 ^ 64 → digits ≢ decimal n
no_number_by_text digits none n small is = none (rw is (IsUtf8-from_ascii (decimal n) (IsAscii-decimal n small)))

-- a text that is read as a number, and is not what is written for it
pub number_is : (digits : List ℕ) {E : Type 0} (r : Result ℕ E) (number n : ℕ) → ParsesUnsigned 64 10 digits r → r ≡ Ok number → n < 2 ^ 64 → digits ≡ decimal n → number ≡ n
number_is digits r number n parsed ok small is =
    let read : r ≡ Ok n = parse-decimal 64 n digits r small small is parsed in
    cc

pub number_read : (digits : List ℕ) {E : Type 0} (r : Result ℕ E) (n : ℕ) → ParsesUnsigned 64 10 digits r → n < 2 ^ 64 → digits ≡ decimal n → r ≡ Ok n
number_read digits r n parsed small is = parse-decimal 64 n digits r small small is parsed
