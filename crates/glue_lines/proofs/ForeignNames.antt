-- The names of foreign modules are identifiers.
use Rattle.std.proofs.Common.{◌≡◌, ℕ, ◌<◌, ◌^◌, true, List, [], ◌∷◌, ◌++◌, length, refl, arith}
use Rattle.std.specs.Prelude.{codes, ◌||◌, ◌==◌}
use Rattle.std.specs.Char.{is_ascii_digit, is_ascii_alphanumeric}
use Rattle.std.specs.Fmt.{decimal}
use Rattle.std.specs.List.{list_all}
use Rattle.std.specs.Str.{all_ascii_digits}
use Rattle.std.specs.Str.Parse.{digits_value}
use Rattle.std.proofs.lemmas.Bool.{and_parts}
use Rattle.std.proofs.lemmas.Bool.Decides.{nat_tests}
use Rattle.std.proofs.lemmas.Fmt.{digits_decimal, decimal_nonempty}
use Rattle.std.proofs.lemmas.Str.Parse.{IsNumeralModel, numerals_by_value, tells_all_ascii_digits}
use Rattle.glue_words.specs.Ident.{is_ident}
use Rattle.glue_words.proofs.Idents.{is_ascii_ident, ascii_ident}
use Rattle.glue_lines.specs.Lines.{foreign_name}

own : IsNumeralModel (λ ds. all_ascii_digits ds ≡ true) (digits_value 10)
own = numerals_by_value (λ ds. all_ascii_digits ds ≡ true) tells_all_ascii_digits

digit_rest : (b : ℕ) → is_ascii_digit b ≡ true → ((b == 36 || (b == 95)) || is_ascii_alphanumeric b) ≡ true
digit_rest b h = grind (arith, nat_tests)

digits_rest : (ds : List ℕ) → all_ascii_digits ds ≡ true
    → list_all (λ b. (b == 36 || (b == 95)) || is_ascii_alphanumeric b) ds ≡ true
digits_rest [] h = refl
digits_rest (d ∷ ds) h =
    let parts = and_parts (is_ascii_digit d) (all_ascii_digits ds) h in
    rw (digit_rest d parts.0, digits_rest ds parts.1) refl

numbered_form : (ds : List ℕ) → 0 < length ds → all_ascii_digits ds ≡ true → is_ascii_ident (codes "import" ++ ds) ≡ true
numbered_form [] some h = absurd (omega (arith, some))
numbered_form (d ∷ ds) some h = digits_rest (d ∷ ds) h

pub foreign_ident : (number : ℕ) → number < 2 ^ 64 → is_ident (foreign_name number) ≡ true
foreign_ident number small =
    ascii_ident (foreign_name number)
    (numbered_form (decimal number) (decimal_nonempty number small) (digits_decimal own number small))
