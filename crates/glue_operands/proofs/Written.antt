-- Operands and names at their places, and arguments and parameters that are written one after the other.
use Rattle.std.proofs.Common.{◌≡◌, ℕ, zero, suc, ◌+◌, ◌==◌, ◌<◌, ◌≤◌, List, [], ◌∷◌, ◌++◌, length, drop, get_or, map, refl, sym, ap, ◌∙◌, Bool, false, arith, append_assoc}
use Rattle.std.proofs.lemmas.Bool.Decides.{nat_tests}
use Rattle.std.specs.Prelude.{◌&&◌}
use Rattle.glue_words.specs.declared.word.Word.{Word}
use Rattle.glue_tree.specs.Spelling.{comma_unless, is_none}
use Rattle.glue_steps.specs.Stack.{item_at}
use Rattle.glue_operands.specs.Plainly.{plain_operand}
use Rattle.glue_operands.specs.Spelling.{Missing, argument_words, arguments_words}
use Rattle.glue_operands.specs.Form.{printed_parameter, printed_parameters}
use Rattle.glue_operands.specs.declared.operand.Operand.{Operand}
use Rattle.glue_operands.specs.declared.operand.Operand.TheVariants as code
use Rattle.glue_operands.proofs.Lists.{drop_next}

pub operand_found : (operands : List Operand) (n : ℕ) → n < length operands
    → plain_operand (get_or operands n code.Missing) ≡ item_at Missing (map plain_operand operands) n
operand_found [] n h = absurd (omega arith)
operand_found (x ∷ operands) zero h = refl
operand_found (x ∷ operands) (suc n) h = operand_found operands n (omega arith)

pub operand_missing : (operands : List Operand) (n : ℕ) → length operands ≤ n
    → Missing ≡ item_at Missing (map plain_operand operands) n
operand_missing [] n h = refl
operand_missing (x ∷ operands) zero h = absurd (omega arith)
operand_missing (x ∷ operands) (suc n) h = operand_missing operands n (omega arith)

-- the name at a place, and past the end
pub name_found : (names : List (List ℕ)) (n : ℕ) → n < length names → get_or names n [] ≡ item_at [] names n
name_found [] n h = absurd (omega arith)
name_found (x ∷ names) zero h = refl
name_found (x ∷ names) (suc n) h = name_found names n (omega arith)

pub name_missing : (names : List (List ℕ)) (n : ℕ) → length names ≤ n → [] ≡ item_at [] names n
name_missing [] n h = refl
name_missing (x ∷ names) zero h = absurd (omega arith)
name_missing (x ∷ names) (suc n) h = name_missing names n (omega arith)

-- nothing is left exactly at the end
none_left : {A : Type 0} (xs : List A) (n : ℕ) → n ≤ length xs → is_none (drop n xs) ≡ (n == length xs)
none_left [] zero h = refl
none_left [] (suc n) h = absurd (omega arith)
none_left (x ∷ xs) zero h = grind (arith, nat_tests)
none_left (x ∷ xs) (suc n) h = let rest = none_left xs n (omega arith) in grind (arith, nat_tests)

none_plain : (operands : List Operand) → is_none (map plain_operand operands) ≡ is_none operands
none_plain [] = refl
none_plain (x ∷ operands) = refl

-- one argument more is written
pub next_argument : (operands : List Operand) (place : ℕ) (x : Operand) (spread : Bool) (words more all : List Word)
    → place < length operands → x ≡ get_or operands place x → more ≡ words ++ comma_unless (place == 0)
    → all ≡ more ++ argument_words (spread && (place + 1 == length operands)) (plain_operand x)
    → all ++ arguments_words false spread (map plain_operand (drop (place + 1) operands))
    ≡ words ++ arguments_words (place == 0) spread (map plain_operand (drop place operands))
next_argument operands place x spread words more all lt is comma argument =
    let rest = map plain_operand (drop (place + 1) operands) in
    let behind = arguments_words false spread rest in
    let first = comma_unless (place == 0) in
    let this = λ (b : Bool). argument_words (spread && b) (plain_operand x) in
    let last = none_plain (drop (place + 1) operands) ∙ none_left operands (place + 1) (omega (arith, lt)) in
    ap (λ ws. ws ++ behind) (argument ∙ ap (λ ws. ws ++ this (place + 1 == length operands)) comma)
    ∙ append_assoc (words ++ first) (this (place + 1 == length operands)) behind
    ∙ append_assoc words first (this (place + 1 == length operands) ++ behind)
    ∙ ap (λ b. words ++ (first ++ (this b ++ behind))) (sym last)
    ∙ ap (λ xs. words ++ arguments_words (place == 0) spread (map plain_operand xs)) (sym (drop_next operands place x lt is))

-- one parameter more is written
pub next_parameter : (names : List (List ℕ)) (place : ℕ) (x : List ℕ) (gathers : Bool) (words more all : List Word)
    → place < length names → x ≡ get_or names place x → more ≡ words ++ comma_unless (place == 0)
    → all ≡ more ++ printed_parameter (gathers && (place + 1 == length names)) x
    → all ++ printed_parameters false gathers (drop (place + 1) names)
    ≡ words ++ printed_parameters (place == 0) gathers (drop place names)
next_parameter names place x gathers words more all lt is comma parameter =
    let behind = printed_parameters false gathers (drop (place + 1) names) in
    let first = comma_unless (place == 0) in
    let here = λ (b : Bool). printed_parameter (gathers && b) x in
    let last = none_left names (place + 1) (omega (arith, lt)) in
    ap (λ ws. ws ++ behind) (parameter ∙ ap (λ ws. ws ++ here (place + 1 == length names)) comma)
    ∙ append_assoc (words ++ first) (here (place + 1 == length names)) behind
    ∙ append_assoc words first (here (place + 1 == length names) ++ behind)
    ∙ ap (λ b. words ++ (first ++ (here b ++ behind))) (sym last)
    ∙ ap (λ xs. words ++ printed_parameters (place == 0) gathers xs) (sym (drop_next names place x lt is))
