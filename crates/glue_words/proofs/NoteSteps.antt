-- A note one character longer.
use Rattle.std.proofs.Common.{◌≡◌, ℕ, ◌∷◌, ◌++◌, [], List, Bool, refl, arith, eqb}
use Rattle.std.proofs.lemmas.Grind.{common_steps}
use Rattle.glue_words.specs.Words.{note_char, note_chars}

-- whether a star stands at the end
abbrev pub star_after : Bool → List ℕ → Bool
star_after star [] = star
star_after star (ch ∷ rest) = star_after (eqb ch 42) rest

pub star_after_push : (star : Bool) (xs : List ℕ) (ch : ℕ) → star_after star (xs ++ ch ∷ []) ≡ eqb ch 42
star_after_push star [] ch = refl
star_after_push star (x ∷ xs) ch = star_after_push (eqb x 42) xs ch

pub note_chars_push : (star : Bool) (xs : List ℕ) (ch : ℕ) → note_chars star (xs ++ ch ∷ []) ≡ note_chars star xs ++ note_char (star_after star xs) ch
note_chars_push star [] ch = grind (arith, common_steps)
note_chars_push star (x ∷ xs) ch = grind (arith, common_steps, note_chars_push (eqb x 42) xs ch)
