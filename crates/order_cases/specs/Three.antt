-- A table of three helpers.
use Rattle.std.specs.Prelude.{◌≡◌, ℕ, zero, suc, ◌<◌, Bool, true, false, List, [], ◌∷◌, Option, Some, None, codes, length}
use Rattle.std.specs.Str.{bytes_eq}
use Rattle.std.proofs.Common.{arith, ap, cond, inl, inr, refl, sym}
use Rattle.std.proofs.lemmas.Slice.Eq.{bytes_eq-Decides}
use Rattle.values.specs.Lists.{IsIn}
use Rattle.glue_words.specs.declared.word.Word.{Word}
use Rattle.glue_words.specs.declared.word.Word.TheVariants.{Bind, Refer}
use Rattle.glue_words.specs.Names.{bound_in}

-- the key of a helper
abbrev pub three_key : ℕ → List ℕ
three_key zero = codes "take"
three_key (suc zero) = codes "get"
three_key (suc (suc node)) = codes "alone"

-- the name that a helper binds
abbrev pub three_name : ℕ → List ℕ
three_name zero = codes "takeObject"
three_name (suc zero) = codes "getObject"
three_name (suc (suc node)) = codes "lone"

-- the words of a helper
abbrev pub three_words : ℕ → List Word
three_words zero = Bind (three_name zero) ∷ Refer (three_name (suc zero)) false ∷ []
three_words (suc node) = Bind (three_name (suc node)) ∷ []

-- the helper that binds a name
abbrev pub three_binder : List ℕ → Option ℕ
three_binder name =
    cond (bytes_eq name (three_name 0)) (Some 0) (cond (bytes_eq name (three_name 1)) (Some 1) (cond (bytes_eq name (three_name 2)) (Some 2) None))

-- it binds it
pub three_binds : (name : List ℕ) (node : ℕ) → three_binder name ≡ Some node → (node < 3) × IsIn name (bound_in (three_words node))
three_binds name node h = by (bytes_eq name (three_name 0)) (bytes_eq name (three_name 1)) (bytes_eq name (three_name 2)) refl refl refl h
  where
    by : (a b c : Bool) → bytes_eq name (three_name 0) ≡ a → bytes_eq name (three_name 1) ≡ b → bytes_eq name (three_name 2) ≡ c
        → cond a (Some 0) (cond b (Some 1) (cond c (Some 2) None)) ≡ Some node → (node < 3) × IsIn name (bound_in (three_words node))
    by true b c p q r k = let is : 0 ≡ node = cc in rw (sym is) (omega arith, inl ((bytes_eq-Decides name (three_name 0)).0 p))
    by false true c p q r k = let is : 1 ≡ node = cc in rw (sym is) (omega arith, inl ((bytes_eq-Decides name (three_name 1)).0 q))
    by false false true p q r k = let is : 2 ≡ node = cc in rw (sym is) (omega arith, inl ((bytes_eq-Decides name (three_name 2)).0 r))
    by false false false p q r k = cc

-- and is found by the name that it binds
pub three_finds : (name : List ℕ) (node : ℕ) → node < 3 → IsIn name (bound_in (three_words node)) → three_binder name ≡ Some node
three_finds name zero lt (inl same) = rw same refl
three_finds name (suc zero) lt (inl same) = rw same refl
three_finds name (suc (suc zero)) lt (inl same) = rw same refl
three_finds name (suc (suc (suc node))) lt h = absurd (omega (arith, lt))
three_finds name zero lt (inr k) = absurd k
three_finds name (suc zero) lt (inr k) = absurd k
three_finds name (suc (suc zero)) lt (inr k) = absurd k

-- no two have one key
pub three_apart : (i j : ℕ) → i < 3 → j < 3 → three_key i ≡ three_key j → i ≡ j
three_apart zero zero low high h = refl
three_apart (suc zero) (suc zero) low high h = refl
three_apart (suc (suc zero)) (suc (suc zero)) low high h = refl
three_apart zero (suc zero) low high h = let e : 4 ≡ 3 = ap length h in absurd (omega (arith, e))
three_apart zero (suc (suc j)) low high h = let e : 4 ≡ 5 = ap length h in absurd (omega (arith, e))
three_apart (suc zero) zero low high h = let e : 3 ≡ 4 = ap length h in absurd (omega (arith, e))
three_apart (suc zero) (suc (suc j)) low high h = let e : 3 ≡ 5 = ap length h in absurd (omega (arith, e))
three_apart (suc (suc i)) zero low high h = let e : 5 ≡ 4 = ap length h in absurd (omega (arith, e))
three_apart (suc (suc i)) (suc zero) low high h = let e : 5 ≡ 3 = ap length h in absurd (omega (arith, e))
three_apart (suc (suc (suc i))) j low high h = absurd (omega (arith, low))
three_apart i (suc (suc (suc j))) low high h = absurd (omega (arith, high))
