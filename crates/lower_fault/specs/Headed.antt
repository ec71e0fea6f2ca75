-- What an answer begins with.
use Rattle.std.specs.Prelude.{◌≡◌, ℕ, List, ◌++◌, codes}

-- the fault's name, a colon and a space stand before what is said
pub record IsHeaded (text : List ℕ) : Type 0 where
  pub said : List ℕ
  pub is : text ≡ codes "Lower: " ++ said
