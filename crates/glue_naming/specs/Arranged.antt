-- Lists in an order.
use Rattle.std.specs.Prelude.{ℕ, List, [], ◌∷◌, if◌then◌else◌}
use Rattle.std.specs.Ordering.{is_lt, nat_cmp}
use Rattle.std.specs.Cmp.Lexicographic.{slice_cmp}
use Rattle.std.specs.List.Sorted.{IsPermutation, IsSorted}
use Rattle.std.specs.declared.cmp.Ordering.{Ordering}

-- the same items, each as often, and none comes before the one in front of it
pub record IsArranged {A : Type 0} (order : A → A → Ordering) (xs arranged : List A) : Type 0 where
  pub same : IsPermutation xs arranged
  pub rises : IsSorted order arranged

-- these items with one more, which comes behind those in front that are less
abbrev pub put_before : {A : Type 0} → (A → A → Ordering) → A → List A → List A
put_before order x [] = x ∷ []
put_before order x (y ∷ rest) = if is_lt (order y x) then y ∷ put_before order x rest else x ∷ y ∷ rest

-- the items in an order, those that tie in it as they stand
abbrev pub in_order : {A : Type 0} → (A → A → Ordering) → List A → List A
in_order order [] = []
in_order order (x ∷ xs) = put_before order x (in_order order xs)

-- texts by their bytes
abbrev pub text_order : List ℕ → List ℕ → Ordering
text_order = slice_cmp nat_cmp
