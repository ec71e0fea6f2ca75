-- A list that a loop adds to, by what each item brings.
use Rattle.std.proofs.Common.{◌≡◌, ℕ, ◌+◌, ◌<◌, List, ◌++◌, length, take, get_or, sym, ap, ◌∙◌}
use Rattle.std.specs.List.{flat_map}
use Rattle.std.proofs.lemmas.List.{take_more, flat_map_more}

pub grown_at : {X A : Type 0} (f : X → List A) (base now : List A) (xs : List X) (i : ℕ) (d : X) → i < length xs → now ≡ base ++ flat_map f (take i xs) → now ++ f (get_or xs i d) ≡ base ++ flat_map f (take (i + 1) xs)
grown_at f base now xs i d within so_far =
    ap (λ bs. bs ++ f (get_or xs i d)) so_far
    ∙ flat_map_more f base (take i xs) (get_or xs i d)
    ∙ ap (λ t. base ++ flat_map f t) (sym (take_more xs i d within))

pub grown : {X A : Type 0} (f : X → List A) (base now : List A) (xs : List X) (i : ℕ) (x : X) → i < length xs → x ≡ get_or xs i x → now ≡ base ++ flat_map f (take i xs) → now ++ f x ≡ base ++ flat_map f (take (i + 1) xs)
grown f base now xs i x within here so_far = ap (λ y. now ++ f y) here ∙ grown_at f base now xs i x within so_far
