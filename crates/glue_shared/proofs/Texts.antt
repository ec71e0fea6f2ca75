-- Texts that are one of a list, and texts in parts.
use Rattle.std.proofs.Common.{◌≡◌, ℕ, ◌+◌, ◌/◌, ◌%◌, ◌^◌, ◌<◌, ◌≤◌, ◌&&◌, ◌||◌, List, [], ◌∷◌, ◌++◌, map, length, take, drop, Bool, true, false, nat_eq, bytes_eq, refl, ap, ◌∙◌, arith}
use Rattle.std.specs.Fmt.{decimal}
use Rattle.std.specs.List.{list_any, flat_map}
use Rattle.std.proofs.lemmas.Fmt.{decimal_digit, decimal_step, decimal_nonempty}
use Rattle.std.proofs.lemmas.List.Folds.{list_any-append}

pub and-assoc : (a b c : Bool) → (a && (b && c)) ≡ ((a && b) && c)
and-assoc true b c = refl
and-assoc false b c = refl

pub list_any-map : {A B : Type 0} (p : B → Bool) (f : A → B) (xs : List A) → list_any p (map f xs) ≡ list_any (λ x. p (f x)) xs
list_any-map p f [] = refl
list_any-map p f (x ∷ xs) = ap (λ b. p (f x) || b) (list_any-map p f xs)

pub list_any-flat_map : {A B : Type 0} (p : B → Bool) (f : A → List B) (xs : List A) → list_any p (flat_map f xs) ≡ list_any (λ x. list_any p (f x)) xs
list_any-flat_map p f [] = refl
list_any-flat_map p f (x ∷ xs) = list_any-append p (f x) (flat_map f xs) ∙ ap (λ b. list_any p (f x) || b) (list_any-flat_map p f xs)

-- tests that agree
pub any_alike : {A : Type 0} (p q : A → Bool) (xs : List A) → ((x : A) → p x ≡ q x) → list_any p xs ≡ list_any q xs
any_alike p q [] h = refl
any_alike p q (x ∷ xs) h = ap (λ (b : Bool). b || list_any p xs) (h x) ∙ ap (λ (b : Bool). q x || b) (any_alike p q xs h)

-- a text is two others in a row where it has both parts
pub joined_bytes : (a b name : List ℕ) → length a ≤ length name → bytes_eq (a ++ b) name ≡ (bytes_eq a (take (length a) name) && bytes_eq b (drop (length a) name))
joined_bytes [] b name h = refl
joined_bytes (x ∷ a) b [] h = absurd (omega arith)
joined_bytes (x ∷ a) b (y ∷ name) h =
    ap (λ t. nat_eq x y && t) (joined_bytes a b name (omega arith)) ∙ and-assoc (nat_eq x y) (bytes_eq a (take (length a) name)) (bytes_eq b (drop (length a) name))

-- and not where it is shorter than the first
pub longer_front : (a b name : List ℕ) → length name < length a → bytes_eq (a ++ b) name ≡ false
longer_front [] b name h = absurd (omega arith)
longer_front (x ∷ a) b [] h = refl
longer_front (x ∷ a) b (y ∷ name) h = rw (longer_front a b name (omega arith)) (and_false (nat_eq x y))
  where
    and_false : (t : Bool) → (t && false) ≡ false
    and_false true = refl
    and_false false = refl

no_more : (s t : Bool) → (s && false) ≡ (t && false)
no_more true true = refl
no_more true false = refl
no_more false true = refl
no_more false false = refl

-- two last bytes apart
pub last_bytes : (a b : List ℕ) (x y : ℕ) → bytes_eq (a ++ x ∷ []) (b ++ y ∷ []) ≡ (nat_eq x y && bytes_eq a b)
last_bytes [] [] x y = refl
last_bytes [] (b ∷ []) x y = no_more (nat_eq x b) (nat_eq x y)
last_bytes [] (b ∷ c ∷ bs) x y = no_more (nat_eq x b) (nat_eq x y)
last_bytes (a ∷ []) [] x y = no_more (nat_eq a y) (nat_eq x y)
last_bytes (a ∷ c ∷ cs) [] x y = no_more (nat_eq a y) (nat_eq x y)
last_bytes (a ∷ cs) (b ∷ bs) x y = ap (λ t. nat_eq a b && t) (last_bytes cs bs x y) ∙ swap (nat_eq a b) (nat_eq x y) (bytes_eq cs bs)
  where
    swap : (p q r : Bool) → (p && (q && r)) ≡ (q && (p && r))
    swap true true r = refl
    swap true false r = refl
    swap false true r = refl
    swap false false r = refl

-- a number of one digit
pub one_digit : (n : ℕ) (front : List ℕ) (last : ℕ) → n < 10 → bytes_eq (decimal n) (front ++ last ∷ []) ≡ (nat_eq (48 + n) last && bytes_eq [] front)
one_digit n front last small = rw (decimal_digit n small) (last_bytes [] front (48 + n) last)

-- a number of more digits
pub more_digits : (n : ℕ) (front : List ℕ) (last : ℕ) → 10 ≤ n → n < 2 ^ 64
    → bytes_eq (decimal n) (front ++ last ∷ []) ≡ (nat_eq (48 + n % 10) last && bytes_eq (decimal (n / 10)) front)
more_digits n front last large fits = rw (decimal_step n large fits) (last_bytes (decimal (n / 10)) front (48 + n % 10) last)

-- a number has digits
pub no_digits : (n : ℕ) (bs : List ℕ) → n < 2 ^ 64 → length bs ≡ 0 → bytes_eq (decimal n) bs ≡ false
no_digits n [] fits empty = cases (decimal n) (decimal_nonempty n fits)
  where
    cases : (ds : List ℕ) → 0 < length ds → bytes_eq ds [] ≡ false
    cases [] h = absurd (omega arith)
    cases (d ∷ ds) h = refl
no_digits n (b ∷ bs) fits empty = absurd (omega arith)
