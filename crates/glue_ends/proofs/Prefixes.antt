-- Prefixes that a sink took, one call after another.
use Rattle.std.proofs.Common.{◌<◌, ◌≤◌, length, take, drop, get_or, ◌∷◌, ◌+◌, take-append-drop, ◌≡◌, ℕ, List, [], ◌++◌, subst, refl, sym, ap, ◌∙◌, append_assoc, append-nil}
use Rattle.std.specs.declared.option.Option.{Option}
use Rattle.std.specs.Io.KnownBytes.{Appends}
use Rattle.std.proofs.KnownBytes.{Appends-nil, Appends-trans}
use Rattle.std.specs.List.{flat_map}
use Rattle.std.proofs.lemmas.List.{drop_more, take_more, take_all}
use Rattle.std.proofs.lemmas.Grind.{flat_map-append}
use Rattle.glue_ends.specs.Causes.{AppendsPrefix}

pub prefix_none : (a : Option (List ℕ)) (bs : List ℕ) → AppendsPrefix a a bs
prefix_none a bs = record { front = []; rest = bs; whole = refl; appended = Appends-nil a }

pub prefix_whole : (a b : Option (List ℕ)) (bs : List ℕ) → Appends a b bs → AppendsPrefix a b bs
prefix_whole a b bs all = record { front = bs; rest = []; whole = sym (append-nil bs); appended = all }

-- a prefix of the first part is one of the whole
pub prefix_first : (a b : Option (List ℕ)) (xs ys : List ℕ) → AppendsPrefix a b xs → AppendsPrefix a b (xs ++ ys)
prefix_first a b xs ys p = record {
  front = p.front;
  rest = p.rest ++ ys;
  whole = ap (λ l. l ++ ys) p.whole ∙ append_assoc p.front p.rest ys;
  appended = p.appended;
}

-- the first part, and then a prefix of the second
pub prefix_second : (a b c : Option (List ℕ)) (xs ys : List ℕ) → Appends a b xs → AppendsPrefix b c ys → AppendsPrefix a c (xs ++ ys)
prefix_second a b c xs ys first p = record {
  front = xs ++ p.front;
  rest = p.rest;
  whole = ap (λ l. xs ++ l) p.whole ∙ sym (append_assoc xs p.front p.rest);
  appended = Appends-trans a b c xs p.front first p.appended;
}

-- the parts before, and then a prefix of the next part, are a prefix of all parts
pub prefix_listing : {X : Type 0} (f : X → List ℕ) (xs : List X) (i : ℕ) (x : X) (a b c : Option (List ℕ)) → i < length xs → x ≡ get_or xs i x
    → Appends a b (flat_map f (take i xs)) → AppendsPrefix b c (f x) → AppendsPrefix a c (flat_map f xs)
prefix_listing f xs i x a b c within read first p =
    let split : xs ≡ take i xs ++ x ∷ drop (i + 1) xs =
    sym (take-append-drop i xs) ∙ ap (λ l. take i xs ++ l) (drop_more xs i x within ∙ ap (λ y. y ∷ drop (i + 1) xs) (sym read)) in
    let parts : flat_map f xs ≡ flat_map f (take i xs) ++ (f x ++ flat_map f (drop (i + 1) xs)) =
    ap (flat_map f) split ∙ flat_map-append f (take i xs) (x ∷ drop (i + 1) xs) in
    let P : List ℕ → Type 0 = λ l. AppendsPrefix a c l in
    subst P (sym parts) (prefix_second a b c _ _ first (prefix_first b c _ _ p))

-- the parts before, and then the next part
pub appends_next : {X : Type 0} (f : X → List ℕ) (xs : List X) (i : ℕ) (x : X) (a b c : Option (List ℕ)) → i < length xs → x ≡ get_or xs i x
    → Appends a b (flat_map f (take i xs)) → Appends b c (f x) → Appends a c (flat_map f (take (i + 1) xs))
appends_next f xs i x a b c within read first next =
    let parts : flat_map f (take (i + 1) xs) ≡ flat_map f (take i xs) ++ f x =
    ap (flat_map f) (take_more xs i x within ∙ ap (λ y. take i xs ++ y ∷ []) (sym read)) ∙ flat_map-append f (take i xs) (x ∷ []) ∙ ap (λ l. flat_map f (take i xs) ++ l) (append-nil (f x)) in
    let P : List ℕ → Type 0 = λ l. Appends a c l in
    subst P (sym parts) (Appends-trans a b c _ _ first next)

pub appends_all : {X : Type 0} (f : X → List ℕ) (xs : List X) (i : ℕ) (a b : Option (List ℕ)) → length xs ≤ i → Appends a b (flat_map f (take i xs)) → Appends a b (flat_map f xs)
appends_all {X = X} f xs i a b end all =
    let P : List X → Type 0 = λ l. Appends a b (flat_map f l) in
    subst P (take_all i xs end) all
