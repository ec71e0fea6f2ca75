-- Bytes that lack one, and where bytes are cut at it.
use Rattle.std.proofs.Common.{◌≡◌, ◌≢◌, ℕ, ◌+◌, ◌<◌, ◌≤◌, List, [], ◌∷◌, ◌++◌, length, take, drop, get_or, slice_index, suc, zero, Bool, true, false, not, ◌&&◌, eqb, refl, sym, ap, ◌∙◌, arith, length-append, take-append-drop}
use Rattle.std.proofs.lemmas.List.{get_or_at, drop_more, get_or_read, drop-drop, get_or-drop, length-drop, get_or-take, length-take}
use Rattle.std.specs.List.{list_all}
use Rattle.std.proofs.lemmas.Bool.Decides.{Decides-eqb}
use Rattle.file_listing.specs.Parts.{Lacks, IsFirstCut, IsLastCut}

pub lacks_nil : (c : ℕ) → Lacks c []
lacks_nil c i h = absurd (omega arith)

pub lacks_cons : (c x : ℕ) (xs : List ℕ) → x ≢ c → Lacks c xs → Lacks c (x ∷ xs)
lacks_cons c x xs other rest zero h = other
lacks_cons c x xs other rest (suc i) h = rest i (omega arith)

pub lacks_head : (c x : ℕ) (xs : List ℕ) → Lacks c (x ∷ xs) → x ≢ c
lacks_head c x xs h = h zero (omega arith)

pub lacks_tail : (c x : ℕ) (xs : List ℕ) → Lacks c (x ∷ xs) → Lacks c xs
lacks_tail c x xs h i within = h (suc i) (omega arith)

pub lacks_append : (c : ℕ) (xs ys : List ℕ) → Lacks c xs → Lacks c ys → Lacks c (xs ++ ys)
lacks_append c [] ys a b = b
lacks_append c (x ∷ xs) ys a b = lacks_cons c x (xs ++ ys) (lacks_head c x xs a) (lacks_append c xs ys (lacks_tail c x xs a) b)

pub lacks_front : (c : ℕ) (xs ys : List ℕ) → Lacks c (xs ++ ys) → Lacks c xs
lacks_front c [] ys h = lacks_nil c
lacks_front c (x ∷ xs) ys h = lacks_cons c x xs (lacks_head c x (xs ++ ys) h) (lacks_front c xs ys (lacks_tail c x (xs ++ ys) h))

pub lacks_behind : (c : ℕ) (xs ys : List ℕ) → Lacks c (xs ++ ys) → Lacks c ys
lacks_behind c [] ys h = h
lacks_behind c (x ∷ xs) ys h = lacks_behind c xs ys (lacks_tail c x (xs ++ ys) h)

first_of_both : (a b : Bool) → (a && b) ≡ true → a ≡ true
first_of_both true b h = refl
first_of_both false b h = h

second_of_both : (a b : Bool) → (a && b) ≡ true → b ≡ true
second_of_both true b h = h
second_of_both false b h = cc

other_by_test : (x c : ℕ) → not (eqb x c) ≡ true → x ≢ c
other_by_test x c h same =
    let test : eqb x c ≡ true = (Decides-eqb x c).1 same in
    let opposite : not (eqb x c) ≡ false = ap not test in
    cc

-- a test of a text that is written out
pub lacks_by_test : (c : ℕ) (xs : List ℕ) → list_all (λ x. not (eqb x c)) xs ≡ true → Lacks c xs
lacks_by_test c [] h = lacks_nil c
lacks_by_test c (x ∷ xs) h =
    lacks_cons c x xs (other_by_test x c (first_of_both (not (eqb x c)) (list_all (λ y. not (eqb y c)) xs) h)) (lacks_by_test c xs (second_of_both (not (eqb x c)) (list_all (λ y. not (eqb y c)) xs) h))

-- what has it doesn't lack it
pub not_lacking : (c : ℕ) (xs ys : List ℕ) → Lacks c (xs ++ c ∷ ys) → ⊥
not_lacking c xs ys h = h (length xs) (omega (arith, length-append xs (c ∷ ys))) (get_or_at xs c ys 0 (length xs) refl)

abbrev head_or : ℕ → List ℕ → ℕ
head_or d [] = d
head_or d (x ∷ xs) = x

abbrev tail_of : List ℕ → List ℕ
tail_of [] = []
tail_of (x ∷ xs) = xs

-- there is one first place
pub unique_first : (c : ℕ) (a b d e : List ℕ) → Lacks c a → Lacks c d → a ++ c ∷ b ≡ d ++ c ∷ e → (a ≡ d) × (b ≡ e)
unique_first c [] b [] e l m same = (refl, ap tail_of same)
unique_first c [] b (x ∷ d) e l m same = absurd (lacks_head c x d m (sym (ap (head_or c) same)))
unique_first c (x ∷ a) b [] e l m same = absurd (lacks_head c x a l (ap (head_or c) same))
unique_first c (x ∷ a) b (y ∷ d) e l m same =
    let rest = unique_first c a b d e (lacks_tail c x a l) (lacks_tail c y d m) (ap tail_of same) in
    (ap (λ h. h ∷ a) (ap (head_or c) same) ∙ ap (λ t. y ∷ t) rest.0, rest.1)

-- and one last place
pub unique_last : (c : ℕ) (a b d e : List ℕ) → Lacks c b → Lacks c e → a ++ c ∷ b ≡ d ++ c ∷ e → (a ≡ d) × (b ≡ e)
unique_last c [] b [] e l m same = (refl, ap tail_of same)
unique_last c [] b (x ∷ d) e l m same = absurd (not_lacking c d e (rw (ap tail_of same) at l))
unique_last c (x ∷ a) b [] e l m same = absurd (not_lacking c a b (rw (sym (ap tail_of same)) at m))
unique_last c (x ∷ a) b (y ∷ d) e l m same =
    let rest = unique_last c a b d e l m (ap tail_of same) in
    (ap (λ h. h ∷ a) (ap (head_or c) same) ∙ ap (λ t. y ∷ t) rest.0, rest.1)

-- a place where it stands cuts the bytes
pub cut_there : (c : ℕ) (bytes front end back : List ℕ) (i : ℕ) → i < length bytes → get_or bytes i 0 ≡ c → front ≡ take i bytes → end ≡ drop i bytes → back ≡ drop 1 end
    → bytes ≡ front ++ c ∷ back
cut_there c bytes front end back i within is first last after =
    let next : back ≡ drop (i + 1) bytes = after ∙ ap (drop 1) last ∙ drop-drop 1 i bytes in
    sym (take-append-drop i bytes) ∙ ap (λ l. take i bytes ++ l) (drop_more bytes i 0 within ∙ ap (λ y. y ∷ drop (i + 1) bytes) is)
    ∙ ap (λ l. l ++ c ∷ drop (i + 1) bytes) (sym first) ∙ ap (λ l. front ++ c ∷ l) (sym next)

pub first_cut : (c : ℕ) (bytes front end back : List ℕ) (i : ℕ) → i < length bytes → get_or bytes i 0 ≡ c → ((k : ℕ) → k < i → get_or bytes k 0 ≢ c)
    → front ≡ take i bytes → end ≡ drop i bytes → back ≡ drop 1 end → IsFirstCut c bytes front back
first_cut c bytes front end back i within is before first last after = record {
  whole = cut_there c bytes front end back i within is first last after;
  lacks = λ k h.
      let short : k < i = omega (arith, ap length first, length-take i bytes) in
      λ same. before k short (sym (get_or-take i bytes k 0 short) ∙ ap (λ l. get_or l k 0) (sym first) ∙ same);
}

pub last_cut : (c : ℕ) (bytes front end back : List ℕ) (i : ℕ) → i < length bytes → get_or bytes i 0 ≡ c → ((k : ℕ) → i + 1 ≤ k → k < length bytes → get_or bytes k 0 ≢ c)
    → front ≡ take i bytes → end ≡ drop i bytes → back ≡ drop 1 end → IsLastCut c bytes front back
last_cut c bytes front end back i within is behind first last after =
    let next : back ≡ drop (i + 1) bytes = after ∙ ap (drop 1) last ∙ drop-drop 1 i bytes in
    record {
      whole = cut_there c bytes front end back i within is first last after;
      lacks = λ k h.
          let inside : i + 1 + k < length bytes = omega (arith, ap length next, length-drop (i + 1) bytes) in
          λ same. behind (i + 1 + k) (omega arith) inside (sym (get_or-drop (i + 1) bytes k 0) ∙ ap (λ l. get_or l k 0) (sym next) ∙ same);
    }
