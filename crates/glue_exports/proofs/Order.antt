-- The order of paths, the fronts of a path, and its first segment.
use Rattle.std.proofs.Common.{◌≡◌, ℕ, true, true≢false, List, [], ◌∷◌, refl, sym, ap, ◌∙◌, inl, inr, Ordering, Less, Equal, Greater}
use Rattle.std.specs.Cmp.{IsTotalOrder, tied_itself}
use Rattle.std.specs.Cmp.Lexicographic.{slice_cmp, lists_total, nat_list_cmp_total}
use Rattle.std.specs.Ordering.{nat_cmp, ordering_then, ordering_reverse}
use Rattle.std.proofs.lemmas.Map.Lookups.{exact_bytes}
use Rattle.std.proofs.lemmas.Slice.Eq.{bytes_eq-Decides}
use Rattle.values.specs.Lists.{IsIn, AreDistinct}
use Rattle.values.proofs.Same.{texts_decided}
use Rattle.glue_shared.specs.Paths.{Path}
use Rattle.glue_targets.specs.PublicTree.{fronts, same_path}
use Rattle.glue_exports.specs.Fronts.{path_order, runs_through}
use Rattle.glue_exports.specs.Printed.{share_root}
use Rattle.glue_exports.proofs.Joined.{from_map, map_distinct, any_in, from_any}

pub path_total : IsTotalOrder path_order
path_total = lists_total nat_list_cmp_total

-- ---- fronts

-- what the tests of a path and of a front say
pub same_is : (a b : Path) → same_path a b ≡ true → a ≡ b
same_is a b = (texts_decided a b).0

pub is_same : (a b : Path) → a ≡ b → same_path a b ≡ true
is_same a b = (texts_decided a b).1

pub runs_in : (path front : Path) → runs_through path front ≡ true → IsIn front (fronts path)
runs_in path front h =
    let r = from_any (same_path front) (fronts path) h in rw (← same_is front r.0 r.2) at r.1

pub in_runs : (path front : Path) → IsIn front (fronts path) → runs_through path front ≡ true
in_runs path front i = any_in (same_path front) front (fronts path) i (is_same front front refl)

-- a front begins as the path does
front_form : (a : List ℕ) (path front : Path) → IsIn front (fronts (a ∷ path)) → (rest : Path) × (front ≡ a ∷ rest)
front_form a [] front i = absurd i
front_form a (n ∷ path) front (inl same) = ([], same)
front_form a (n ∷ path) front (inr i) = let r = from_map (λ f. a ∷ f) front (fronts (n ∷ path)) i in (r.0, r.2)

-- a front isn't empty
pub no_front : (path : Path) → IsIn [] (fronts path) → ⊥
no_front [] i = i
no_front (a ∷ path) i = let e = (front_form a path [] i).1 in cc

-- the fronts of a path differ
pub fronts_distinct : (path : Path) → AreDistinct (fronts path)
fronts_distinct [] = tt
fronts_distinct (a ∷ []) = tt
fronts_distinct (a ∷ n ∷ path) = (
  λ i.
      let r = from_map (λ front. a ∷ front) (a ∷ []) (fronts (n ∷ path)) i in
      let e = r.2 in
      let none : [] ≡ r.0 = cc in
      no_front (n ∷ path) (rw (← none) at r.1),
  map_distinct (λ front. a ∷ front) (λ x y e. cc) (fronts (n ∷ path)) (fronts_distinct (n ∷ path)),
)

-- ---- the order

-- a path isn't below itself
pub not_self : (path other : Path) → path_order path other ≡ Less → path ≡ other → ⊥
not_self path other less same = let e = tied_itself path_total path in let f = ap (path_order path) same in cc

same_first : (a : List ℕ) (p q : Path) → path_order (a ∷ p) (a ∷ q) ≡ path_order p q
same_first a p q = ap (λ o. ordering_then o (path_order p q)) (tied_itself nat_list_cmp_total a)

-- a front stands before the path
pub front_before : (path front : Path) → IsIn front (fronts path) → path_order front path ≡ Less
front_before [] front i = absurd i
front_before (a ∷ []) front i = absurd i
front_before (a ∷ n ∷ path) front (inl same) = ap (λ f. path_order f (a ∷ n ∷ path)) same ∙ same_first a [] (n ∷ path)
front_before (a ∷ n ∷ path) front (inr i) =
    let r = from_map (λ front. a ∷ front) front (fronts (n ∷ path)) i in
    ap (λ f. path_order f (a ∷ n ∷ path)) r.2 ∙ same_first a r.0 (n ∷ path) ∙ front_before (n ∷ path) r.0 r.1

-- what stands behind a path is no front of it
pub not_front : (path other : Path) → path_order path other ≡ Less → IsIn other (fronts path) → ⊥
not_front path other less i =
    let e = front_before path other i in let turned = path_total.antisymm path other in let t = ap ordering_reverse e in cc

-- ---- the first segment

-- the path begins with the segment
abbrev pub IsUnder : List ℕ → Path → Type 0
IsUnder segment [] = ⊥
IsUnder segment (a ∷ path) = a ≡ segment

-- and goes on
abbrev pub IsBelow : List ℕ → Path → Type 0
IsBelow segment [] = ⊥
IsBelow segment (a ∷ []) = ⊥
IsBelow segment (a ∷ n ∷ path) = a ≡ segment

-- a path and its fronts begin with the same segment
pub front_under : (segment : List ℕ) (path front : Path) → IsIn front (fronts path) → IsUnder segment path → IsUnder segment front
front_under segment [] front i h = absurd h
front_under segment (a ∷ path) front i h = rw (front_form a path front i).1 h

pub under_front : (segment : List ℕ) (path front : Path) → IsIn front (fronts path) → IsUnder segment front → IsUnder segment path
under_front segment [] front i h = absurd i
under_front segment (a ∷ path) front i h = rw (front_form a path front i).1 at h

-- a path that goes on runs through its first segment
pub first_front : (segment : List ℕ) (path : Path) → IsBelow segment path → IsIn (segment ∷ []) (fronts path)
first_front segment [] h = absurd h
first_front segment (a ∷ []) h = absurd h
first_front segment (a ∷ n ∷ path) h = inl (ap (λ s. s ∷ []) (sym h))

-- what the test of a shared root says
pub shared_under : (a : List ℕ) (path other : Path) → share_root (a ∷ path) other ≡ true → IsUnder a other
shared_under a path [] h = absurd (true≢false (sym h))
shared_under a path (b ∷ other) h = sym ((bytes_eq-Decides a b).0 h)

pub under_shared : (a : List ℕ) (path other : Path) → IsUnder a other → share_root (a ∷ path) other ≡ true
under_shared a path [] h = absurd h
under_shared a path (b ∷ other) h = (bytes_eq-Decides a b).1 (sym h)

abbrev text_order : List ℕ → List ℕ → Ordering
text_order = slice_cmp nat_cmp

-- of two paths with different first segments, the one that stands before has the lower one
first_below : (a b : List ℕ) (p q : Path) (o : Ordering) → text_order a b ≡ o → path_order (a ∷ p) (b ∷ q) ≡ Less → (a ≡ b → ⊥) → o ≡ Less
first_below a b p q Less e less other = refl
first_below a b p q Equal e less other = absurd (other (exact_bytes a b e))
first_below a b p q Greater e less other = let t = ap (λ o. ordering_then o (path_order p q)) e in cc

-- no path under a segment stands behind one that isn't, once that stands behind one that is
pub left_behind : (a : List ℕ) (path other last : Path) → path_order (a ∷ path) other ≡ Less → path_order other last ≡ Less
    → (IsUnder a other → ⊥) → IsUnder a last → ⊥
left_behind a path [] last less more away h = cc
left_behind a path (b ∷ other) [] less more away h = h
left_behind a path (b ∷ other) (c ∷ last) less more away h =
    let before = first_below a b path other (text_order a b) refl less (λ e. away (sym e)) in
    let turned = nat_list_cmp_total.antisymm b a ∙ ap ordering_reverse before in
    let t = ap (λ o. ordering_then o (path_order other last)) (ap (text_order b) h ∙ turned) in
    cc

-- a path under the segment that stands behind another one goes on
pub goes_on : (a : List ℕ) (path other : Path) → path_order (a ∷ path) other ≡ Less → IsUnder a other → IsBelow a other
goes_on a path [] less h = absurd h
goes_on a path (b ∷ n ∷ other) less h = h
goes_on a path (b ∷ []) less h =
    absurd (not_below path (sym (same_first a path []) ∙ ap (λ (c : List ℕ). path_order (a ∷ path) (c ∷ [])) (sym h) ∙ less))
  where
    not_below : (p : Path) → path_order p [] ≡ Less → ⊥
    not_below [] e = cc
    not_below (c ∷ p) e = cc
