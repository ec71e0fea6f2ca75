-- What definitions under one segment publish, and the objects of their namespaces.
use Rattle.std.proofs.Common.{◌≡◌, ℕ, Bool, true, false, not, ◌&&◌, ◌||◌, cond, List, [], ◌∷◌, ◌++◌, map, filter, Less, append-nil, append_assoc, refl, sym, ap, subst, ◌∙◌, inl, inr}
use Rattle.std.proofs.lemmas.Bool.{or_left, or_from, and_right, cond-false, false_from_ne_true}
use Rattle.std.proofs.lemmas.List.Folds.{list_any-append}
use Rattle.values.specs.Lists.{IsIn}
use Rattle.values.specs.Map.{AreInOrder}
use Rattle.glue_shared.specs.Paths.{Path}
use Rattle.glue_targets.specs.PublicTree.{PublicPair, fronts, same_path}
use Rattle.glue_exports.specs.declared.definition.ExportDefinition.{ExportDefinition}
use Rattle.glue_exports.specs.Fronts.{path_order, runs_through}
use Rattle.glue_exports.specs.Tree.{Entry}
use Rattle.glue_exports.specs.Printed.{inner_fronts, is_placed, new_fronts}
use Rattle.glue_exports.specs.Sound.{entry_pairs, own_pairs}
use Rattle.glue_exports.proofs.Joined.{in_last, filter_same, filter_all, from_map}
use Rattle.glue_exports.proofs.Order.{IsBelow, no_front, same_is, first_front}
use Rattle.glue_exports.proofs.Sorted.{first_behind, rest_ordered}
use Rattle.glue_exports.proofs.Pairs.{group, Publishes, stands, stands_at, stands_through, free_fronts, placed_pairs, published_none, published_more}
use Rattle.glue_exports.proofs.Pieces.{place_pairs, placed_from}

-- the pair of a definition at its path
abbrev pub own_pair : Entry → PublicPair
own_pair e = (e.0, e.1.thing)

-- a definition below a segment is published
pub below_pairs : (segment : List ℕ) (path : Path) (d : ExportDefinition) → IsBelow segment path → entry_pairs (path, d) ≡ (path, d.thing) ∷ []
below_pairs segment [] d h = absurd h
below_pairs segment (a ∷ []) d h = absurd h
below_pairs segment (a ∷ n ∷ path) d h = cond-false (d.private && false) [] ((a ∷ n ∷ path, d.thing) ∷ []) (and_right d.private false refl)

module _ (segment : List ℕ) where
  -- Something stands at the segment or runs through it, and below it pairs stand where definitions do.
  pub record IsPlaced (pairs : List PublicPair) (before : List Entry) : Type 0 where
    pub root : stands pairs (segment ∷ []) ≡ true
    pub inner : (next : List ℕ) (path : Path) → stands pairs (segment ∷ next ∷ path) ≡ is_placed before (segment ∷ next ∷ path)

  -- so it is once a definition more is there
  placed_next : (pairs : List PublicPair) (before : List Entry) (e : Entry) → IsPlaced pairs before → IsPlaced (pairs ++ own_pair e ∷ []) (before ++ e ∷ [])
  placed_next pairs before e h = record {
    root =
        list_any-append (λ (pair : PublicPair). same_path pair.0 (segment ∷ []) || runs_through pair.0 (segment ∷ [])) pairs (own_pair e ∷ [])
        ∙ or_left (stands pairs (segment ∷ [])) (stands (own_pair e ∷ []) (segment ∷ [])) h.root;
    inner = λ next path.
        let front = segment ∷ next ∷ path in
        list_any-append (λ (pair : PublicPair). same_path pair.0 front || runs_through pair.0 front) pairs (own_pair e ∷ [])
        ∙ ap (λ (b : Bool). b || is_placed (e ∷ []) front) (h.inner next path)
        ∙ sym (list_any-append (λ (f : Entry). same_path f.0 front || runs_through f.0 front) before (e ∷ []));
  }

  module _ (pairs : List PublicPair) (before : List Entry) (h : IsPlaced pairs before) where
    same_inner : (next : List ℕ) (path front : Path) → IsIn front (fronts (next ∷ path)) → stands pairs (segment ∷ front) ≡ is_placed before (segment ∷ front)
    same_inner next path [] i = absurd (no_front (next ∷ path) i)
    same_inner next path (a ∷ front) i = h.inner a front

    free_inner : (next : List ℕ) (path : Path) → free_fronts pairs (segment ∷ next ∷ path) ≡ new_fronts before (segment ∷ next ∷ path)
    free_inner next path =
        ap (λ (b : Bool). cond (not b) ((segment ∷ []) ∷ filter (λ front. not (stands pairs front)) (inner_fronts (segment ∷ next ∷ path))) (filter (λ front. not (stands pairs front)) (inner_fronts (segment ∷ next ∷ path)))) h.root
        ∙ filter_same (λ front. not (stands pairs front)) (λ front. not (is_placed before front)) (inner_fronts (segment ∷ next ∷ path))
        (λ front i.
        let r = from_map (λ (f : Path). segment ∷ f) front (fronts (next ∷ path)) i in
        ap not (ap (stands pairs) r.2 ∙ same_inner next path r.0 r.1 ∙ ap (is_placed before) (sym r.2)))

    -- the fronts of a path at which nothing stands are those that have to be put there
    pub free_new : (path : Path) → IsBelow segment path → free_fronts pairs path ≡ new_fronts before path
    free_new [] below = absurd below
    free_new (a ∷ []) below = absurd below
    free_new (a ∷ next ∷ path) below =
        subst (λ (s : List ℕ). free_fronts pairs (s ∷ next ∷ path) ≡ new_fronts before (s ∷ next ∷ path)) (sym below) (free_inner next path)

  -- definitions below the segment that stand behind others add themselves and their objects
  pub published_places : (published pairs : List PublicPair) (before below : List Entry) → Publishes published pairs → IsPlaced pairs before
      → ((pair : PublicPair) (e : Entry) → IsIn pair pairs → IsIn e below → path_order pair.0 e.0 ≡ Less) → AreInOrder path_order below
      → ((e : Entry) → IsIn e below → IsBelow segment e.0) → Publishes (published ++ placed_from before below) (pairs ++ own_pairs below)
  published_places published pairs before [] p h behind ordered under = rw (append-nil published, append-nil pairs) p
  published_places published pairs before (e ∷ below) p h behind ordered under =
      let own = own_pair e in
      let here = under e (inl refl) in
      let one = published_more published pairs p own (λ pair i. behind pair e i (inl refl)) in
      let new : placed_pairs pairs own ≡ place_pairs before e = ap (λ (fs : List Path). map group fs ++ own ∷ []) (free_new pairs before h e.0 here) in
      let next = published_places (published ++ placed_pairs pairs own) (pairs ++ own ∷ []) (before ++ e ∷ []) below one (placed_next pairs before e h)
      (λ pair f i k. elim (in_last pair own pairs i) [
        | inl there ↦ behind pair f there (inr k)
        | inr same ↦ ap (λ (x : PublicPair). path_order x.0 f.0) same ∙ first_behind e below f ordered k
      ]) (rest_ordered e below ordered) (λ f k. under f (inr k)) in
      let left : published ++ placed_from before (e ∷ below) ≡ (published ++ placed_pairs pairs own) ++ placed_from (before ++ e ∷ []) below =
      sym (append_assoc published (place_pairs before e) (placed_from (before ++ e ∷ []) below))
      ∙ ap (λ (ps : List PublicPair). (published ++ ps) ++ placed_from (before ++ e ∷ []) below) (sym new) in
      let right : pairs ++ own_pairs (e ∷ below) ≡ (pairs ++ own ∷ []) ++ own_pairs below =
      ap (λ (ps : List PublicPair). pairs ++ (ps ++ own_pairs below)) (below_pairs segment e.0 e.1 here) ∙ sym (append_assoc pairs (own ∷ []) (own_pairs below)) in
      rw (left, right) next

-- what is published where nothing is yet
pub published_first : (pair : PublicPair) → Publishes (placed_pairs [] pair) (pair ∷ [])
published_first pair = published_more [] [] published_none pair (λ other i. absurd i)

-- a namespace's first definition
pub first_placed : (segment next : List ℕ) (path : Path) (d : ExportDefinition)
    → IsPlaced segment ((segment ∷ next ∷ path, d.thing) ∷ []) ((segment ∷ next ∷ path, d) ∷ [])
first_placed segment next path d = record {
  root =
      let pair : PublicPair = (segment ∷ next ∷ path, d.thing) in
      stands_through (pair ∷ []) (segment ∷ []) pair (inl refl) (first_front segment (segment ∷ next ∷ path) refl);
  inner = λ n p. refl;
}

-- a definition at the segment itself
pub root_placed : (segment : List ℕ) (d : ExportDefinition) → IsPlaced segment ((segment ∷ [], d.thing) ∷ []) []
root_placed segment d = record {
  root = stands_at ((segment ∷ [], d.thing) ∷ []) (segment ∷ []) (segment ∷ [], d.thing) (inl refl) refl;
  inner = λ next path.
      or_from (same_path (segment ∷ []) (segment ∷ next ∷ path) || false) false
      (or_from (same_path (segment ∷ []) (segment ∷ next ∷ path)) false
      (false_from_ne_true (same_path (segment ∷ []) (segment ∷ next ∷ path)) (λ e. let same = same_is (segment ∷ []) (segment ∷ next ∷ path) e in cc)) refl) refl;
}

-- the objects of the first definition's namespaces
pub first_fronts : (segment next : List ℕ) (path : Path) (d : ExportDefinition)
    → placed_pairs [] (segment ∷ next ∷ path, d.thing) ≡ group (segment ∷ []) ∷ place_pairs [] (segment ∷ next ∷ path, d)
first_fronts segment next path d =
    ap (λ (fs : List Path). map group fs ++ (segment ∷ next ∷ path, d.thing) ∷ []) (filter_all (fronts (segment ∷ next ∷ path)))
    ∙ ap (λ (fs : List Path). group (segment ∷ []) ∷ (map group fs ++ (segment ∷ next ∷ path, d.thing) ∷ [])) (sym (filter_all (inner_fronts (segment ∷ next ∷ path))))
