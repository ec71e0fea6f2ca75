-- What the items of definitions under one root publish, and those of root by root.
use Rattle.std.proofs.Common.{◌≡◌, ℕ, Bool, true, false, not, ◌&&◌, cond, true≢false, List, [], ◌∷◌, ◌++◌, flat_map, Less, append-nil, append_assoc, refl, sym, ap, subst, ◌∙◌, inl, inr}
use Rattle.std.proofs.lemmas.List.Concat.{flat_map-append}
use Rattle.values.specs.Lists.{IsIn}
use Rattle.values.specs.Map.{AreInOrder}
use Rattle.values.proofs.Members.{in_left, in_right}
use Rattle.glue_words.specs.declared.item.Item.{Item}
use Rattle.glue_shared.specs.Paths.{Path}
use Rattle.glue_targets.specs.PublicTree.{PublicPair, fronts}
use Rattle.glue_targets.specs.Published.{published_by, published_pairs}
use Rattle.glue_exports.specs.declared.definition.ExportDefinition.{ExportDefinition}
use Rattle.glue_exports.specs.Fronts.{path_order}
use Rattle.glue_exports.specs.Tree.{Entry, is_reexport}
use Rattle.glue_exports.specs.Printed.{RootNames, top_items, reexport_items, run_items, share_root, runs_from, runs, is_at_top, is_shown}
use Rattle.glue_exports.specs.Sound.{IsSound, IsDeclaration, entry_pairs, own_pairs}
use Rattle.glue_exports.proofs.Joined.{in_last, from_flat}
use Rattle.glue_exports.proofs.Order.{IsUnder, IsBelow, first_front, goes_on, shared_under, under_shared, left_behind}
use Rattle.glue_exports.proofs.Sorted.{first_behind, rest_ordered, left_ordered, right_ordered}
use Rattle.glue_exports.proofs.Pairs.{group, Publishes, published_none, published_both, published_moved}
use Rattle.glue_exports.proofs.Pieces.{place_pairs, placed_from, top_pairs, reexport_pairs, namespace_published}
use Rattle.glue_exports.proofs.Placing.{own_pair, below_pairs, IsPlaced, published_places, published_first, first_placed, root_placed, first_fronts}

-- Definitions in the paths' order that are sound and printed, at paths that aren't empty, none of which runs through that
-- of a declared one.
pub record IsFit (tree : List Entry) : Type 0 where
  pub ordered : AreInOrder path_order tree
  pub sound : (e : Entry) → IsIn e tree → IsSound e.1
  pub apart : (e f : Entry) → IsIn e tree → IsIn f tree → is_reexport e.1 ≡ false → IsIn e.0 (fronts f.0) → ⊥
  pub rooted : (e : Entry) → IsIn e tree → e.0 ≡ [] → ⊥
  pub shown : (e : Entry) → IsIn e tree → is_shown e ≡ true

-- each of two parts
fit_left : (es more : List Entry) → IsFit (es ++ more) → IsFit es
fit_left es more h = record {
  ordered = left_ordered es more h.ordered;
  sound = λ e i. h.sound e (in_left e es more i);
  apart = λ e f i k. h.apart e f (in_left e es more i) (in_left f es more k);
  rooted = λ e i. h.rooted e (in_left e es more i);
  shown = λ e i. h.shown e (in_left e es more i);
}

fit_right : (es more : List Entry) → IsFit (es ++ more) → IsFit more
fit_right es more h = record {
  ordered = right_ordered es more h.ordered;
  sound = λ e i. h.sound e (in_right e es more i);
  apart = λ e f i k. h.apart e f (in_right e es more i) (in_right f es more k);
  rooted = λ e i. h.rooted e (in_right e es more i);
  shown = λ e i. h.shown e (in_right e es more i);
}

-- ---- one root

module _ (roots : RootNames) (hosts : List (List ℕ)) where
  -- a first definition, and more under the same root
  record IsRun (segment : List ℕ) (path : Path) (d : ExportDefinition) (more : List Entry) : Type 0 where
    fit : IsFit ((segment ∷ path, d) ∷ more)
    under : (e : Entry) → IsIn e more → IsUnder segment e.0

  abbrev run_pairs : List Entry → List PublicPair
  run_pairs run = published_pairs (run_items roots hosts run)

  module _ (segment : List ℕ) (path : Path) (d : ExportDefinition) (more : List Entry) (h : IsRun segment path d more) where
    behind : (e : Entry) → IsIn e more → path_order (segment ∷ path) e.0 ≡ Less
    behind e i = first_behind (segment ∷ path, d) more e h.fit.ordered i

    more_below : (e : Entry) → IsIn e more → IsBelow segment e.0
    more_below e i = goes_on segment path e.0 (behind e i) (h.under e i)

    more_sound : (e : Entry) → IsIn e more → IsSound e.1
    more_sound e i = h.fit.sound e (inr i)

    more_ordered : AreInOrder path_order more
    more_ordered = rest_ordered (segment ∷ path, d) more h.fit.ordered

    -- those behind the first, once it is published
    places : (published : List PublicPair) (before : List Entry) → Publishes published ((segment ∷ path, d.thing) ∷ [])
        → IsPlaced segment ((segment ∷ path, d.thing) ∷ []) before
        → Publishes (published ++ placed_from before more) ((segment ∷ path, d.thing) ∷ own_pairs more)
    places published before p placed =
        published_places segment published ((segment ∷ path, d.thing) ∷ []) before more p placed
        (λ pair e i k. elim i [
          | inl same ↦ ap (λ (x : PublicPair). path_order x.0 e.0) same ∙ behind e k
          | inr none ↦ absurd none
        ]) more_ordered more_below

  -- a namespace
  namespace_run : (segment next : List ℕ) (path : Path) (d : ExportDefinition) (more : List Entry) → IsRun segment (next ∷ path) d more
      → Publishes (run_pairs ((segment ∷ next ∷ path, d) ∷ more)) (own_pairs ((segment ∷ next ∷ path, d) ∷ more))
  namespace_run segment next path d more h =
      let e : Entry = (segment ∷ next ∷ path, d) in
      let own = own_pair e in
      let first : Publishes (group (segment ∷ []) ∷ place_pairs [] e) (own ∷ []) =
      subst (λ (ps : List PublicPair). Publishes ps (own ∷ [])) (first_fronts segment next path d) (published_first own) in
      let all : Publishes (group (segment ∷ []) ∷ placed_from [] (e ∷ more)) (own ∷ own_pairs more) =
      places segment (next ∷ path) d more h (group (segment ∷ []) ∷ place_pairs [] e) (e ∷ []) first (first_placed segment next path d) in
      let named : own_pairs (e ∷ more) ≡ own ∷ own_pairs more = ap (λ (ps : List PublicPair). ps ++ own_pairs more) (below_pairs segment e.0 d refl) in
      namespace_published hosts segment (e ∷ more) h.fit.sound roots (own_pairs (e ∷ more)) (rw named all)

  -- a re-export at the root that is printed isn't private
  shown_public : (reexport private : Bool) → reexport ≡ true → not (reexport && (private && true)) ≡ true → private ≡ false
  shown_public true true e h = absurd (true≢false (sym h))
  shown_public true false e h = refl
  shown_public false private e h = absurd (true≢false (sym e))

  -- a re-export at the root
  reexport_run : (segment : List ℕ) (d : ExportDefinition) (more : List Entry) → IsRun segment [] d more → is_reexport d ≡ true
      → Publishes (published_pairs (reexport_items hosts segment d more)) (own_pairs ((segment ∷ [], d) ∷ more))
  reexport_run segment d more h reexport =
      let own : PublicPair = (segment ∷ [], d.thing) in
      let public = shown_public (is_reexport d) d.private reexport (h.fit.shown (segment ∷ [], d) (inl refl)) in
      let all : Publishes (own ∷ placed_from [] more) (own ∷ own_pairs more) =
      places segment [] d more h (own ∷ []) [] (published_first own) (root_placed segment d) in
      let named : own_pairs ((segment ∷ [], d) ∷ more) ≡ own ∷ own_pairs more =
      ap (λ (b : Bool). cond (b && true) [] (own ∷ []) ++ own_pairs more) public in
      rw (reexport_pairs hosts segment more (more_sound segment [] d more h) d, named) (published_moved own (placed_from [] more) (own ∷ own_pairs more) all)

  -- a declared definition at the root: nothing stands below it
  none_below : (segment : List ℕ) (d : ExportDefinition) (more : List Entry) → IsRun segment [] d more → is_reexport d ≡ false → more ≡ []
  none_below segment d [] h declared = refl
  none_below segment d (e ∷ more) h declared =
      absurd (h.fit.apart (segment ∷ [], d) e (inl refl) (inr (inl refl)) declared
      (first_front segment e.0 (more_below segment [] d (e ∷ more) h e (inl refl))))

  declared_sound : (d : ExportDefinition) → IsSound d → is_reexport d ≡ false → IsDeclaration d
  declared_sound d (inl reexport) declared = absurd (true≢false (sym reexport ∙ declared))
  declared_sound d (inr declaration) declared = declaration

  hidden_published : (segment : List ℕ) (d : ExportDefinition) (private : Bool)
      → Publishes (cond private [] ((segment ∷ [], d.thing) ∷ [])) (cond (private && true) [] ((segment ∷ [], d.thing) ∷ []) ++ [])
  hidden_published segment d true = published_none
  hidden_published segment d false = published_first (segment ∷ [], d.thing)

  top_run : (segment : List ℕ) (d : ExportDefinition) (more : List Entry) → IsRun segment [] d more → is_reexport d ≡ false
      → Publishes (published_pairs (top_items hosts segment d)) (own_pairs ((segment ∷ [], d) ∷ more))
  top_run segment d more h declared =
      let declaration = declared_sound d (h.fit.sound (segment ∷ [], d) (inl refl)) declared in
      rw (none_below segment d more h declared, top_pairs d declaration hosts segment) (hidden_published segment d d.private)

  root_case : (segment : List ℕ) (d : ExportDefinition) (more : List Entry) (reexport : Bool) → is_reexport d ≡ reexport → IsRun segment [] d more
      → Publishes (published_pairs (cond reexport (reexport_items hosts segment d more) (top_items hosts segment d))) (own_pairs ((segment ∷ [], d) ∷ more))
  root_case segment d more true e h = reexport_run segment d more h e
  root_case segment d more false e h = top_run segment d more h e

  -- the items of a run publish what is defined in it
  run_published : (segment : List ℕ) (path : Path) (d : ExportDefinition) (more : List Entry) → IsRun segment path d more
      → Publishes (run_pairs ((segment ∷ path, d) ∷ more)) (own_pairs ((segment ∷ path, d) ∷ more))
  run_published segment [] d more h = root_case segment d more (is_reexport d) refl h
  run_published segment (next ∷ path) d more h = namespace_run segment next path d more h

  -- ---- root by root

  -- the pairs of definitions stand at their paths
  entry_path : (e : Entry) (pair : PublicPair) (hidden : Bool) → IsIn pair (cond hidden [] (own_pair e ∷ [])) → pair.0 ≡ e.0
  entry_path e pair true i = absurd i
  entry_path e pair false (inl same) = ap (λ (p : PublicPair). p.0) same
  entry_path e pair false (inr none) = absurd none

  own_entry : (tree : List Entry) (pair : PublicPair) → IsIn pair (own_pairs tree) → (e : Entry) × IsIn e tree × (pair.0 ≡ e.0)
  own_entry tree pair i = let r = from_flat entry_pairs pair tree i in (r.0, r.1, entry_path r.0 pair (r.0.1.private && is_at_top r.0.0) r.2)

  abbrev runs_pairs : List (List Entry) → List PublicPair
  runs_pairs rs = published_pairs (flat_map (run_items roots hosts) rs)

  -- what definitions under one root publish, and what others behind them do
  split_published : (segment : List ℕ) (path : Path) (d : ExportDefinition) (more rest : List Entry) (later : List (List Entry)) → IsRun segment path d more
      → ((e : Entry) → IsIn e rest → IsUnder segment e.0 → ⊥) → Publishes (runs_pairs later) (own_pairs rest)
      → Publishes (runs_pairs (((segment ∷ path, d) ∷ more) ∷ later)) (own_pairs (((segment ∷ path, d) ∷ more) ++ rest))
  split_published segment path d more rest later h away p =
      let run : List Entry = (segment ∷ path, d) ∷ more in
      let under : (pair : PublicPair) → IsIn pair (own_pairs run) → IsUnder segment pair.0 = λ pair i.
      let r = own_entry run pair i in
      rw r.2 (elim r.1 [ inl same ↦ subst (λ (e : Entry). IsUnder segment e.0) (sym same) refl | inr k ↦ h.under r.0 k ]) in
      let elsewhere : (pair : PublicPair) → IsIn pair (own_pairs rest) → IsUnder segment pair.0 → ⊥ = λ pair i u.
      let r = own_entry rest pair i in away r.0 r.1 (rw r.2 at u) in
      subst (λ (ps : List PublicPair). Publishes ps (own_pairs (run ++ rest)))
      (sym (flat_map-append published_by (run_items roots hosts run) (flat_map (run_items roots hosts) later)))
      (subst (λ (ps : List PublicPair). Publishes (run_pairs run ++ runs_pairs later) ps) (sym (flat_map-append entry_pairs run rest))
      (published_both segment (run_pairs run) (runs_pairs later) (own_pairs run) (own_pairs rest) under elsewhere (run_published segment path d more h) p))

  -- a definition behind a run belongs to it, or begins another one
  next_case : (segment : List ℕ) (path : Path) (d : ExportDefinition) (more : List Entry) (e : Entry) (es : List Entry) (shared : Bool)
      → share_root (segment ∷ path) e.0 ≡ shared → IsFit ((segment ∷ path, d) ∷ (more ++ e ∷ es)) → ((f : Entry) → IsIn f more → IsUnder segment f.0)
      → (IsUnder segment e.0 → Publishes (runs_pairs (runs_from (segment ∷ path, d) (more ++ e ∷ []) es)) (own_pairs ((segment ∷ path, d) ∷ (more ++ e ∷ es))))
      → Publishes (runs_pairs (runs_from e [] es)) (own_pairs (e ∷ es))
      → Publishes (runs_pairs (cond shared (runs_from (segment ∷ path, d) (more ++ e ∷ []) es) (((segment ∷ path, d) ∷ more) ∷ runs_from e [] es)))
      (own_pairs ((segment ∷ path, d) ∷ (more ++ e ∷ es)))
  next_case segment path d more e es true shared h under joined begun = joined (shared_under segment path e.0 shared)
  next_case segment path d more e es false shared h under joined begun =
      let first : Entry = (segment ∷ path, d) in
      let other : IsUnder segment e.0 → ⊥ = λ u. true≢false (sym (under_shared segment path e.0 u) ∙ shared) in
      let less = first_behind first (more ++ e ∷ es) e h.ordered (in_right e more (e ∷ es) (inl refl)) in
      let ordered = right_ordered (first ∷ more) (e ∷ es) h.ordered in
      split_published segment path d more (e ∷ es) (runs_from e [] es) (record { fit = fit_left (first ∷ more) (e ∷ es) h; under = under })
      (λ f i u. elim i [
        | inl same ↦ other (subst (λ (x : Entry). IsUnder segment x.0) same u)
        | inr k ↦ left_behind segment path e.0 f.0 less (first_behind e es f ordered k) other u
      ]) begun

  -- and so do those of the runs that go on from this one
  runs_published : (segment : List ℕ) (path : Path) (d : ExportDefinition) (more es : List Entry) → IsFit ((segment ∷ path, d) ∷ (more ++ es))
      → ((e : Entry) → IsIn e more → IsUnder segment e.0)
      → Publishes (runs_pairs (runs_from (segment ∷ path, d) more es)) (own_pairs ((segment ∷ path, d) ∷ (more ++ es)))
  runs_published segment path d more [] h under =
      let run : List Entry = (segment ∷ path, d) ∷ more in
      let none = append-nil more in
      let fit : IsFit run = subst (λ (xs : List Entry). IsFit ((segment ∷ path, d) ∷ xs)) none h in
      subst (λ (xs : List Entry). Publishes (runs_pairs (run ∷ [])) (own_pairs ((segment ∷ path, d) ∷ xs))) (sym none)
      (subst (λ (items : List Item). Publishes (published_pairs items) (own_pairs run)) (sym (append-nil (run_items roots hosts run)))
      (run_published segment path d more (record { fit = fit; under = under })))
  runs_published segment path d more (([], d2) ∷ es) h under =
      absurd (h.rooted ([], d2) (inr (in_right ([], d2) more (([], d2) ∷ es) (inl refl))) refl)
  runs_published segment path d more ((b ∷ other, d2) ∷ es) h under =
      let e : Entry = (b ∷ other, d2) in
      let joined = append_assoc more (e ∷ []) es in
      next_case segment path d more e es (share_root (segment ∷ path) e.0) refl h under
      (λ u.
      subst (λ (xs : List Entry). Publishes (runs_pairs (runs_from (segment ∷ path, d) (more ++ e ∷ []) es)) (own_pairs ((segment ∷ path, d) ∷ xs))) joined
      (runs_published segment path d (more ++ e ∷ []) es (subst (λ (xs : List Entry). IsFit ((segment ∷ path, d) ∷ xs)) (sym joined) h)
      (λ f i. elim (in_last f e more i) [
        | inl there ↦ under f there
        | inr same ↦ subst (λ (x : Entry). IsUnder segment x.0) (sym same) u
      ])))
      (runs_published b other d2 [] es (fit_right ((segment ∷ path, d) ∷ more) (e ∷ es) h) (λ f i. absurd i))

  -- the items of such definitions publish them
  pub fit_published : (tree : List Entry) → IsFit tree → Publishes (published_pairs (flat_map (run_items roots hosts) (runs tree))) (own_pairs tree)
  fit_published [] h = published_none
  fit_published (([], d) ∷ es) h = absurd (h.rooted ([], d) (inl refl) refl)
  fit_published ((segment ∷ path, d) ∷ es) h = runs_published segment path d [] es h (λ e i. absurd i)
