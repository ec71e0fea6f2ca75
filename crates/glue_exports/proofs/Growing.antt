-- A tree that takes a definition stays one.
use Rattle.std.proofs.Common.{◌≡◌, ℕ, List, [], ◌∷◌, refl, sym, ap, ◌∙◌, cond, Bool, true, false, not, true≢false, nat_eq}
use Rattle.std.specs.Prelude.{◌||◌, ◌&&◌, is_some, Option, Some, map}
use Rattle.std.specs.List.{list_any}
use Rattle.std.specs.Map.{keys_of}
use Rattle.std.specs.declared.cmp.Ordering.{Ordering}
use Rattle.std.specs.declared.cmp.Ordering.TheVariants.{Less, Equal, Greater}
use Rattle.std.specs.Ordering.{is_eq, match_ordering}
use Rattle.std.specs.BTreeMap.{insert_entry}
use Rattle.std.specs.Cmp.Lexicographic.{pointwise}
use Rattle.std.proofs.lemmas.Slice.Eq.{bytes_eq-Decides}
use Rattle.std.proofs.lemmas.Bool.{or_parts, or_from}
use Rattle.values.specs.Map.{look_up, AreInOrder}
use Rattle.values.proofs.Maps.{look_up_inserted}
use Rattle.values.proofs.Same.{texts_decided}
use Rattle.glue_shared.specs.Paths.{Path}
use Rattle.glue_targets.specs.PublicTree.{fronts, same_path}
use Rattle.glue_exports.specs.declared.definition.ExportDefinition.{ExportDefinition}
use Rattle.glue_exports.specs.Fronts.{path_order, runs_through, is_run_through, AreKeys, AreAdded}
use Rattle.glue_exports.specs.Tree.{Entry, has_none, is_reexport, is_declared, found, clashes, defined, IsApart, IsTree, AreParts}
use Rattle.glue_exports.proofs.Keys.{ties}
use Rattle.glue_exports.proofs.Order.{path_total}

-- ---- what a key more changes

swapped : (a b c : Bool) → (a || (b || c)) ≡ (b || (a || c))
swapped true true c = refl
swapped true false c = refl
swapped false b c = refl

or_swapped : (a b : Bool) → (a || b) ≡ (b || a)
or_swapped true true = refl
or_swapped true false = refl
or_swapped false true = refl
or_swapped false false = refl

module _ {K X : Type 0} (R : K → K → Ordering) (P : K → Bool) where
  by_place : (o : Ordering) (e : K × X) (es : List (K × X)) (k : K) (v : X)
      → is_some (cond (is_eq o) (Some e.1) (look_up R es k)) ≡ false
      → list_any P (keys_of (insert_entry R es k v)) ≡ (P k || list_any P (keys_of es))
      → list_any P (keys_of (match_ordering o ((k, v) ∷ e ∷ es) ((e.0, v) ∷ es) (e ∷ insert_entry R es k v)))
      ≡ (P k || (P e.0 || list_any P (keys_of es)))
  by_place Less e es k v new more = refl
  by_place Equal e es k v new more = absurd (true≢false new)
  by_place Greater e es k v new more = ap (λ b. P e.0 || b) more ∙ swapped (P e.0) (P k) (list_any P (keys_of es))

  further : (o : Ordering) (x : X) (r : Option X) → is_some (cond (is_eq o) (Some x) r) ≡ false → is_some r ≡ false
  further Less x r new = new
  further Equal x r new = absurd (true≢false new)
  further Greater x r new = new

  -- a test of keys, once an entry with another key is put in
  pub any_inserted : (es : List (K × X)) (k : K) (v : X) → is_some (look_up R es k) ≡ false
      → list_any P (keys_of (insert_entry R es k v)) ≡ (P k || list_any P (keys_of es))
  any_inserted [] k v new = refl
  any_inserted (e ∷ es) k v new = by_place (R k e.0) e es k v new (any_inserted es k v (further (R k e.0) e.1 (look_up R es k) new))

-- ---- paths and their fronts

same_itself : (path : Path) → same_path path path ≡ true
same_itself path = (texts_decided path path).1 refl

shifted : (segment : List ℕ) (path : Path) (paths : List Path)
    → list_any (same_path (segment ∷ path)) (map (λ front. segment ∷ front) paths) ≡ list_any (same_path path) paths
shifted segment path [] = refl
shifted segment path (front ∷ paths) =
    let same : pointwise nat_eq segment segment ≡ true = (bytes_eq-Decides segment segment).1 refl in
    rw same (ap (λ b. same_path path front || b) (shifted segment path paths))

no_such : (b : Bool) → (b && false) ≡ false
no_such true = refl
no_such false = refl

-- no path runs through itself
pub not_through_itself : (path : Path) → runs_through path path ≡ false
not_through_itself [] = refl
not_through_itself (segment ∷ []) = refl
not_through_itself (segment ∷ next ∷ path) =
    or_from _ _ (no_such _) (shifted segment (next ∷ path) (fronts (next ∷ path)) ∙ not_through_itself (next ∷ path))

-- ---- a definition more

module _ (tree : List Entry) (path : Path) (d : ExportDefinition) (clear : clashes tree path d ≡ false) where
  new_path : is_some (found tree path) ≡ false
  new_path = (or_parts _ _ clear).0

  not_run_through : (not (is_reexport d) && is_run_through (keys_of tree) path) ≡ false
  not_run_through = (or_parts _ _ (or_parts _ _ clear).1).0

  fronts_free : list_any (λ front. is_declared (found tree front)) (fronts path) ≡ false
  fronts_free = (or_parts _ _ (or_parts _ _ clear).1).1

  -- which paths are run through
  pub through_more : (p : Path) → is_run_through (keys_of (defined tree path d)) p ≡ (runs_through path p || is_run_through (keys_of tree) p)
  through_more p = any_inserted path_order (λ q. runs_through q p) tree path d new_path

  not_the_same : (p front : Path) (b : Bool) → same_path p front ≡ b → is_declared (found tree p) ≡ true
      → is_declared (found tree front) ≡ false → same_path p front ≡ false
  not_the_same p front true same declared free =
      absurd (true≢false (sym declared ∙ ap (λ q. is_declared (found tree q)) ((texts_decided p front).0 same) ∙ free))
  not_the_same p front false same declared free = same

  none_same : (p : Path) (paths : List Path) → list_any (λ front. is_declared (found tree front)) paths ≡ false
      → is_declared (found tree p) ≡ true → list_any (same_path p) paths ≡ false
  none_same p [] free declared = refl
  none_same p (front ∷ paths) free declared =
      let parts = or_parts (is_declared (found tree front)) (list_any (λ front. is_declared (found tree front)) paths) free in
      or_from _ _ (not_the_same p front (same_path p front) refl declared parts.0) (none_same p paths parts.1 declared)

  and_true : (a b : Bool) → a ≡ true → (a && b) ≡ false → b ≡ false
  and_true true b a h = h
  and_true false b a h = absurd (true≢false (sym a))

  apart_at : (p : Path) (b : Bool) → same_path p path ≡ b → is_declared (cond b (Some d) (found tree p)) ≡ true → IsApart tree
      → is_run_through (keys_of (defined tree path d)) p ≡ false
  apart_at p true same declared apart =
      let here : p ≡ path = (texts_decided p path).0 same in
      through_more p ∙ or_from _ _ (ap (runs_through path) here ∙ not_through_itself path)
      (ap (is_run_through (keys_of tree)) here ∙ and_true (not (is_reexport d)) _ declared not_run_through)
  apart_at p false same declared apart =
      through_more p ∙ or_from _ _ (none_same p (fronts path) fronts_free declared) (apart p declared)

  pub apart_more : IsApart tree → IsApart (defined tree path d)
  apart_more apart p declared = apart_at p (same_path p path) refl (
      sym (ap is_declared (look_up_inserted path_order path_total tree path d p ∙ ap (λ b. cond b (Some d) (found tree p)) (ties p path))) ∙ declared) apart

  -- the parts of a tree, once the fronts of a path are added and a definition is put there
  pub parts_more : (keys more : List (Path × Bool)) (paths : List Path) → AreKeys keys (is_run_through (keys_of tree)) → IsTree tree
      → AreInOrder path_order (defined tree path d) → has_none path ≡ false → paths ≡ fronts path → AreAdded keys paths more
      → AreParts false more (defined tree path d)
  parts_more keys more paths counted is ordered begins are added = record {
    counted = λ same p. added p
        ∙ ap (λ b. b || list_any (same_path p) paths) (counted p)
        ∙ ap (λ ps. is_run_through (keys_of tree) p || list_any (same_path p) ps) are
        ∙ or_swapped (is_run_through (keys_of tree) p) (runs_through path p)
        ∙ sym (through_more p);
    are_tree = record {
      ordered = ordered;
      apart = apart_more is.apart;
      rooted = any_inserted path_order has_none tree path d new_path ∙ or_from (has_none path) (list_any has_none (keys_of tree)) begins is.rooted;
    };
  }
