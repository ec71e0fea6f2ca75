-- What the items of a tree declare in the module's scope.
use Rattle.std.proofs.Common.{◌≡◌, ℕ, Bool, true, false, not, ◌&&◌, cond, true≢false, List, [], ◌∷◌, ◌++◌, map, flat_map, None, append-nil, refl, sym, ap, subst, ◌∙◌, inl, inr}
use Rattle.std.proofs.lemmas.Bool.{and_parts, not-false}
use Rattle.std.proofs.lemmas.List.Concat.{flat_map-append}
use Rattle.std.specs.Str.{bytes_eq}
use Rattle.values.specs.Lists.{IsIn, AreDistinct}
use Rattle.glue_words.specs.declared.item.Item.{Item}
use Rattle.glue_words.specs.declared.item.Thing.TheVariants as thing
use Rattle.glue_words.specs.declared.word.Word.{Word}
use Rattle.glue_words.specs.declared.word.Word.TheVariants as w
use Rattle.glue_words.specs.declared.punct.TheConstants as punct
use Rattle.glue_words.specs.Names.{bound_name, bound_in, bound_names}
use Rattle.glue_words.proofs.Linked.{names-append, names-cons}
use Rattle.glue_shared.specs.Names.{is_one_of}
use Rattle.glue_shared.specs.Paths.{Path}
use Rattle.glue_targets.specs.RoleWords.{access_chain, statement_end, assigned_words, empty_object, clause_words, root_words}
use Rattle.glue_exports.specs.declared.definition.ExportDefinition.{ExportDefinition}
use Rattle.glue_exports.specs.Tree.{Entry, IsTree, has_none, is_reexport}
use Rattle.glue_exports.specs.Printed.{RootNames, root_name, named_word, exported_item, publish_item, publish_definition, top_items, root_item, root_publish, inner_item, assign_item, places_from, declared_below, namespace_items, reexport_items, run_items, runs, is_shown, is_at_top, tree_items}
use Rattle.glue_exports.proofs.Joined.{from_filter, from_flat, in_flat, in_filter}
use Rattle.glue_exports.proofs.Order.{IsUnder, IsBelow}
use Rattle.glue_exports.proofs.ExportedFacts.{exported_binds}
use Rattle.glue_exports.proofs.Chains.{chain_each}
use Rattle.glue_exports.proofs.Roots.{IsRunOf, each_run, runs_whole, in_run, namespace_of, segments_distinct, below_under}
use Rattle.glue_exports.proofs.Items.{shown, shown_laid, none_below, IsNamespace, run_namespace, places_each}
use Rattle.glue_exports.proofs.Woven.{from_woven, in_woven, woven_distinct, map-flat_map}

-- ---- items that declare nothing

skipped : (word : Word) (words : List Word) → bound_name word ≡ None → bound_in (word ∷ words) ≡ bound_in words
skipped word words h = rw h refl

none_bound : (items : List Item) → ((item : Item) → IsIn item items → bound_in item.words ≡ []) → bound_names items ≡ []
none_bound [] h = refl
none_bound (item ∷ items) h =
    names-cons bound_name item items ∙ rw (h item (inl refl), none_bound items (λ i k. h i (inr k))) refl

-- a name that is used declares nothing
used_none : (host now : Bool) (name : List ℕ) → bound_name (cond host (w.Host name now) (w.Refer name now)) ≡ None
used_none true now name = refl
used_none false now name = refl

clause_word : (segment : List ℕ) (word : Word) → bound_name word ≡ None → bound_in (clause_words segment word) ≡ []
clause_word segment word h = rw h refl

module _ (hosts : List (List ℕ)) where
  named_none : (d : ExportDefinition) (now : Bool) → bound_name (named_word hosts d now) ≡ None
  named_none d now = used_none (is_reexport d && is_one_of hosts d.identifier) now d.identifier

  chain_none : (path : Path) (words : List Word) → bound_in words ≡ [] → bound_in (access_chain path ++ words) ≡ []
  chain_none = chain_each (λ words. bound_in words ≡ []) (λ name words ident h. h) (λ name words h. h)

  module _ (root : Word) (operator : ℕ) (h : bound_name root ≡ None) where
    inner_none : (path : Path) → bound_in (inner_item root operator path).words ≡ []
    inner_none path =
        skipped root (access_chain path ++ assigned_words operator empty_object) h ∙ chain_none path (assigned_words operator empty_object) refl

    assign_none : (e : Entry) → bound_in (assign_item hosts root e).words ≡ []
    assign_none e =
        let name = named_word hosts e.1 true in
        skipped root (access_chain e.0 ++ assigned_words punct.ASSIGN (name ∷ [])) h
        ∙ chain_none e.0 (assigned_words punct.ASSIGN (name ∷ [])) (skipped name statement_end (named_none e.1 true))

    places_none : (segment : List ℕ) (before below : List Entry) → ((e : Entry) → IsIn e below → IsBelow segment e.0)
        → bound_names (places_from hosts root operator before below) ≡ []
    places_none segment before below under =
        none_bound (places_from hosts root operator before below)
        (places_each (λ item. bound_in item.words ≡ []) hosts root operator segment before below (λ path u. inner_none path) (λ e i u. assign_none e) under)

  clause_none : (segment : List ℕ) (d : ExportDefinition) → bound_in (publish_definition hosts segment d).words ≡ []
  clause_none segment d = clause_word segment (named_word hosts d false) (named_none d false)

-- ---- the items of definitions

all_exported : (items : List Item) → bound_names (map exported_item items) ≡ bound_names items
all_exported [] = refl
all_exported (item ∷ items) =
    names-cons bound_name (exported_item item) (map exported_item items)
    ∙ rw (exported_binds item, all_exported items) (sym (names-cons bound_name item items))

-- what definitions declare by their own items
abbrev pub own_names : List Entry → List (List ℕ)
own_names tree = bound_names (declared_below tree)

top_names : (hosts : List (List ℕ)) (segment : List ℕ) (d : ExportDefinition) → bound_names (top_items hosts segment d) ≡ bound_names d.items
top_names hosts segment d = by d.private (bytes_eq d.identifier segment)
  where
    by : (private same : Bool)
        → bound_names (cond private d.items (cond same (map exported_item d.items) (d.items ++ publish_definition hosts segment d ∷ []))) ≡ bound_names d.items
    by true same = refl
    by false true = all_exported d.items
    by false false =
        names-append bound_name d.items (publish_definition hosts segment d ∷ [])
        ∙ ap (λ (names : List (List ℕ)). bound_names d.items ++ names)
        (none_bound (publish_definition hosts segment d ∷ []) (λ item i. elim i [ inl same ↦ rw same (clause_none hosts segment d) | inr none ↦ absurd none ]))
        ∙ append-nil (bound_names d.items)

-- the declaration of a namespace's object declares its name
pub root_binds : (name : List ℕ) (exported : Bool) → bound_in (root_words exported name) ≡ name ∷ []
root_binds name true = refl
root_binds name false = refl

no_items : (items : List Item) → has_none items ≡ true → items ≡ []
no_items [] h = refl
no_items (item ∷ items) h = absurd (true≢false (sym h))

module _ (roots : RootNames) (hosts : List (List ℕ)) where
  root_publish_none : (segment name : List ℕ) → bound_names (root_publish segment name) ≡ []
  root_publish_none segment name = none_bound (root_publish segment name) (by (bytes_eq name segment))
    where
      clause : Item
      clause = publish_item segment (thing.Group (segment ∷ [])) name (w.Refer name false)

      by : (b : Bool) (item : Item) → IsIn item (cond b [] (clause ∷ [])) → bound_in item.words ≡ []
      by true item i = absurd i
      by false item i = elim i [ inl same ↦ rw same refl | inr none ↦ absurd none ]

  namespace_names : (segment : List ℕ) (below : List Entry) → ((e : Entry) → IsIn e below → IsBelow segment e.0)
      → bound_names (namespace_items roots hosts segment below) ≡ own_names below ++ root_name roots segment ∷ []
  namespace_names segment below under =
      let name = root_name roots segment in
      let places = places_from hosts (w.Refer name true) punct.ASSIGN [] below in
      names-append bound_name (declared_below below) (root_item segment name ∷ (places ++ root_publish segment name))
      ∙ ap (λ (names : List (List ℕ)). own_names below ++ names)
      (names-cons bound_name (root_item segment name) (places ++ root_publish segment name)
      ∙ rw (root_binds name (bytes_eq name segment), names-append bound_name places (root_publish segment name), places_none hosts (w.Refer name true) punct.ASSIGN refl segment [] below under, root_publish_none segment name)
      refl)

  reexport_names : (segment : List ℕ) (d : ExportDefinition) (below : List Entry) → ((e : Entry) → IsIn e below → IsBelow segment e.0)
      → bound_names (reexport_items hosts segment d below) ≡ own_names below
  reexport_names segment d below under =
      let root = named_word hosts d true in
      let places = places_from hosts root punct.OR_ASSIGN [] below in
      names-append bound_name (declared_below below) (places ++ publish_definition hosts segment d ∷ [])
      ∙ ap (λ (names : List (List ℕ)). own_names below ++ names)
      (names-append bound_name places (publish_definition hosts segment d ∷ [])
      ∙ rw (places_none hosts root punct.OR_ASSIGN (named_none hosts d true) segment [] below under)
      (none_bound (publish_definition hosts segment d ∷ []) (λ item i. elim i [ inl same ↦ rw same (clause_none hosts segment d) | inr none ↦ absurd none ])))
      ∙ append-nil (own_names below)

  abbrev space_names : List Entry → List (List ℕ)
  space_names run = map (root_name roots) (namespace_of run)

  -- a run's items declare what its definitions do, and the namespace's name
  run_names : (tree run : List Entry) → IsTree tree → IsRunOf (shown tree) run
      → bound_names (run_items roots hosts run) ≡ own_names run ++ space_names run
  run_names tree [] t r = absurd r.form
  run_names tree (([], d) ∷ more) t r = absurd r.form
  run_names tree ((segment ∷ [], d) ∷ more) t r = by (is_reexport d) refl
    where
      by : (b : Bool) → is_reexport d ≡ b
          → bound_names (cond b (reexport_items hosts segment d more) (top_items hosts segment d)) ≡ own_names ((segment ∷ [], d) ∷ more) ++ []
      by true q =
          reexport_names segment d more r.form ∙ ap (λ (items : List Item). bound_names (items ++ declared_below more)) (sym (no_items d.items q))
          ∙ sym (append-nil (own_names ((segment ∷ [], d) ∷ more)))
      by false q =
          top_names hosts segment d
          ∙ ap bound_names (sym (append-nil d.items))
          ∙ ap (λ (es : List Entry). own_names ((segment ∷ [], d) ∷ es)) (sym (none_below tree segment d more t r q))
          ∙ sym (append-nil (own_names ((segment ∷ [], d) ∷ more)))
  run_names tree ((segment ∷ next ∷ path, d) ∷ more) t r =
      namespace_names segment ((segment ∷ next ∷ path, d) ∷ more) under
    where
      under : (e : Entry) → IsIn e ((segment ∷ next ∷ path, d) ∷ more) → IsBelow segment e.0
      under e (inl same) = rw same refl
      under e (inr k) = r.form e k

  -- ---- all of them

  runs_names : (rs : List (List Entry)) → ((run : List Entry) → IsIn run rs → bound_names (run_items roots hosts run) ≡ own_names run ++ space_names run)
      → bound_names (flat_map (run_items roots hosts) rs) ≡ flat_map (λ run. own_names run ++ space_names run) rs
  runs_names [] h = refl
  runs_names (run ∷ rs) h =
      names-append bound_name (run_items roots hosts run) (flat_map (run_items roots hosts) rs)
      ∙ rw (h run (inl refl), runs_names rs (λ r i. h r (inr i))) refl

own_whole : (rs : List (List Entry)) → own_names (flat_map (λ run. run) rs) ≡ flat_map own_names rs
own_whole [] = refl
own_whole (run ∷ rs) =
    ap bound_names (flat_map-append (λ (e : Entry). e.1.items) run (flat_map (λ run. run) rs))
    ∙ names-append bound_name (declared_below run) (declared_below (flat_map (λ run. run) rs))
    ∙ ap (λ (names : List (List ℕ)). own_names run ++ names) (own_whole rs)

-- what isn't printed is a re-export, and declares nothing
shown_case : (e : Entry) (es : List Entry) (b : Bool) → is_shown e ≡ b → declared_below (cond b (e ∷ es) es) ≡ e.1.items ++ declared_below es
shown_case e es true h = refl
shown_case e es false h =
    let hidden = (and_parts (is_reexport e.1) (e.1.private && is_at_top e.0) (not-false (is_reexport e.1 && (e.1.private && is_at_top e.0)) h)).0 in
    ap (λ (items : List Item). items ++ declared_below es) (sym (no_items e.1.items hidden))

shown_own : (tree : List Entry) → declared_below (shown tree) ≡ declared_below tree
shown_own [] = refl
shown_own (e ∷ tree) = shown_case e (shown tree) (is_shown e) refl ∙ ap (λ (items : List Item). e.1.items ++ items) (shown_own tree)

-- the segments of a tree's namespaces at the root
abbrev pub root_segments : List Entry → List (List ℕ)
root_segments tree = flat_map namespace_of (runs (shown tree))

-- and the namespaces' names
abbrev pub root_names : RootNames → List Entry → List (List ℕ)
root_names roots tree = map (root_name roots) (root_segments tree)

module _ (roots : RootNames) (hosts : List (List ℕ)) (tree : List Entry) (t : IsTree tree) where
  abbrev names : List (List ℕ)
  names = flat_map (λ run. own_names run ++ map (root_name roots) (namespace_of run)) (runs (shown tree))

  names_are : bound_names (tree_items roots hosts tree) ≡ names
  names_are = runs_names roots hosts (runs (shown tree)) (λ run i. run_names roots hosts tree run t (each_run (shown tree) run (shown_laid tree t) i))

  parts_are : flat_map own_names (runs (shown tree)) ++ flat_map (λ run. map (root_name roots) (namespace_of run)) (runs (shown tree)) ≡ own_names tree ++ root_names roots tree
  parts_are =
      rw (← map-flat_map (root_name roots) namespace_of (runs (shown tree)))
      (ap (λ (ns : List (List ℕ)). ns ++ root_names roots tree)
      (sym (own_whole (runs (shown tree))) ∙ ap own_names (sym (runs_whole (shown tree) (shown_laid tree t))) ∙ ap bound_names (shown_own tree)))

  -- the items declare what the definitions do, and the namespaces' names at the root
  pub bound_only : (name : List ℕ) → IsIn name (bound_names (tree_items roots hosts tree)) → IsIn name (own_names tree ++ root_names roots tree)
  bound_only name i =
      subst (IsIn name) parts_are (from_woven own_names (λ run. map (root_name roots) (namespace_of run)) name (runs (shown tree)) (subst (IsIn name) names_are i))

  pub bound_all : (name : List ℕ) → IsIn name (own_names tree ++ root_names roots tree) → IsIn name (bound_names (tree_items roots hosts tree))
  bound_all name i =
      subst (IsIn name) (sym names_are)
      (in_woven own_names (λ run. map (root_name roots) (namespace_of run)) name (runs (shown tree)) (subst (IsIn name) (sym parts_are) i))

  -- each name once, where these are distinct
  pub bound_distinct : AreDistinct (own_names tree ++ root_names roots tree) → AreDistinct (bound_names (tree_items roots hosts tree))
  bound_distinct h =
      subst AreDistinct (sym names_are)
      (woven_distinct own_names (λ run. map (root_name roots) (namespace_of run)) (runs (shown tree)) (subst AreDistinct (sym parts_are) h))

-- ---- namespaces at the root

one_segment : (segment a : List ℕ) (path : Path) → IsBelow segment path → IsUnder a path → a ≡ segment
one_segment segment a [] u v = absurd u
one_segment segment a (b ∷ []) u v = absurd u
one_segment segment a (b ∷ c ∷ path) u v = sym v ∙ u

-- a run with such a path is a namespace's
run_segment : (tree run : List Entry) (segment : List ℕ) (n : IsNamespace tree segment) → IsRunOf (shown tree) run → IsIn n.entry run
    → IsIn segment (namespace_of run)
run_segment tree [] segment n r i = absurd i
run_segment tree (([], d) ∷ more) segment n r i = absurd r.form
run_segment tree ((a ∷ [], d) ∷ more) segment n r (inl first) = absurd (subst (λ (e : Entry). IsBelow segment e.0) first n.below)
run_segment tree ((a ∷ [], d) ∷ more) segment n r (inr k) =
    let passes = from_filter is_shown (a ∷ [], d) tree (r.among (a ∷ [], d) (inl refl)) in
    let at = one_segment segment a n.entry.0 n.below (below_under a n.entry.0 (r.form n.entry k)) in
    absurd (true≢false (sym passes.1 ∙ n.alone (a ∷ [], d) passes.0 (ap (λ (s : List ℕ). s ∷ []) at)))
run_segment tree ((a ∷ next ∷ path, d) ∷ more) segment n r (inl first) = inl (sym (subst (λ (e : Entry). IsBelow segment e.0) first n.below))
run_segment tree ((a ∷ next ∷ path, d) ∷ more) segment n r (inr k) =
    inl (sym (one_segment segment a n.entry.0 n.below (below_under a n.entry.0 (r.form n.entry k))))

-- a path that goes on is printed
below_shown : (segment : List ℕ) (e : Entry) → IsBelow segment e.0 → is_shown e ≡ true
below_shown segment (path, d) below = by path below (is_reexport d) d.private
  where
    by : (p : Path) → IsBelow segment p → (reexport private : Bool) → not (reexport && (private && is_at_top p)) ≡ true
    by [] u reexport private = absurd u
    by (a ∷ []) u reexport private = absurd u
    by (a ∷ b ∷ p) u true true = refl
    by (a ∷ b ∷ p) u true false = refl
    by (a ∷ b ∷ p) u false private = refl

module _ (tree : List Entry) (t : IsTree tree) where
  -- the segments are those of the namespaces
  pub segment_all : (segment : List ℕ) → IsNamespace tree segment → IsIn segment (root_segments tree)
  segment_all segment n =
      let laid = shown_laid tree t in
      let r = in_run (shown tree) n.entry laid (in_filter is_shown n.entry tree n.there (below_shown segment n.entry n.below)) in
      in_flat namespace_of r.0 segment (runs (shown tree)) r.1 (run_segment tree r.0 segment n (each_run (shown tree) r.0 laid r.1) r.2)

  pub segment_only : (segment : List ℕ) → IsIn segment (root_segments tree) → IsNamespace tree segment
  segment_only segment i =
      let r = from_flat namespace_of segment (runs (shown tree)) i in
      by r.0 (each_run (shown tree) r.0 (shown_laid tree t) r.1) r.2
    where
      by : (run : List Entry) → IsRunOf (shown tree) run → IsIn segment (namespace_of run) → IsNamespace tree segment
      by [] r i = absurd i
      by (([], d) ∷ more) r i = absurd i
      by ((a ∷ [], d) ∷ more) r i = absurd i
      by ((a ∷ next ∷ path, d) ∷ more) r (inl same) = rw same (run_namespace tree a next path d more r)
      by ((a ∷ next ∷ path, d) ∷ more) r (inr none) = absurd none

  -- and each is another one
  pub each_segment : AreDistinct (root_segments tree)
  each_segment = segments_distinct (shown tree) (shown_laid tree t)
