-- Where the items of a tree come from.
use Rattle.std.proofs.Common.{◌≡◌, ℕ, Bool, true, false, cond, true≢false, List, [], ◌∷◌, ◌++◌, map, filter, refl, ap, subst, inl, inr}
use Rattle.std.specs.Str.{bytes_eq}
use Rattle.values.specs.Lists.{IsIn}
use Rattle.values.proofs.Members.{in_right, in_either}
use Rattle.glue_words.specs.declared.item.Item.{Item}
use Rattle.glue_words.specs.declared.item.Thing.TheVariants as thing
use Rattle.glue_words.specs.declared.word.Word.{Word}
use Rattle.glue_words.specs.declared.word.Word.TheVariants as w
use Rattle.glue_words.specs.declared.punct.TheConstants as punct
use Rattle.glue_shared.specs.Paths.{Path}
use Rattle.glue_targets.specs.PublicTree.{fronts}
use Rattle.glue_exports.specs.declared.definition.ExportDefinition.{ExportDefinition}
use Rattle.glue_exports.specs.Tree.{Entry, IsTree, is_reexport}
use Rattle.glue_exports.specs.Printed.{RootNames, root_name, named_word, exported_item, publish_item, publish_definition, top_items, root_item, root_publish, inner_item, assign_item, inner_fronts, new_fronts, place_items, places_from, declared_below, namespace_items, reexport_items, run_items, runs, is_shown, tree_items}
use Rattle.glue_exports.proofs.Joined.{from_filter, in_filter, from_map, in_flat, from_flat}
use Rattle.glue_exports.proofs.Order.{IsUnder, IsBelow, no_front, first_front}
use Rattle.glue_exports.proofs.Sorted.{filter_ordered}
use Rattle.glue_exports.proofs.Published.{each_rooted, none_runs}
use Rattle.glue_exports.proofs.Roots.{IsLaid, IsRunOf, each_run, below_under}

-- ---- the definitions that are printed

-- those of a tree
abbrev pub shown : List Entry → List Entry
shown tree = filter is_shown tree

pub shown_in : (tree : List Entry) (e : Entry) → IsIn e (shown tree) → IsIn e tree
shown_in tree e i = (from_filter is_shown e tree i).0

pub shown_laid : (tree : List Entry) → IsTree tree → IsLaid (shown tree)
shown_laid tree t = record {
  ordered = filter_ordered is_shown tree t.ordered;
  rooted = λ e i. each_rooted tree e t.rooted (shown_in tree e i);
}

-- nothing stands below a declared one at the root
pub none_below : (tree : List Entry) (segment : List ℕ) (d : ExportDefinition) (more : List Entry) → IsTree tree
    → IsRunOf (shown tree) ((segment ∷ [], d) ∷ more) → is_reexport d ≡ false → more ≡ []
none_below tree segment d [] t h declared = refl
none_below tree segment d (e ∷ more) t h declared =
    absurd (none_runs tree t (segment ∷ [], d) e (shown_in tree _ (h.among _ (inl refl))) (shown_in tree e (h.among e (inr (inl refl)))) declared
    (first_front segment e.0 (h.form e (inl refl))))

-- A segment at which a namespace is printed: a path of the tree goes on there, and what stands at the segment itself isn't
-- printed.
pub record IsNamespace (tree : List Entry) (segment : List ℕ) : Type 0 where
  pub entry : Entry
  pub there : IsIn entry tree
  pub below : IsBelow segment entry.0
  pub alone : (e : Entry) → IsIn e tree → e.0 ≡ segment ∷ [] → is_shown e ≡ false

-- a run whose first path goes on is one
pub run_namespace : (tree : List Entry) (segment next : List ℕ) (path : Path) (d : ExportDefinition) (more : List Entry)
    → IsRunOf (shown tree) ((segment ∷ next ∷ path, d) ∷ more) → IsNamespace tree segment
run_namespace tree segment next path d more h = record {
  entry = (segment ∷ next ∷ path, d);
  there = shown_in tree _ (h.among _ (inl refl));
  below = refl;
  alone = λ e i at. hidden e i at (is_shown e) refl;
}
  where
    first : Entry
    first = (segment ∷ next ∷ path, d)

    none : (e : Entry) → e.0 ≡ segment ∷ [] → IsIn e (first ∷ more) → ⊥
    none e at (inl same) = let p = ap (λ (x : Entry). x.0) same in cc
    none e at (inr k) = subst (IsBelow segment) at (h.form e k)

    hidden : (e : Entry) → IsIn e tree → e.0 ≡ segment ∷ [] → (b : Bool) → is_shown e ≡ b → b ≡ false
    hidden e i at false q = refl
    hidden e i at true q =
        absurd (none e at (h.all segment first e (inl refl) refl (in_filter is_shown e tree i q) (rw at refl)))

-- ---- what puts definitions at their places

inner_below : (segment : List ℕ) (path front : Path) → IsUnder segment path → IsIn front (inner_fronts path) → IsBelow segment front
inner_below segment [] front under i = absurd i
inner_below segment (a ∷ path) front under i =
    let r = from_map (λ (f : Path). a ∷ f) front (fronts path) i in rw r.2 (goes_on r.0 r.1)
  where
    goes_on : (f : Path) → IsIn f (fronts path) → IsBelow segment (a ∷ f)
    goes_on [] k = no_front path k
    goes_on (b ∷ f) k = under

-- what holds of objects below a segment, and of definitions that are put there, holds of each item that puts them there
pub places_each : (P : Item → Type 0) (hosts : List (List ℕ)) (root : Word) (operator : ℕ) (segment : List ℕ) (before below : List Entry)
    → ((path : Path) → IsBelow segment path → P (inner_item root operator path))
    → ((e : Entry) → IsIn e below → IsBelow segment e.0 → P (assign_item hosts root e))
    → ((e : Entry) → IsIn e below → IsBelow segment e.0) → (item : Item) → IsIn item (places_from hosts root operator before below) → P item
places_each P hosts root operator segment before [] inner assigned under item i = absurd i
places_each P hosts root operator segment before (e ∷ below) inner assigned under item i =
    let here = under e (inl refl) in
    elim (in_either item (place_items hosts root operator before e) (places_from hosts root operator (before ++ e ∷ []) below) i) [
      | inl one ↦ elim (in_either item (map (inner_item root operator) (new_fronts before e.0)) (assign_item hosts root e ∷ []) one) [
        | inl object ↦
            let r = from_map (inner_item root operator) item (new_fronts before e.0) object in
            rw r.2 (inner r.0 (inner_below segment e.0 r.0 (below_under segment e.0 here) (from_filter _ r.0 (inner_fronts e.0) r.1).0))
        | inr last ↦ elim last [ inl same ↦ rw same (assigned e (inl refl) here) | inr none ↦ absurd none ]
      ]
      | inr later ↦ places_each P hosts root operator segment (before ++ e ∷ []) below inner (λ f k u. assigned f (inr k) u) (λ f k. under f (inr k)) item later
    ]

-- ---- all items

module _ (roots : RootNames) (hosts : List (List ℕ)) (tree : List Entry) where
  abbrev pub printed : List Item
  printed = tree_items roots hosts tree

  -- the name of a namespace at the root
  abbrev pub object_name : List ℕ → List ℕ
  object_name segment = root_name roots segment

  -- the clause that publishes its object
  abbrev pub object_clause : List ℕ → Item
  object_clause segment = publish_item segment (thing.Group (segment ∷ [])) (object_name segment) (w.Refer (object_name segment) false)

  -- a namespace at the root whose object is declared, and published under the namespace's own name
  pub record IsMade (segment : List ℕ) : Type 0 where
    pub namespace : IsNamespace tree segment
    pub stands : IsIn (root_item segment (object_name segment)) printed
    pub published : bytes_eq (object_name segment) segment ≡ false → IsIn (object_clause segment) printed

  -- a re-export at the root that is published
  pub record IsGiven (segment : List ℕ) (d : ExportDefinition) : Type 0 where
    pub there : IsIn (segment ∷ [], d) tree
    pub reexport : is_reexport d ≡ true
    pub published : IsIn (publish_definition hosts segment d) printed

  -- What stands at a segment below which definitions are put: a namespace's object, or the one that a re-export names. The
  -- word names it, and the operator puts objects into it.
  pub data IsObject (segment : List ℕ) (root : Word) (operator : ℕ) : Type 0 where
    Made : IsMade segment → root ≡ w.Refer (object_name segment) true → operator ≡ punct.ASSIGN → IsObject segment root operator
    Given : (d : ExportDefinition) → IsGiven segment d → root ≡ named_word hosts d true → operator ≡ punct.OR_ASSIGN → IsObject segment root operator

  -- what holds of each item that a tree may print
  pub record OfEach (P : Item → Type 0) : Type 0 where
    pub own : (e : Entry) (item : Item) → IsIn e tree → IsIn item e.1.items → P item
    pub exported : (e : Entry) (item : Item) → IsIn e tree → IsIn item e.1.items → P (exported_item item)
    pub clause : (segment : List ℕ) (d : ExportDefinition) → IsIn (segment ∷ [], d) tree → P (publish_definition hosts segment d)
    pub object : (segment : List ℕ) → IsMade segment → P (root_item segment (object_name segment))
    pub published : (segment : List ℕ) → IsMade segment → P (object_clause segment)
    pub inner : (segment : List ℕ) (root : Word) (operator : ℕ) → IsObject segment root operator → (path : Path) → IsBelow segment path
        → P (inner_item root operator path)
    pub assigned : (segment : List ℕ) (root : Word) (operator : ℕ) → IsObject segment root operator → (e : Entry) → IsIn e tree
        → IsBelow segment e.0 → P (assign_item hosts root e)

  module _ (t : IsTree tree) (P : Item → Type 0) (h : OfEach P) where
    of_own : (es : List Entry) → ((e : Entry) → IsIn e es → IsIn e tree) → (item : Item) → IsIn item (declared_below es) → P item
    of_own es among item i = let r = from_flat (λ (e : Entry). e.1.items) item es i in h.own r.0 item (among r.0 r.1) r.2

    -- a definition at the top level
    of_top : (segment : List ℕ) (d : ExportDefinition) → IsIn (segment ∷ [], d) tree → (item : Item) → IsIn item (top_items hosts segment d) → P item
    of_top segment d there item i = by d.private (bytes_eq d.identifier segment) i
      where
        e : Entry
        e = (segment ∷ [], d)

        by : (private same : Bool) → IsIn item (cond private d.items (cond same (map exported_item d.items) (d.items ++ publish_definition hosts segment d ∷ [])))
            → P item
        by true same i = h.own e item there i
        by false true i = let r = from_map exported_item item d.items i in rw r.2 (h.exported e r.0 there r.1)
        by false false i = elim (in_either item d.items (publish_definition hosts segment d ∷ []) i) [
          | inl own ↦ h.own e item there own
          | inr last ↦ elim last [ inl same ↦ rw same (h.clause segment d there) | inr none ↦ absurd none ]
        ]

    -- a namespace
    of_namespace : (segment : List ℕ) (below : List Entry) → ((e : Entry) → IsIn e below → IsIn e tree)
        → ((e : Entry) → IsIn e below → IsBelow segment e.0) → IsNamespace tree segment
        → ((item : Item) → IsIn item (namespace_items roots hosts segment below) → IsIn item printed)
        → (item : Item) → IsIn item (namespace_items roots hosts segment below) → P item
    of_namespace segment below among under namespace all item i =
        elim (in_either item (declared_below below) rest i) [
          | inl own ↦ of_own below among item own
          | inr behind ↦ elim behind [
            | inl same ↦ rw same (h.object segment made)
            | inr later ↦ elim (in_either item places (root_publish segment name) later) [
              | inl place ↦
                  places_each P hosts (w.Refer name true) punct.ASSIGN segment [] below
                  (λ path u. h.inner segment (w.Refer name true) punct.ASSIGN (Made made refl refl) path u)
                  (λ e k u. h.assigned segment (w.Refer name true) punct.ASSIGN (Made made refl refl) e (among e k) u) under item place
              | inr last ↦ published (bytes_eq name segment) last
            ]
          ]
        ]
      where
        name : List ℕ
        name = object_name segment

        places : List Item
        places = places_from hosts (w.Refer name true) punct.ASSIGN [] below

        rest : List Item
        rest = root_item segment name ∷ (places ++ root_publish segment name)

        clause_in : (b : Bool) → b ≡ false → IsIn (object_clause segment) (cond b [] (object_clause segment ∷ []))
        clause_in true e = absurd (true≢false e)
        clause_in false e = inl refl

        made : IsMade segment
        made = record {
          namespace = namespace;
          stands = all _ (in_right _ (declared_below below) rest (inl refl));
          published = λ e.
              all _ (in_right _ (declared_below below) rest (inr (in_right _ places (root_publish segment name) (clause_in (bytes_eq name segment) e))));
        }

        published : (b : Bool) → IsIn item (cond b [] (object_clause segment ∷ [])) → P item
        published true i = absurd i
        published false i = elim i [ inl same ↦ rw same (h.published segment made) | inr none ↦ absurd none ]

    -- a re-export
    of_reexport : (segment : List ℕ) (d : ExportDefinition) (below : List Entry) → IsIn (segment ∷ [], d) tree → is_reexport d ≡ true
        → ((e : Entry) → IsIn e below → IsIn e tree) → ((e : Entry) → IsIn e below → IsBelow segment e.0)
        → ((item : Item) → IsIn item (reexport_items hosts segment d below) → IsIn item printed)
        → (item : Item) → IsIn item (reexport_items hosts segment d below) → P item
    of_reexport segment d below there reexport among under all item i =
        elim (in_either item (declared_below below) (places ++ publish_definition hosts segment d ∷ []) i) [
          | inl own ↦ of_own below among item own
          | inr behind ↦ elim (in_either item places (publish_definition hosts segment d ∷ []) behind) [
            | inl place ↦
                places_each P hosts (named_word hosts d true) punct.OR_ASSIGN segment [] below
                (λ path u. h.inner segment (named_word hosts d true) punct.OR_ASSIGN (Given d given refl refl) path u)
                (λ e k u. h.assigned segment (named_word hosts d true) punct.OR_ASSIGN (Given d given refl refl) e (among e k) u) under item place
            | inr last ↦ elim last [ inl same ↦ rw same (h.clause segment d there) | inr none ↦ absurd none ]
          ]
        ]
      where
        places : List Item
        places = places_from hosts (named_word hosts d true) punct.OR_ASSIGN [] below

        given : IsGiven segment d
        given = record {
          there = there;
          reexport = reexport;
          published =
              all _ (in_right _ (declared_below below) (places ++ publish_definition hosts segment d ∷ []) (in_right _ places (publish_definition hosts segment d ∷ []) (inl refl)));
        }

    of_run : (run : List Entry) → IsRunOf (shown tree) run → ((item : Item) → IsIn item (run_items roots hosts run) → IsIn item printed)
        → (item : Item) → IsIn item (run_items roots hosts run) → P item
    of_run [] r all item i = absurd i
    of_run (([], d) ∷ more) r all item i = absurd i
    of_run ((segment ∷ [], d) ∷ more) r all item i = by (is_reexport d) refl all i
      where
        there : IsIn (segment ∷ [], d) tree
        there = shown_in tree _ (r.among _ (inl refl))

        by : (b : Bool) → is_reexport d ≡ b
            → ((item : Item) → IsIn item (cond b (reexport_items hosts segment d more) (top_items hosts segment d)) → IsIn item printed)
            → IsIn item (cond b (reexport_items hosts segment d more) (top_items hosts segment d)) → P item
        by true q all i =
            of_reexport segment d more there q (λ e k. shown_in tree e (r.among e (inr k))) r.form all item i
        by false q all i = of_top segment d there item i
    of_run ((segment ∷ next ∷ path, d) ∷ more) r all item i =
        of_namespace segment ((segment ∷ next ∷ path, d) ∷ more) (λ e k. shown_in tree e (r.among e k)) under
        (run_namespace tree segment next path d more r) all item i
      where
        under : (e : Entry) → IsIn e ((segment ∷ next ∷ path, d) ∷ more) → IsBelow segment e.0
        under e (inl same) = rw same refl
        under e (inr k) = r.form e k

    -- it holds of each item of the tree
    pub each_printed : (item : Item) → IsIn item printed → P item
    each_printed item i =
        let r = from_flat (run_items roots hosts) item (runs (shown tree)) i in
        of_run r.0 (each_run (shown tree) r.0 (shown_laid tree t) r.1) (λ other k. in_flat (run_items roots hosts) r.0 other (runs (shown tree)) r.1 k) item r.2
