-- What the items of definitions, of namespaces and of what stands in them publish.
use Rattle.std.proofs.Common.{◌≡◌, ℕ, Bool, true, false, cond, true≢false, List, [], ◌∷◌, ◌++◌, map, append-nil, refl, sym, ap, subst, ◌∙◌, inl, inr}
use Rattle.std.proofs.lemmas.Bool.{and_parts}
use Rattle.std.proofs.lemmas.List.{map-append}
use Rattle.std.proofs.lemmas.List.Concat.{flat_map-append}
use Rattle.std.proofs.lemmas.List.Folds.{list_all-append}
use Rattle.std.proofs.lemmas.Slice.Eq.{bytes_eq-Decides}
use Rattle.std.specs.List.{list_all, list_any}
use Rattle.std.specs.Str.{bytes_eq}
use Rattle.values.specs.Lists.{IsIn}
use Rattle.glue_words.specs.declared.item.Item.{Item}
use Rattle.glue_words.specs.declared.item.Role.{Role}
use Rattle.glue_words.specs.declared.item.Role.TheVariants as role
use Rattle.glue_words.specs.declared.item.Thing.TheVariants as thing
use Rattle.glue_words.specs.declared.word.Word.{Word}
use Rattle.glue_words.specs.declared.word.Word.TheVariants as w
use Rattle.glue_words.specs.declared.punct.TheConstants as punct
use Rattle.glue_words.specs.Names.{bound_in, is_export_key}
use Rattle.glue_shared.specs.Paths.{Path}
use Rattle.glue_targets.specs.PublicTree.{PublicPair, fronts}
use Rattle.glue_targets.specs.Published.{pairs_of, published_by, published_pairs, is_exported}
use Rattle.glue_targets.specs.RoleWords.{root_words}
use Rattle.glue_exports.specs.declared.definition.ExportDefinition.{ExportDefinition}
use Rattle.glue_exports.specs.Tree.{Entry, has_none}
use Rattle.glue_exports.proofs.ExportedFacts.{exported_role, exported_binds, exported_is_exported}
use Rattle.glue_exports.specs.Printed.{RootNames, root_name, named_word, exported_by, exported_item, publish_item, publish_definition, top_items, root_item, root_publish, inner_item, assign_item, inner_fronts, new_fronts, place_items, places_from, declared_below, namespace_items, reexport_items}
use Rattle.glue_exports.specs.Sound.{is_plain, IsDeclaration, IsSound}
use Rattle.glue_exports.proofs.Joined.{from_filter, from_map}
use Rattle.glue_exports.proofs.Order.{IsBelow, no_front}
use Rattle.glue_exports.proofs.Pairs.{group, Publishes, published_moved}

published_append : (xs ys : List Item) → published_pairs (xs ++ ys) ≡ published_pairs xs ++ published_pairs ys
published_append = flat_map-append published_by

-- ---- what a definition's own items publish

-- a plain item publishes nothing, and is never exported
plain_role : (r : Role) (exported : Bool) (names : List (List ℕ)) → is_plain r ≡ true → pairs_of r exported names ≡ []
plain_role (role.Declare t) exported names h = absurd (true≢false (sym h))
plain_role (role.Publish path t name) exported names h = absurd (true≢false (sym h))
plain_role (role.Namespace path) exported names h = absurd (true≢false (sym h))
plain_role (role.Assign path t name) exported names h = absurd (true≢false (sym h))
plain_role r exported names h = refl

kept_role : (r : Role) (item : Item) → is_plain r ≡ true → exported_by r item ≡ item
kept_role (role.Declare t) item h = absurd (true≢false (sym h))
kept_role r item h = refl

abbrev are_plain : List Item → Bool
are_plain items = list_all (λ (i : Item). is_plain i.role) items

plain_items : (items : List Item) → are_plain items ≡ true → published_pairs items ≡ []
plain_items [] h = refl
plain_items (i ∷ items) h =
    let both = and_parts (is_plain i.role) (are_plain items) h in
    rw (plain_role i.role (is_exported i) (bound_in i.words) both.0, plain_items items both.1) refl

kept_items : (items : List Item) → are_plain items ≡ true → map exported_item items ≡ items
kept_items [] h = refl
kept_items (i ∷ items) h =
    let both = and_parts (is_plain i.role) (are_plain items) h in
    rw (kept_role i.role i both.0, kept_items items both.1) refl

-- a declaration publishes nothing by itself, and its thing where it is exported
module _ (d : ExportDefinition) (h : IsDeclaration d) where
  plain_both : (are_plain h.before ≡ true) × (are_plain h.after ≡ true)
  plain_both =
      and_parts (are_plain h.before) (are_plain h.after)
      (sym (list_all-append (λ (i : Item). is_plain i.role) h.before h.after) ∙ h.plain)

  -- the pairs of the items around the declaration, and its own
  around : (item : Item) → published_pairs (h.before ++ item ∷ h.after) ≡ published_by item ++ []
  around item = published_append h.before (item ∷ h.after) ∙ rw (plain_items h.before plain_both.0, plain_items h.after plain_both.1) refl

  declares_none : published_pairs d.items ≡ []
  declares_none =
      ap published_pairs h.are ∙ around h.item
      ∙ ap (λ (r : Role). pairs_of r (is_exported h.item) (bound_in h.item.words) ++ []) h.declares
      ∙ ap (λ (b : Bool). pairs_of (role.Declare d.thing) b (bound_in h.item.words) ++ []) h.unexported

  exported_pair : published_by (exported_item h.item) ≡ (d.identifier ∷ [], d.thing) ∷ []
  exported_pair =
      ap (λ (r : Role). pairs_of r (is_exported (exported_item h.item)) (bound_in (exported_item h.item).words)) (exported_role h.item ∙ h.declares)
      ∙ ap (λ (b : Bool). pairs_of (role.Declare d.thing) b (bound_in (exported_item h.item).words)) (exported_is_exported h.item d.thing h.declares)
      ∙ ap (λ (names : List (List ℕ)). pairs_of (role.Declare d.thing) true names) (exported_binds h.item ∙ h.binds)

  exported_around : map exported_item (h.before ++ h.item ∷ h.after) ≡ h.before ++ exported_item h.item ∷ h.after
  exported_around =
      map-append exported_item h.before (h.item ∷ h.after) ∙ rw (kept_items h.before plain_both.0, kept_items h.after plain_both.1) refl

  exported_one : published_pairs (map exported_item d.items) ≡ (d.identifier ∷ [], d.thing) ∷ []
  exported_one =
      ap (λ (items : List Item). published_pairs (map exported_item items)) h.are ∙ ap published_pairs exported_around
      ∙ around (exported_item h.item) ∙ append-nil (published_by (exported_item h.item)) ∙ exported_pair

  top_case : (hosts : List (List ℕ)) (segment : List ℕ) (b : Bool) → bytes_eq d.identifier segment ≡ b
      → published_pairs (cond b (map exported_item d.items) (d.items ++ publish_definition hosts segment d ∷ [])) ≡ (segment ∷ [], d.thing) ∷ []
  top_case hosts segment true e = exported_one ∙ ap (λ (name : List ℕ). (name ∷ [], d.thing) ∷ []) ((bytes_eq-Decides d.identifier segment).0 e)
  top_case hosts segment false e = published_append d.items (publish_definition hosts segment d ∷ []) ∙ rw declares_none refl

  hidden_case : (hosts : List (List ℕ)) (segment : List ℕ) (private : Bool)
      → published_pairs (cond private d.items (cond (bytes_eq d.identifier segment) (map exported_item d.items) (d.items ++ publish_definition hosts segment d ∷ [])))
      ≡ cond private [] ((segment ∷ [], d.thing) ∷ [])
  hidden_case hosts segment true = declares_none
  hidden_case hosts segment false = top_case hosts segment (bytes_eq d.identifier segment) refl

  -- a definition at the top level publishes itself, where it isn't private
  pub top_pairs : (hosts : List (List ℕ)) (segment : List ℕ) → published_pairs (top_items hosts segment d) ≡ cond d.private [] ((segment ∷ [], d.thing) ∷ [])
  top_pairs hosts segment = hidden_case hosts segment d.private

no_items : (items : List Item) → has_none items ≡ true → published_pairs items ≡ []
no_items [] h = refl
no_items (i ∷ items) h = absurd (true≢false (sym h))

-- the items of a definition publish nothing by themselves
sound_none : (d : ExportDefinition) → IsSound d → published_pairs d.items ≡ []
sound_none d (inl reexport) = no_items d.items reexport
sound_none d (inr declared) = declares_none d declared

-- nor do the declarations of what stands in a namespace
pub below_none : (below : List Entry) → ((e : Entry) → IsIn e below → IsSound e.1) → published_pairs (declared_below below) ≡ []
below_none [] h = refl
below_none (e ∷ below) h =
    published_append e.1.items (declared_below below)
    ∙ rw (sound_none e.1 (h e (inl refl)), below_none below (λ f i. h f (inr i))) refl

-- ---- what puts definitions at their places

-- an inner front has two segments or more, and its object is published where it is put
inner_below : (path front : Path) → IsIn front (inner_fronts path) → (segment : List ℕ) × IsBelow segment front
inner_below [] front i = absurd i
inner_below (segment ∷ path) front i =
    let r = from_map (λ (f : Path). segment ∷ f) front (fronts path) i in (segment, rw r.2 (goes_on r.0 r.1))
  where
    goes_on : (f : Path) → IsIn f (fronts path) → IsBelow segment (segment ∷ f)
    goes_on [] k = no_front path k
    goes_on (a ∷ f) k = refl

inner_pairs : (root : Word) (operator : ℕ) (fs : List Path) → ((front : Path) → IsIn front fs → (segment : List ℕ) × IsBelow segment front)
    → published_pairs (map (inner_item root operator) fs) ≡ map group fs
inner_pairs root operator [] h = refl
inner_pairs root operator ([] ∷ fs) h = absurd ((h [] (inl refl)).1)
inner_pairs root operator ((a ∷ []) ∷ fs) h = absurd ((h (a ∷ []) (inl refl)).1)
inner_pairs root operator ((a ∷ n ∷ path) ∷ fs) h = ap (λ (pairs : List PublicPair). group (a ∷ n ∷ path) ∷ pairs) (inner_pairs root operator fs (λ front i. h front (inr i)))

-- the objects that are new, and the definition
abbrev pub place_pairs : List Entry → Entry → List PublicPair
place_pairs before e = map group (new_fronts before e.0) ++ (e.0, e.1.thing) ∷ []

-- the same of all of these
abbrev pub placed_from : List Entry → List Entry → List PublicPair
placed_from before [] = []
placed_from before (e ∷ below) = place_pairs before e ++ placed_from (before ++ e ∷ []) below

-- what is put in its place is published there
pub places_pairs : (hosts : List (List ℕ)) (root : Word) (operator : ℕ) (before below : List Entry)
    → published_pairs (places_from hosts root operator before below) ≡ placed_from before below
places_pairs hosts root operator before [] = refl
places_pairs hosts root operator before (e ∷ below) =
    published_append (place_items hosts root operator before e) (places_from hosts root operator (before ++ e ∷ []) below)
    ∙ rw (places_pairs hosts root operator (before ++ e ∷ []) below) (ap (λ (pairs : List PublicPair). pairs ++ placed_from (before ++ e ∷ []) below)
    (published_append (map (inner_item root operator) (new_fronts before e.0)) (assign_item hosts root e ∷ [])
    ∙ ap (λ (pairs : List PublicPair). pairs ++ (e.0, e.1.thing) ∷ [])
    (inner_pairs root operator (new_fronts before e.0) (λ front i. inner_below e.0 front (from_filter _ front (inner_fronts e.0) i).0))))

-- ---- namespaces and re-exports at the root

-- what the declaration of a namespace's object publishes, and the clause behind it
root_pairs : (segment name : List ℕ) (exported : Bool) → pairs_of (role.Namespace (segment ∷ [])) (list_any is_export_key (root_words exported name)) (bound_in (root_words exported name))
    ≡ cond exported ((name ∷ [], thing.Group (segment ∷ [])) ∷ []) []
root_pairs segment name true = refl
root_pairs segment name false = refl

publish_case : (segment name : List ℕ) (exported : Bool)
    → published_pairs (cond exported [] (publish_item segment (thing.Group (segment ∷ [])) name (w.Refer name false) ∷ [])) ≡ cond exported [] (group (segment ∷ []) ∷ [])
publish_case segment name true = refl
publish_case segment name false = refl

-- a namespace's object that is published with its declaration, or behind the others
namespace_case : (segment name : List ℕ) (placed pairs : List PublicPair) (exported : Bool) → bytes_eq name segment ≡ exported
    → Publishes (group (segment ∷ []) ∷ placed) pairs
    → Publishes (cond exported ((name ∷ [], thing.Group (segment ∷ [])) ∷ []) [] ++ (placed ++ cond exported [] (group (segment ∷ []) ∷ []))) pairs
namespace_case segment name placed pairs true e h = rw ((bytes_eq-Decides name segment).0 e, append-nil placed) h
namespace_case segment name placed pairs false e h = published_moved (group (segment ∷ [])) placed pairs h

module _ (hosts : List (List ℕ)) (segment : List ℕ) (below : List Entry) (sound : (e : Entry) → IsIn e below → IsSound e.1) where
  placed_with : (operator : ℕ) (root : Word) (first last : List Item)
      → published_pairs (declared_below below ++ (first ++ (places_from hosts root operator [] below ++ last)))
      ≡ published_pairs first ++ (placed_from [] below ++ published_pairs last)
  placed_with operator root first last =
      published_append (declared_below below) (first ++ (places_from hosts root operator [] below ++ last))
      ∙ ap (λ (ps : List PublicPair). ps ++ published_pairs (first ++ (places_from hosts root operator [] below ++ last))) (below_none below sound)
      ∙ published_append first (places_from hosts root operator [] below ++ last)
      ∙ ap (λ (ps : List PublicPair). published_pairs first ++ ps) (published_append (places_from hosts root operator [] below) last
      ∙ ap (λ (ps : List PublicPair). ps ++ published_pairs last) (places_pairs hosts root operator [] below))

  -- a re-export publishes what stands below it, and itself
  pub reexport_pairs : (d : ExportDefinition) → published_pairs (reexport_items hosts segment d below) ≡ placed_from [] below ++ (segment ∷ [], d.thing) ∷ []
  reexport_pairs d = placed_with punct.OR_ASSIGN (named_word hosts d true) [] (publish_definition hosts segment d ∷ [])

  -- a namespace publishes its object, and what stands below it
  pub namespace_published : (roots : RootNames) (pairs : List PublicPair) → Publishes (group (segment ∷ []) ∷ placed_from [] below) pairs
      → Publishes (published_pairs (namespace_items roots hosts segment below)) pairs
  namespace_published roots pairs h =
      let name = root_name roots segment in
      let exported = bytes_eq name segment in
      let root = root_item segment name in
      let placed = placed_from [] below in
      subst (λ (ps : List PublicPair). Publishes ps pairs)
      (sym (placed_with punct.ASSIGN (w.Refer name true) (root ∷ []) (root_publish segment name)
      ∙ ap (λ (ps : List PublicPair). ps ++ (placed ++ published_pairs (root_publish segment name))) (append-nil (published_by root) ∙ root_pairs segment name exported)
      ∙ ap (λ (ps : List PublicPair). cond exported ((name ∷ [], thing.Group (segment ∷ [])) ∷ []) [] ++ (placed ++ ps)) (publish_case segment name exported)))
      (namespace_case segment name placed pairs exported refl h)
