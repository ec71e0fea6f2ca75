-- The items of a tree that publish or place something have the words that their roles ask for, in an ES module.
use Rattle.std.proofs.Common.{◌≡◌, ℕ, Bool, true, false, ◌&&◌, cond, true≢false, List, [], ◌∷◌, map, flat_map, refl, sym, ap, subst, ◌∙◌, inl, inr}
use Rattle.std.proofs.lemmas.Bool.{and_parts}
use Rattle.std.specs.Prelude.{nat_eq, if◌then◌else◌}
use Rattle.std.specs.Cmp.Lexicographic.{pointwise}
use Rattle.std.specs.Str.{bytes_eq}
use Rattle.std.proofs.lemmas.Slice.Eq.{bytes_eq-Decides}
use Rattle.values.specs.Lists.{IsIn}
use Rattle.glue_words.specs.declared.item.Item.{Item}
use Rattle.glue_words.specs.declared.item.Role.{Role}
use Rattle.glue_words.specs.declared.item.Role.TheVariants as role
use Rattle.glue_words.specs.declared.item.Thing.{Thing}
use Rattle.glue_words.specs.declared.item.Thing.TheVariants as thing
use Rattle.glue_words.specs.declared.word.Word.{Word}
use Rattle.glue_words.specs.declared.word.Word.TheVariants as w
use Rattle.glue_words.specs.Names.{bound_in, is_export_key}
use Rattle.std.specs.List.{list_any}
use Rattle.glue_shared.specs.Names.{is_one_of}
use Rattle.glue_shared.specs.Paths.{Path}
use Rattle.glue_targets.specs.Published.{is_exported}
use Rattle.glue_targets.specs.RoleWords.{named, clause_words, publish_texts, root_words, inner_words, assign_words, inner_operator, Root, named_root, roots_by, roots_of, inner_texts, assign_texts}
use Rattle.glue_exports.specs.declared.definition.ExportDefinition.{ExportDefinition}
use Rattle.glue_exports.specs.Tree.{Entry, IsTree, is_reexport}
use Rattle.glue_exports.specs.Printed.{RootNames, root_name, named_word, exported_item, publish_definition, root_item, inner_item, assign_item, tree_items}
use Rattle.glue_exports.specs.Sound.{is_plain, IsSound, AreSound}
use Rattle.glue_exports.proofs.Joined.{in_map, in_flat}
use Rattle.glue_exports.proofs.Order.{IsBelow}
use Rattle.glue_exports.proofs.ExportedFacts.{exported_role}
use Rattle.glue_exports.proofs.Published.{each_sound}
use Rattle.glue_exports.proofs.Items.{IsMade, IsObject, Made, Given, object_clause, each_printed}
use Rattle.glue_exports.proofs.Named.{sound_role}

-- The words are among those that a role asks for among items, which bind these names, where the role publishes or places something. The truth
-- says whether the file is an ES module.
abbrev pub IsAskedFor : Bool → List Item → Role → List Word → List (List ℕ) → Type 0
IsAskedFor es items (role.Publish [] t name) words bound = ⊥
IsAskedFor es items (role.Publish (p ∷ []) t name) words bound = IsIn words (publish_texts es p t name)
IsAskedFor es items (role.Publish (p ∷ next ∷ path) t name) words bound = ⊥
IsAskedFor es items (role.Namespace []) words bound = ⊥
IsAskedFor es items (role.Namespace (p ∷ [])) words bound =
    IsIn words (map (λ name. root_words (if pointwise nat_eq name p then es else false) name) bound)
IsAskedFor es items (role.Namespace (p ∷ next ∷ path)) words bound = IsIn words (inner_texts (p ∷ next ∷ path) (roots_of p items))
IsAskedFor es items (role.Assign [] t name) words bound = ⊥
IsAskedFor es items (role.Assign (p ∷ []) t name) words bound = ⊥
IsAskedFor es items (role.Assign (p ∷ next ∷ path) t name) words bound =
    IsIn words (assign_texts (p ∷ next ∷ path) t name (roots_of p items))
IsAskedFor es items r words bound = Unit {0}

-- ---- names

refer_in : (t : Thing) (name : List ℕ) (now : Bool) → IsIn (w.Refer name now) (named t name)
refer_in (thing.Imported reexport) name true = inr (inl refl)
refer_in (thing.Imported reexport) name false = inl refl
refer_in t name true = inr (inl refl)
refer_in t name false = inl refl

host_in : (t : Thing) (reexport name : List ℕ) (now : Bool) → t ≡ thing.Imported reexport → IsIn (w.Host name now) (named t name)
host_in t reexport name true e = rw e (inr (inr (inr (inl refl))))
host_in t reexport name false e = rw e (inr (inr (inl refl)))

name_by : (t : Thing) (name : List ℕ) (now host : Bool) → (host ≡ true → (reexport : List ℕ) × (t ≡ thing.Imported reexport))
    → IsIn (cond host (w.Host name now) (w.Refer name now)) (named t name)
name_by t name now true imported = let r = imported refl in host_in t r.0 name now r.1
name_by t name now false imported = refer_in t name now

same_text : (text : List ℕ) → pointwise nat_eq text text ≡ true
same_text text = (bytes_eq-Decides text text).1 refl

-- ---- roots

module _ (segment name : List ℕ) where
  root_exported : (b : Bool) → b ≡ true → name ≡ segment
      → IsIn (name, thing.Group (segment ∷ [])) (roots_by segment (role.Namespace (segment ∷ [])) (list_any is_export_key (root_words b name)) (bound_in (root_words b name)))
  root_exported true e same = rw (same, same_text segment) (inl refl)
  root_exported false e same = absurd (true≢false (sym e))

  root_published : (t : Thing) → IsIn (name, t) (roots_by segment (role.Publish (segment ∷ []) t name) false [])
  root_published t = rw (same_text segment) (inl refl)

  -- a root's declaration, where it is exported exactly under its own name
  root_in : (b : Bool) → pointwise nat_eq name segment ≡ b
      → IsIn (root_words b name) (map (λ n. root_words (if pointwise nat_eq n segment then true else false) n) (bound_in (root_words b name)))
  root_in true e = rw e (inl refl)
  root_in false e = rw e (inl refl)

module _ (roots : RootNames) (hosts : List (List ℕ)) (tree : List Entry) (all : List Item)
    (among : (item : Item) → IsIn item (tree_items roots hosts tree) → IsIn item all)
    (imported : (e : Entry) → IsIn e tree → is_reexport e.1 ≡ true → (reexport : List ℕ) × (e.1.thing ≡ thing.Imported reexport))
  where
    definition_named : (e : Entry) (now : Bool) → IsIn e tree → IsIn (named_word hosts e.1 now) (named e.1.thing e.1.identifier)
    definition_named e now i =
        name_by e.1.thing e.1.identifier now (is_reexport e.1 && is_one_of hosts e.1.identifier)
        (λ h. imported e i (and_parts (is_reexport e.1) (is_one_of hosts e.1.identifier) h).0)

    -- what items publish at a segment is the root of what stands below it
    record HasRoot (segment : List ℕ) (word : Word) (operator : ℕ) : Type 0 where
      root : Root
      stands : IsIn root (roots_of segment all)
      named : IsIn word (named_root root)
      by : operator ≡ inner_operator root.1

    in_roots : (segment : List ℕ) (item : Item) (root : Root) → IsIn item (tree_items roots hosts tree)
        → IsIn root (roots_by segment item.role (is_exported item) (bound_in item.words)) → IsIn root (roots_of segment all)
    in_roots segment item root i here =
        in_flat (λ (x : Item). roots_by segment x.role (is_exported x) (bound_in x.words)) item root all (among item i) here

    made_root : (segment : List ℕ) → IsMade roots hosts tree segment → IsIn (root_name roots segment, thing.Group (segment ∷ [])) (roots_of segment all)
    made_root segment made = by (bytes_eq name segment) refl
      where
        name : List ℕ
        name = root_name roots segment

        root : Root
        root = (name, thing.Group (segment ∷ []))

        by : (b : Bool) → bytes_eq name segment ≡ b → IsIn root (roots_of segment all)
        by true e =
            in_roots segment (root_item segment name) root made.stands (root_exported segment name (bytes_eq name segment) e ((bytes_eq-Decides name segment).0 e))
        by false e =
            in_roots segment (object_clause roots hosts tree segment) root (made.published e) (root_published segment name (thing.Group (segment ∷ [])))

    object_root : (segment : List ℕ) (word : Word) (operator : ℕ) → IsObject roots hosts tree segment word operator → HasRoot segment word operator
    object_root segment word operator (Made made named o) = record {
      root = (root_name roots segment, thing.Group (segment ∷ []));
      stands = made_root segment made;
      named = rw named (inr (inl refl));
      by = o;
    }
    object_root segment word operator (Given d given named o) = record {
      root = (d.identifier, d.thing);
      stands =
          in_roots segment (publish_definition hosts segment d) (d.identifier, d.thing) given.published (root_published segment d.identifier d.thing);
      named = rw named (definition_named (segment ∷ [], d) true given.there);
      by = o ∙ sym (ap inner_operator (imported (segment ∷ [], d) given.there given.reexport).1);
    }

    inner_prescribed : (segment : List ℕ) (word : Word) (operator : ℕ) → HasRoot segment word operator → (path : Path) → IsBelow segment path
        → (bound : List (List ℕ)) → IsAskedFor true all (role.Namespace path) (inner_words operator path word) bound
    inner_prescribed segment word operator h [] below bound = absurd below
    inner_prescribed segment word operator h (a ∷ []) below bound = absurd below
    inner_prescribed segment word operator h (a ∷ next ∷ rest) below bound =
        rw (below, h.by)
        (in_flat (λ (root : Root). map (inner_words (inner_operator root.1) (segment ∷ next ∷ rest)) (named_root root)) h.root
        (inner_words (inner_operator h.root.1) (segment ∷ next ∷ rest) word) (roots_of segment all) h.stands
        (in_map (inner_words (inner_operator h.root.1) (segment ∷ next ∷ rest)) word (named_root h.root) h.named))

    assign_prescribed : (segment : List ℕ) (word : Word) (operator : ℕ) → HasRoot segment word operator → (path : Path) → IsBelow segment path
        → (t : Thing) (name : List ℕ) (value : Word) → IsIn value (named t name) → (bound : List (List ℕ))
        → IsAskedFor true all (role.Assign path t name) (assign_words path value word) bound
    assign_prescribed segment word operator h [] below t name value i bound = absurd below
    assign_prescribed segment word operator h (a ∷ []) below t name value i bound = absurd below
    assign_prescribed segment word operator h (a ∷ next ∷ rest) below t name value i bound =
        let path : Path = segment ∷ next ∷ rest in
        let words : List Word = flat_map named_root (roots_of segment all) in
        rw below
        (in_flat (λ value. map (assign_words path value) words) value (assign_words path value word) (named t name) i
        (in_map (assign_words path value) word words (in_flat named_root h.root word (roots_of segment all) h.stands h.named)))

    plain_prescribed : (r : Role) (words : List Word) (bound : List (List ℕ)) → is_plain r ≡ true → IsAskedFor true all r words bound
    plain_prescribed (role.Publish path t name) words bound h = absurd (true≢false (sym h))
    plain_prescribed (role.Namespace path) words bound h = absurd (true≢false (sym h))
    plain_prescribed (role.Assign path t name) words bound h = absurd (true≢false (sym h))
    plain_prescribed r words bound h = tt

    own_prescribed : (d : ExportDefinition) (item : Item) → IsSound d → IsIn item d.items → (words : List Word) (bound : List (List ℕ))
        → IsAskedFor true all item.role words bound
    own_prescribed d item sound i words bound = elim (sound_role d item sound i) [
      | inl declares ↦ rw declares tt
      | inr plain ↦ plain_prescribed item.role words bound plain
    ]

    -- each item that publishes or places something has the words that are asked for
    pub printed_prescribed : (es : Bool) → es ≡ true → IsTree tree → AreSound tree → (item : Item) → IsIn item (tree_items roots hosts tree)
        → IsAskedFor es all item.role item.words (bound_in item.words)
    printed_prescribed es module_ t sound = rw module_ (each_printed roots hosts tree t (λ item. IsAskedFor true all item.role item.words (bound_in item.words)) (record {
      own = λ e item i k. own_prescribed e.1 item (each_sound tree e sound i) k item.words (bound_in item.words);
      exported = λ e item i k.
          subst (λ (r : Role). IsAskedFor true all r (exported_item item).words (bound_in (exported_item item).words)) (sym (exported_role item))
          (own_prescribed e.1 item (each_sound tree e sound i) k (exported_item item).words (bound_in (exported_item item).words));
      clause = λ segment d i.
          in_map (clause_words segment) (named_word hosts d false) (named d.thing d.identifier) (definition_named (segment ∷ [], d) false i);
      object = λ segment made. root_in segment (root_name roots segment) (bytes_eq (root_name roots segment) segment) refl;
      published = λ segment made.
          in_map (clause_words segment) (w.Refer (root_name roots segment) false) (named (thing.Group (segment ∷ [])) (root_name roots segment)) (inl refl);
      inner = λ segment root operator o path u. inner_prescribed segment root operator (object_root segment root operator o) path u (bound_in (inner_item root operator path).words);
      assigned = λ segment root operator o e i u.
          assign_prescribed segment root operator (object_root segment root operator o) e.0 u e.1.thing e.1.identifier (named_word hosts e.1 true)
          (definition_named e true i) (bound_in (assign_item hosts root e).words);
    }))
