-- The names under which the items of a tree publish things stand for those things.
use Rattle.std.proofs.Common.{◌≡◌, ℕ, Bool, true, false, not, ◌&&◌, cond, true≢false, List, [], ◌∷◌, ◌++◌, map, refl, sym, ap, subst, ◌∙◌, ◌⊎◌, inl, inr}
use Rattle.std.proofs.lemmas.Bool.{and_parts}
use Rattle.std.proofs.lemmas.List.Folds.{list_all-append}
use Rattle.std.specs.List.{list_all}
use Rattle.std.specs.Str.{bytes_eq}
use Rattle.values.specs.Lists.{IsIn}
use Rattle.values.proofs.Members.{in_left, in_right, in_either}
use Rattle.glue_words.specs.declared.item.Item.{Item}
use Rattle.glue_words.specs.declared.item.Role.{Role}
use Rattle.glue_words.specs.declared.item.Role.TheVariants as role
use Rattle.glue_words.specs.declared.item.Thing.{Thing}
use Rattle.glue_words.specs.declared.item.Thing.TheVariants as thing
use Rattle.glue_words.specs.Names.{bound_in}
use Rattle.glue_exports.specs.declared.definition.ExportDefinition.{ExportDefinition}
use Rattle.glue_exports.specs.Tree.{Entry, IsTree, has_none, is_reexport}
use Rattle.glue_exports.specs.Printed.{RootNames, exported_item, publish_definition, top_items, declared_below, reexport_items, run_items, runs, is_shown, is_at_top, root_item}
use Rattle.glue_exports.specs.Sound.{is_plain, IsDeclaration, IsSound, AreSound}
use Rattle.glue_exports.proofs.Joined.{in_filter, in_map, in_flat}
use Rattle.glue_exports.proofs.ExportedFacts.{exported_role, exported_binds}
use Rattle.glue_exports.proofs.Bound.{root_binds}
use Rattle.glue_exports.proofs.Published.{each_sound}
use Rattle.glue_exports.proofs.Roots.{IsRunOf, each_run, in_run}
use Rattle.glue_exports.proofs.Items.{shown, shown_laid, none_below, printed, object_name, IsMade, each_printed}

-- ---- the items of definitions

-- what all of a list pass, each passes
each_passes : {A : Type 0} (test : A → Bool) (xs : List A) (x : A) → list_all test xs ≡ true → IsIn x xs → test x ≡ true
each_passes test [] x h i = absurd i
each_passes test (y ∷ xs) x h (inl same) = ap test same ∙ (and_parts (test y) (list_all test xs) h).0
each_passes test (y ∷ xs) x h (inr i) = each_passes test xs x (and_parts (test y) (list_all test xs) h).1 i

-- an item of a sound definition declares the thing, or is plain
pub sound_role : (d : ExportDefinition) (item : Item) → IsSound d → IsIn item d.items
    → (item.role ≡ role.Declare d.thing) ⊎ (is_plain item.role ≡ true)
sound_role d item (inl reexport) i = absurd (none d.items reexport i)
  where
    none : (items : List Item) → has_none items ≡ true → IsIn item items → ⊥
    none [] e i = i
    none (other ∷ items) e i = true≢false (sym e)
sound_role d item (inr h) i =
    let plain = and_parts (list_all (λ (x : Item). is_plain x.role) h.before) (list_all (λ (x : Item). is_plain x.role) h.after)
    (sym (list_all-append (λ (x : Item). is_plain x.role) h.before h.after) ∙ h.plain) in
    elim (in_either item h.before (h.item ∷ h.after) (rw h.are at i)) [
      | inl before ↦ inr (each_passes (λ (x : Item). is_plain x.role) h.before item plain.0 before)
      | inr behind ↦ elim behind [
        | inl same ↦ inl (rw same h.declares)
        | inr after ↦ inr (each_passes (λ (x : Item). is_plain x.role) h.after item plain.1 after)
      ]
    ]

-- the item that declares it is one of them
declaration_in : (d : ExportDefinition) (h : IsDeclaration d) → IsIn h.item d.items
declaration_in d h = rw h.are (in_right h.item h.before (h.item ∷ h.after) (inl refl))

module _ (roots : RootNames) (hosts : List (List ℕ)) (tree : List Entry) where
  abbrev items : List Item
  items = printed roots hosts tree

  -- ---- what a name stands for

  -- an item declares the thing under the name
  pub record IsDeclaredBy (t : Thing) (name : List ℕ) : Type 0 where
    pub item : Item
    pub stands : IsIn item items
    pub declares : item.role ≡ role.Declare t
    pub binds : IsIn name (bound_in item.words)

  -- an item declares the object of a namespace under the name
  pub record IsObjectOf (t : Thing) (name : List ℕ) : Type 0 where
    pub item : Item
    pub segment : List ℕ
    pub stands : IsIn item items
    pub declares : item.role ≡ role.Namespace (segment ∷ [])
    pub group : t ≡ thing.Group (segment ∷ [])
    pub binds : IsIn name (bound_in item.words)

  -- a re-export of the tree goes by the name
  pub record IsReexportOf (t : Thing) (name : List ℕ) : Type 0 where
    pub entry : Entry
    pub there : IsIn entry tree
    pub reexport : is_reexport entry.1 ≡ true
    pub thing : t ≡ entry.1.thing
    pub named : name ≡ entry.1.identifier

  -- a name stands for a thing as far as the tree tells
  pub data Stands (t : Thing) (name : List ℕ) : Type 0 where
    Declared : IsDeclaredBy t name → Stands t name
    Grouped : IsObjectOf t name → Stands t name
    Reexported : IsReexportOf t name → Stands t name

  -- the name that an item of a role publishes does
  abbrev pub IsNamed : Role → Type 0
  IsNamed (role.Publish path t name) = Stands t name
  IsNamed (role.Assign path t name) = Stands t name
  IsNamed r = Unit {0}

  module _ (t : IsTree tree) where
    -- ---- declarations are among the items

    -- each of a definition's items is one of all, or is one of them exported
    abbrev AreKept : List Item → List Item → Type 0
    AreKept own all = ((item : Item) → IsIn item own → IsIn item all) ⊎ ((item : Item) → IsIn item own → IsIn (exported_item item) all)

    among_more : (own few more : List Item) → ((item : Item) → IsIn item few → IsIn item more) → AreKept own few → AreKept own more
    among_more own few more h (inl kept) = inl (λ item i. h item (kept item i))
    among_more own few more h (inr exported) = inr (λ item i. h (exported_item item) (exported item i))

    among_top : (segment : List ℕ) (d : ExportDefinition) → AreKept d.items (top_items hosts segment d)
    among_top segment d = by d.private (bytes_eq d.identifier segment)
      where
        by : (private same : Bool)
            → AreKept d.items (cond private d.items (cond same (map exported_item d.items) (d.items ++ publish_definition hosts segment d ∷ [])))
        by true same = inl (λ item i. i)
        by false true = inr (λ item i. in_map exported_item item d.items i)
        by false false = inl (λ item i. in_left item d.items (publish_definition hosts segment d ∷ []) i)

    own_below : (e : Entry) (below : List Entry) (more : List Item) → IsIn e below → AreKept e.1.items (declared_below below ++ more)
    own_below e below more i = inl (λ item k. in_left item (declared_below below) more (in_flat (λ (x : Entry). x.1.items) e item below i k))

    among_run : (run : List Entry) (e : Entry) → IsRunOf (shown tree) run → IsIn e run → is_reexport e.1 ≡ false
        → AreKept e.1.items (run_items roots hosts run)
    among_run [] e r i declared = absurd i
    among_run (([], d) ∷ more) e r i declared = absurd r.form
    among_run ((segment ∷ [], d) ∷ more) e r i declared = by (is_reexport d) refl
      where
        by : (b : Bool) → is_reexport d ≡ b → AreKept e.1.items (cond b (reexport_items hosts segment d more) (top_items hosts segment d))
        by true q = elim i [
          | inl same ↦ absurd (true≢false (sym q ∙ sym (ap (λ (x : Entry). is_reexport x.1) same) ∙ declared))
          | inr k ↦ own_below e more _ k
        ]
        by false q = elim i [
          | inl same ↦ rw same (among_top segment d)
          | inr k ↦ absurd (subst (IsIn e) (none_below tree segment d more t r q) k)
        ]
    among_run ((segment ∷ next ∷ path, d) ∷ more) e r i declared = own_below e ((segment ∷ next ∷ path, d) ∷ more) _ i

    among_items : (e : Entry) → IsIn e tree → is_reexport e.1 ≡ false → AreKept e.1.items items
    among_items e i declared =
        let laid = shown_laid tree t in
        let shows : is_shown e ≡ true = ap (λ (b : Bool). not (b && (e.1.private && is_at_top e.0))) declared in
        let r = in_run (shown tree) e laid (in_filter is_shown e tree i shows) in
        among_more e.1.items (run_items roots hosts r.0) items (λ item k. in_flat (run_items roots hosts) r.0 item (runs (shown tree)) r.1 k)
        (among_run r.0 e (each_run (shown tree) r.0 laid r.1) r.2 declared)

    declared_by : (d : ExportDefinition) (h : IsDeclaration d) → AreKept d.items items → IsDeclaredBy d.thing d.identifier
    declared_by d h (inl kept) = record {
      item = h.item;
      stands = kept h.item (declaration_in d h);
      declares = h.declares;
      binds = rw h.binds (inl refl);
    }
    declared_by d h (inr exported) = record {
      item = exported_item h.item;
      stands = exported h.item (declaration_in d h);
      declares = exported_role h.item ∙ h.declares;
      binds = rw (exported_binds h.item, h.binds) (inl refl);
    }

    -- a definition's name stands for it
    pub entry_stands : (e : Entry) → IsIn e tree → IsSound e.1 → Stands e.1.thing e.1.identifier
    entry_stands e i sound = by (is_reexport e.1) refl sound
      where
        by : (b : Bool) → is_reexport e.1 ≡ b → IsSound e.1 → Stands e.1.thing e.1.identifier
        by true q s = Reexported (record { entry = e; there = i; reexport = q; thing = refl; named = refl })
        by false q (inl reexport) = absurd (true≢false (sym reexport ∙ q))
        by false q (inr h) = Declared (declared_by e.1 h (among_items e i q))

    -- ---- each item

    plain_named : (r : Role) → is_plain r ≡ true → IsNamed r
    plain_named (role.Publish path thing name) h = absurd (true≢false (sym h))
    plain_named (role.Assign path thing name) h = absurd (true≢false (sym h))
    plain_named r h = tt

    own_named : (d : ExportDefinition) (item : Item) → IsSound d → IsIn item d.items → IsNamed item.role
    own_named d item sound i = elim (sound_role d item sound i) [
      | inl declares ↦ rw declares tt
      | inr plain ↦ plain_named item.role plain
    ]

    group_stands : (segment : List ℕ) → IsMade roots hosts tree segment → Stands (thing.Group (segment ∷ [])) (object_name roots hosts tree segment)
    group_stands segment made =
        let name = object_name roots hosts tree segment in
        Grouped (record {
          item = root_item segment name;
          segment = segment;
          stands = made.stands;
          declares = refl;
          group = refl;
          binds = rw (root_binds name (bytes_eq name segment)) (inl refl);
        })

    -- the name that an item publishes stands for what it publishes
    pub printed_named : AreSound tree → (item : Item) → IsIn item items → IsNamed item.role
    printed_named sound = each_printed roots hosts tree t (λ item. IsNamed item.role) (record {
      own = λ e item i k. own_named e.1 item (each_sound tree e sound i) k;
      exported = λ e item i k. subst IsNamed (sym (exported_role item)) (own_named e.1 item (each_sound tree e sound i) k);
      clause = λ segment d i. entry_stands (segment ∷ [], d) i (each_sound tree (segment ∷ [], d) sound i);
      object = λ segment made. tt;
      published = λ segment made. group_stands segment made;
      inner = λ segment root operator o path u. tt;
      assigned = λ segment root operator o e i u. entry_stands e i (each_sound tree e sound i);
    })
