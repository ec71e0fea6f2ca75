-- What holds of the items of a description's tree: they belong into a file, have the words that their roles ask for, go by names that stand for
-- things, publish the public tree, and declare the functions of adapters.
use Rattle.glue_context.proofs.Common.{◌≡◌, ℕ, inl, inr, List, [], ◌∷◌, map, Bool, true, false, true≢false, Some, refl, sym, ap, ◌∙◌, subst, codes, AllZip, IsIn, AreAmong, HOSTS, TARGET_NAMES, Item, bound_in, bound_names, AllItems, Belongs, Context, AuxExport, Settings, NameMap, AreNames, Lowered, host_names, fixed_names, AreFunctionItems, AreTreeItems, defined_by, fixed_by, rewritten}
use Rattle.std.specs.Prelude.{◌&&◌, not}
use Rattle.std.proofs.lemmas.Bool.{or_parts}
use Rattle.values.proofs.Members.{in_left}
use Rattle.glue_words.specs.declared.item.Role.{Role}
use Rattle.glue_words.specs.declared.item.Role.TheVariants as role
use Rattle.glue_words.specs.declared.item.Thing.{Thing}
use Rattle.glue_words.specs.declared.item.Thing.TheVariants as thing
use Rattle.glue_words.specs.declared.word.Word.{Word}
use Rattle.glue_words.proofs.Among.{among_in, among_left, apart_in}
use Rattle.glue_shared.specs.declared.aux.AuxEnum.{AuxEnum}
use Rattle.glue_shared.specs.declared.settings.Target.{Target}
use Rattle.glue_shared.specs.Names.{is_none}
use Rattle.glue_faults.proofs.After.{after-none}
use Rattle.glue_faults.proofs.First.{option_map-none}
use Rattle.glue_targets.specs.Published.{IsImportBound, IsNamed, IsReexported, StandsFor}
use Rattle.glue_targets.specs.RoleWords.{is_es_module, role_words}
use Rattle.glue_targets.specs.Targets.{Frame}
use Rattle.glue_exports.specs.Enums.{enum_item}
use Rattle.glue_exports.specs.Printed.{exported_item, root_name, tree_items}
use Rattle.glue_exports.specs.Sound.{AreSound}
use Rattle.glue_exports.specs.Tree.{Entry, is_reexport}
use Rattle.glue_exports.proofs.EnumFacts.{enum_belongs, exported_words}
use Rattle.glue_exports.proofs.ExportedFacts.{exported_role}
use Rattle.glue_exports.proofs.Linkage as tree
use Rattle.glue_exports.proofs.Linkage.{HasName, HasTree, IsAskedFor, OfEach, each_printed, printed_belong, printed_named, printed_prescribed}
use Rattle.glue_exports.proofs.Published.{published}
use Rattle.glue_public.specs.Described as public
use Rattle.glue_public.specs.Described.{FunctionItems, Reexport, enum_name, lone_functions}
use Rattle.glue_public.specs.Public.{ArePublic, IsCovered, IsDeclared}
use Rattle.glue_public.proofs.TreeFacts.{public_items, tree_sound}
use Rattle.glue_published.specs.Reexports.{has_members, is_bad_import, is_bad_reexport, is_outside}
use Rattle.glue_published.specs.Things.{published_things, stands_alone}
use Rattle.glue_exports.proofs.Joined.{from_filter}
use Rattle.glue_naming.specs.declared.named.Named.TheVariants.{Import}
use Rattle.glue_naming.specs.Naming.{import_name}
use Rattle.glue_naming.proofs.Reserved.{free_no_fixed}
use Rattle.glue_context.specs.Defined.{HoldsFunction}
use Rattle.glue_context.specs.Linked.{IsOneOf}
use Rattle.glue_context.proofs.Declared.{all_found, among_is}
use Rattle.glue_context.proofs.Facts.{Facts}
use Rattle.glue_context.proofs.Fits.{AreWell, HasBasis, declared, declared_belongs, declared_exported, function_declared, names_with}
pub use Rattle.glue_context.proofs.TreeNames.{tree_apart, tree_distinct, tree_no_callbacks, tree_no_fixed, tree_no_host, tree_no_values}
use Rattle.glue_context.proofs.TreeNames.{IsFrom, OfFunction, OfEnum, OfReexport, entry_bound, entry_of_function, enum_ident, function_ident, function_items, function_there, is_tree, root_bound, tree_from, tree_ident}

-- ---- names that each file has

object_known : (s : Settings) (l : Lowered) → AreAmong (codes "Object" ∷ []) (host_names s l.aux)
unfolding host_names
object_known s l =
    among_left (codes "Object" ∷ []) (map (λ w. w.now) HOSTS) _ (all_found (map (λ w. w.now) HOSTS) (codes "Object" ∷ []) refl)

wasm_fixed : (s : Settings) (l : Lowered) → IsIn (codes "wasm") (fixed_names s l.«module»)
unfolding fixed_names
wasm_fixed s l = in_left (codes "wasm") (map (λ w. w.now) TARGET_NAMES) _ (among_is (codes "wasm") (map (λ w. w.now) TARGET_NAMES) refl)

-- ---- roles of a tree's items

-- an item of the role declares a function or an enum, makes a namespace's object, or publishes or places something
abbrev IsOfTree : Role → Type 0
IsOfTree (role.Declare (thing.Adapter id)) = Unit {0}
IsOfTree (role.Declare (thing.Enum name)) = Unit {0}
IsOfTree (role.Publish path t name) = Unit {0}
IsOfTree (role.Namespace path) = Unit {0}
IsOfTree (role.Assign path t name) = Unit {0}
IsOfTree r = ⊥

not_imported : (reexport : List ℕ) (r : Role) → r ≡ role.Declare (thing.Imported reexport) → IsOfTree r → ⊥
not_imported reexport r same h = subst IsOfTree same h

no_place : (r : Role) → IsOfTree r → defined_by r ≡ []
no_place (role.Define place) h = absurd h
no_place r h = refl

no_fixed : (r : Role) (words : List Word) → IsOfTree r → fixed_by (record { role = r; words = words }) ≡ []
no_fixed (role.Declare t) words h = refl
no_fixed (role.Publish path t name) words h = refl
no_fixed (role.Namespace path) words h = refl
no_fixed (role.Assign path t name) words h = refl
no_fixed r words h = absurd h

-- what is asked for of such an item is what its role asks for
asked_one : (s : Settings) (starts : Bool) (frame : Frame) (all : List Item) (r : Role) (words : List Word) (bound : List (List ℕ))
    → IsOfTree r → IsAskedFor (is_es_module s.target) all r words bound → IsOneOf words (role_words s starts frame all r bound)
asked_one s starts frame all (role.Declare t) words bound h k = tt
asked_one s starts frame all (role.Publish [] t name) words bound h k = absurd k
asked_one s starts frame all (role.Publish (p ∷ []) t name) words bound h k = k
asked_one s starts frame all (role.Publish (p ∷ next ∷ path) t name) words bound h k = absurd k
asked_one s starts frame all (role.Namespace []) words bound h k = absurd k
asked_one s starts frame all (role.Namespace (p ∷ [])) words bound h k = k
asked_one s starts frame all (role.Namespace (p ∷ next ∷ path)) words bound h k = k
asked_one s starts frame all (role.Assign [] t name) words bound h k = absurd k
asked_one s starts frame all (role.Assign (p ∷ []) t name) words bound h k = absurd k
asked_one s starts frame all (role.Assign (p ∷ next ∷ path) t name) words bound h k = k
asked_one s starts frame all r words bound h k = absurd h

each_item : (P : Item → Type 0) (items : List Item) → ((item : Item) → IsIn item items → P item) → AllItems P items
each_item P [] h = tt
each_item P (item ∷ items) h = (h item (inl refl), each_item P items (λ i k. h i (inr k)))

only_one : {A : Type 0} (x y : A) → IsIn x (y ∷ []) → x ≡ y
only_one x y (inl same) = same
only_one x y (inr none) = absurd none

no_items : {A : Type 0} (xs : List A) → not (is_none xs) ≡ false → xs ≡ []
no_items [] h = refl
no_items (x ∷ xs) h = absurd (true≢false h)

not_both : (c : Bool) → (c && false) ≡ true → ⊥
not_both true h = true≢false (sym h)
not_both false h = true≢false (sym h)

module _ (s : Settings) (m : NameMap) (l : Lowered) (b : Facts s l) (n : AreNames s l m) (declares : List Item) (d : AreTreeItems s m l declares) where
  abbrev printed : List Item
  printed = tree_items m.namespaces [] d.tree

  -- what holds of the declarations of functions and enums, exported or not, holds of the items of definitions
  record OfDeclarations (P : Item → Type 0) : Type 0 where
    function : (x : AuxExport) (f : FunctionItems) (k : AreFunctionItems s m l x f) → IsIn x l.aux.exports → P (declared s m l x f k)
    enum : (x : AuxEnum) → IsIn x l.aux.enums → P (enum_item x (enum_name m.enums x))

  own_item : (P : Item → Type 0) → OfDeclarations P → (e : Entry) (item : Item) → IsIn e d.tree → IsIn item e.1.items → P item
  own_item P h e item i k = by (tree_from s m l b n declares d e i)
    where
      by : IsFrom s m l b n declares d e → P item
      by (OfFunction x f at same) =
          let a = function_items s m l b n declares d x f at in
          let is = entry_of_function s m l b n declares d e x f at same in
          let here : IsIn item (declared s m l x f a ∷ []) = subst (λ (y : Entry). IsIn item y.1.items) is k in
          subst P (sym (only_one item (declared s m l x f a) here)) (h.function x f a (function_there s m l b n declares d x f at))
      by (OfEnum x at same) =
          let one = enum_item x (enum_name m.enums x) in
          let here : IsIn item (one ∷ []) = subst (λ (y : Entry). IsIn item y.1.items) same k in
          subst P (sym (only_one item one here)) (h.enum x at)
      by (OfReexport r at same) = absurd (subst (λ (y : Entry). IsIn item y.1.items) same k)

  -- what holds of each item of the tree holds of these
  of_declares : (P : Item → Type 0) → OfEach m.namespaces [] d.tree P → AllItems P declares
  of_declares P h =
      subst (λ (items : List Item). AllItems P items) (sym d.are)
      (each_item P printed (each_printed m.namespaces [] d.tree (is_tree s m l b n declares d) P h))

  -- ---- what they are for

  own_roles : OfDeclarations (λ item. IsOfTree item.role)
  own_roles = record { function = λ x f k i. tt; enum = λ x i. tt }

  each_role : OfEach m.namespaces [] d.tree (λ item. IsOfTree item.role)
  each_role = record {
    own = own_item (λ item. IsOfTree item.role) own_roles;
    exported = λ e item i k. subst IsOfTree (sym (exported_role item)) (own_item (λ item. IsOfTree item.role) own_roles e item i k);
    clause = λ segment definition i. tt;
    object = λ segment made. tt;
    published = λ segment made. tt;
    inner = λ segment root operator o path u. tt;
    assigned = λ segment root operator o e i u. tt;
  }

  role_of : (item : Item) → IsIn item printed → IsOfTree item.role
  role_of = each_printed m.namespaces [] d.tree (is_tree s m l b n declares d) (λ item. IsOfTree item.role) each_role

  of_roles : (P : Item → Type 0) → ((item : Item) → IsOfTree item.role → P item) → AllItems P declares
  of_roles P h =
      subst (λ (items : List Item). AllItems P items) (sym d.are) (each_item P printed (λ item i. h item (role_of item i)))

  -- they define no import, and publish nothing beside the tree
  pub tree_defines : AllItems (λ item. defined_by item.role ≡ []) declares
  tree_defines = of_roles (λ item. defined_by item.role ≡ []) (λ item h. no_place item.role h)

  pub tree_fixed : AllItems (λ item. fixed_by item ≡ []) declares
  tree_fixed = of_roles (λ item. fixed_by item ≡ []) (λ item h. no_fixed item.role item.words h)

  -- each declaration of an adapter is that of its function
  own_functions : OfDeclarations (λ item. HoldsFunction s m l (rewritten s l) item.role item)
  own_functions = record {
    function = λ x f k i. record { «export» = x; described = i; of = refl; function = k.function; of_adapter = k.of_adapter; exported = false; words = refl };
    enum = λ x i. tt;
  }

  exported_functions : OfDeclarations (λ item. HoldsFunction s m l (rewritten s l) item.role (exported_item item))
  exported_functions = record {
    function = λ x f k i. record {
      «export» = x;
      described = i;
      of = refl;
      function = k.function;
      of_adapter = k.of_adapter;
      exported = true;
      words = declared_exported s m l x f k;
    };
    enum = λ x i. tt;
  }

  pub tree_functions : AllItems (λ item. HoldsFunction s m l (rewritten s l) item.role item) declares
  tree_functions = of_declares (λ item. HoldsFunction s m l (rewritten s l) item.role item) (record {
    own = own_item (λ item. HoldsFunction s m l (rewritten s l) item.role item) own_functions;
    exported = λ e item i k.
        subst (λ (r : Role). HoldsFunction s m l (rewritten s l) r (exported_item item)) (sym (exported_role item))
        (own_item (λ item. HoldsFunction s m l (rewritten s l) item.role (exported_item item)) exported_functions e item i k);
    clause = λ segment definition i. tt;
    object = λ segment made. tt;
    published = λ segment made. tt;
    inner = λ segment root operator o path u. tt;
    assigned = λ segment root operator o e i u. tt;
  })

  -- ---- re-exports

  -- a re-export of the tree goes by the name of its import
  record IsOfImport (e : Entry) : Type 0 where
    reexport : Reexport
    there : IsIn reexport l.aux.reexports
    thing : e.1.thing ≡ thing.Imported reexport.0
    named : e.1.identifier ≡ public.import_name m.imports (reexport.1).name

  of_import : (e : Entry) → IsIn e d.tree → is_reexport e.1 ≡ true → IsOfImport e
  of_import e i h = by (tree_from s m l b n declares d e i)
    where
      by : IsFrom s m l b n declares d e → IsOfImport e
      by (OfFunction x f at same) =
          absurd (true≢false (sym h ∙ ap (λ (y : Entry). is_reexport y.1) (entry_of_function s m l b n declares d e x f at same)))
      by (OfEnum x at same) = absurd (true≢false (sym h ∙ ap (λ (y : Entry). is_reexport y.1) same))
      by (OfReexport r at same) = record {
        reexport = r;
        there = at;
        thing = ap (λ (y : Entry). y.1.thing) same;
        named = ap (λ (y : Entry). y.1.identifier) same;
      }

  -- the import of each re-export has a drawn name of which this holds
  abbrev pub ForReexports : (Reexport → List ℕ → Type 0) → Type 0
  ForReexports P = (r : Reexport) → IsIn r l.aux.reexports → (x : List ℕ) × (import_name m (r.1).name ≡ Some x) × P r x

  import_given : (r : Reexport) (x : List ℕ) → import_name m (r.1).name ≡ Some x → public.import_name m.imports (r.1).name ≡ x
  import_given r x h = rw h refl

  import_fits : (r : Reexport) → IsIn r l.aux.reexports → is_bad_import s r.1 ≡ false
  import_fits r i =
      let members = has_members (published_things s l.aux) in
      let fit = after-none (is_bad_reexport s members) [] l.aux.reexports r (option_map-none _ _ b.reexported) i in
      (or_parts (is_bad_import s r.1) _ fit.1).0

  -- it has no fields
  whole : (r : Reexport) → IsIn r l.aux.reexports → (r.1).fields ≡ []
  whole r i = no_items (r.1).fields (or_parts (not (is_none (r.1).fields)) _ (import_fits r i)).0

  -- and it is no name of the host
  pub no_outside : (r : Reexport) → IsIn r l.aux.reexports → is_outside s.omit_imports (r.1).name ≡ false
  no_outside r i =
      let unbound = (or_parts (not (is_none (r.1).fields)) _ (import_fits r i)).1 in
      subst (λ (t : Target). (is_es_module t && is_outside s.omit_imports (r.1).name) ≡ false) b.deno unbound

  module _ (well : AreWell s l m) where
    -- ---- declarations

    all_declared : (lone : List AuxExport) (functions : List FunctionItems) → ((x : AuxExport) → IsIn x lone → IsIn x l.aux.exports)
        → AllZip (AreFunctionItems s m l) lone functions → AllZip IsDeclared lone functions
    all_declared [] [] among h = tt
    all_declared [] (f ∷ functions) among h = absurd h
    all_declared (x ∷ lone) [] among h = absurd h
    all_declared (x ∷ lone) (f ∷ functions) among h = (
      function_declared s m l x f h.0 well (function_ident s m l b n x (among x (inl refl))) (b.export_steps x (among x (inl refl))),
      all_declared lone functions (λ y i. among y (inr i)) h.1,
    )

    covered : IsCovered s l.aux d.functions
    covered = record {
      classless = b.structs;
      unreset = b.no_reset;
      declared = all_declared (lone_functions l.aux.exports) d.functions
          (λ x i. (from_filter (λ (y : AuxExport). stands_alone y.kind) x l.aux.exports i).0) d.made;
    }

    sound : AreSound d.tree
    sound = tree_sound l.aux m d.functions d.tree d.put s covered

    -- they publish the public tree
    pub tree_published : ArePublic s l.aux declares
    tree_published =
        subst (ArePublic s l.aux) (sym d.are)
        (public_items l.aux m d.functions d.tree d.put s covered printed (published m.namespaces [] d.tree (is_tree s m l b n declares d)))

    -- ---- where they belong

    module _ (names : List (List ℕ)) (basis : HasBasis s l m names) (among : AreAmong (bound_names declares) names)
        (reexported : ForReexports (λ r x. IsIn x names)) where
      abbrev c : Context
      c = names_with s l names

      own_belong : OfDeclarations (λ item. Belongs c item.words)
      own_belong = record {
        function = λ x f k i. declared_belongs s m l x f k well (function_ident s m l b n x i) (b.export_steps x i) names basis false;
        enum = λ x i. enum_belongs x (enum_name m.enums x) c false (enum_ident s m l b n x i) (b.variants x i) (object_known s l);
      }

      exported_belong : OfDeclarations (λ item. Belongs c (exported_item item).words)
      exported_belong = record {
        function = λ x f k i.
            subst (Belongs c) (sym (declared_exported s m l x f k))
            (declared_belongs s m l x f k well (function_ident s m l b n x i) (b.export_steps x i) names basis true);
        enum = λ x i.
            subst (Belongs c) (sym (exported_words x (enum_name m.enums x)))
            (enum_belongs x (enum_name m.enums x) c true (enum_ident s m l b n x i) (b.variants x i) (object_known s l));
      }

      -- a re-export's name is drawn, and declared
      reexport_drawn : (e : Entry) → IsOfImport e → HasName c false e.1.identifier × (e.1.identifier ≡ codes "wasm" → ⊥)
      reexport_drawn e o =
          let r = reexported o.reexport o.there in
          let same : r.0 ≡ e.1.identifier = sym (o.named ∙ import_given o.reexport r.0 r.1) in
          let other = free_no_fixed s l (r.0 ∷ []) (λ name k. n.good.free (Import ((o.reexport).1).name) name (r.1 ∙ ap Some (sym (only_one name r.0 k)))) in
          subst (λ (x : List ℕ). HasName c false x × (x ≡ codes "wasm" → ⊥)) same (
            record {
              ident = n.good.idents (Import ((o.reexport).1).name) r.0 r.1;
              declared = λ h. r.2;
              hosted = λ h. absurd (true≢false (sym h));
            },
            λ is. other.0 (subst (λ (x : List ℕ). IsIn x (fixed_names s l.«module»)) (sym is) (wasm_fixed s l)),
          )

      -- none goes by a name of the host
      no_host : (reexport : Bool) (name : List ℕ) → HasName c false name → HasName c (reexport && false) name
      no_host reexport name h = record { ident = h.ident; declared = λ k. h.declared refl; hosted = λ k. absurd (not_both reexport k) }

      declared_name_of : (name : List ℕ) → IsIn name (bound_names declares) → HasName c false name
      declared_name_of name i = record {
        ident = tree_ident s m l b n declares d name i;
        declared = λ h. among_in name (bound_names declares) names among i;
        hosted = λ h. absurd (true≢false (sym h));
      }

      entry_name : (e : Entry) → IsIn e d.tree → (reexport : Bool) → is_reexport e.1 ≡ reexport → HasName c false e.1.identifier
      entry_name e i true q = (reexport_drawn e (of_import e i q)).0
      entry_name e i false q = declared_name_of e.1.identifier (entry_bound s m l b n declares d e i q)

      has_tree : HasTree c m.namespaces [] d.tree
      has_tree = record {
        own = own_item (λ item. Belongs c item.words) own_belong;
        exported = own_item (λ item. Belongs c (exported_item item).words) exported_belong;
        named = λ e i. no_host (is_reexport e.1) e.1.identifier (entry_name e i (is_reexport e.1) refl);
        object = λ segment namespace. declared_name_of (root_name m.namespaces segment) (root_bound s m l b n declares d segment namespace);
        apart = λ segment namespace is.
            apart_in (root_name m.namespaces segment) (bound_names declares) (fixed_names s l.«module») (tree_no_fixed s m l b n declares d)
            (root_bound s m l b n declares d segment namespace) (subst (λ (x : List ℕ). IsIn x (fixed_names s l.«module»)) (sym is) (wasm_fixed s l));
        reexports_apart = λ e i h hosted is. (reexport_drawn e (of_import e i h)).1 is;
      }

      -- they belong into a file that has what functions use, and declares their names and the drawn ones of re-exports
      pub items_belong : AllItems (λ item. Belongs c item.words) declares
      items_belong =
          subst (λ (items : List Item). AllItems (λ item. Belongs c item.words) items) (sym d.are)
          (printed_belong c m.namespaces [] d.tree has_tree (is_tree s m l b n declares d))

    -- ---- what their roles ask for

    module _ (all : List Item) (among : (item : Item) → IsIn item declares → IsIn item all) where
      within : (item : Item) → IsIn item printed → IsIn item all
      within item i = among item (subst (IsIn item) (sym d.are) i)

      imported : (e : Entry) → IsIn e d.tree → is_reexport e.1 ≡ true → (reexport : List ℕ) × (e.1.thing ≡ thing.Imported reexport)
      imported e i h = let o = of_import e i h in ((o.reexport).0, o.thing)

      -- they have the words that their roles ask for
      pub tree_prescribed : (starts : Bool) (frame : Frame)
          → AllItems (λ item. IsOneOf item.words (role_words s starts frame all item.role (bound_in item.words))) declares
      tree_prescribed starts frame =
          let P : Item → Type 0 = λ item. IsOneOf item.words (role_words s starts frame all item.role (bound_in item.words)) in
          subst (λ (items : List Item). AllItems P items) (sym d.are) (each_item P printed (λ item i.
          asked_one s starts frame all item.role item.words (bound_in item.words) (role_of item i)
          (printed_prescribed m.namespaces [] d.tree all within imported (is_es_module s.target) (ap is_es_module b.deno)
          (is_tree s m l b n declares d) sound item i)))

      module _ (reexported : ForReexports (λ r x. IsImportBound all (r.1).name x)) where
        -- the name of a re-export stands for its import
        import_stands : (r : Reexport) → IsIn r l.aux.reexports → IsReexported s l.aux all r.0 (public.import_name m.imports (r.1).name)
        import_stands r i =
            let x = reexported r i in
            subst (IsReexported s l.aux all r.0) (sym (import_given r x.0 x.1))
            (record { js = r.1; «typescript» = r.2; described = i; whole = whole r i; names = inl x.2 })

        -- a thing that is declared is bound by what declares it
        bound_by : (t : Thing) (name : List ℕ) → tree.IsDeclaredBy m.namespaces [] d.tree t name → StandsFor s l.aux all t name
        bound_by (thing.Imported reexport) name h = absurd (not_imported reexport (h.item).role h.declares (role_of h.item h.stands))
        bound_by t name h = record { item = h.item; stands = within h.item h.stands; declares = rw h.declares refl; binds = h.binds }

        stands_for : (t : Thing) (name : List ℕ) → tree.Stands m.namespaces [] d.tree t name → StandsFor s l.aux all t name
        stands_for t name (tree.Declared h) = bound_by t name h
        stands_for t name (tree.Grouped h) =
            rw h.group (record { item = h.item; stands = within h.item h.stands; declares = rw h.declares refl; binds = h.binds })
        stands_for t name (tree.Reexported h) =
            let o = of_import h.entry h.there h.reexport in
            subst (λ (u : Thing). StandsFor s l.aux all u name) (sym (h.thing ∙ o.thing))
            (subst (IsReexported s l.aux all (o.reexport).0) (sym (h.named ∙ o.named)) (import_stands o.reexport o.there))

        named_for : (r : Role) → tree.IsNamed m.namespaces [] d.tree r → IsNamed s l.aux all r
        named_for (role.Publish path t name) h = stands_for t name h
        named_for (role.Assign path t name) h = stands_for t name h
        named_for r h = tt

        -- the names under which they publish things stand for those
        pub items_named : AllItems (λ item. IsNamed s l.aux all item.role) declares
        items_named =
            subst (λ (items : List Item). AllItems (λ item. IsNamed s l.aux all item.role) items) (sym d.are)
            (each_item (λ item. IsNamed s l.aux all item.role) printed (λ item i.
            named_for item.role (printed_named m.namespaces [] d.tree (is_tree s m l b n declares d) sound item i)))
