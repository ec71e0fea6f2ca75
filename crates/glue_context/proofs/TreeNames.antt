-- The names of what a description publishes: each entry of its tree declares one that is drawn for it, or is a re-export, and each namespace at
-- the root has one that is drawn for it. No two have one, and none is taken for anything else.
use Rattle.glue_context.proofs.Common.{◌≡◌, ℕ, inl, inr, List, [], ◌∷◌, ◌++◌, flat_map, Bool, true, false, true≢false, Option, Some, None, refl, sym, ap, ◌∙◌, subst, AllZip, IsIn, AreDistinct, AreApart, Item, bound_name, bound_names, AuxExport, Settings, NameMap, AreNames, Lowered, host_names, fixed_names, declared_name, is_named, AreFunctionItems, AreTreeItems}
use Rattle.std.specs.Prelude.{cond, if◌then◌else◌, map}
use Rattle.std.proofs.lemmas.List.Sums.{AllPass-from_list_all}
use Rattle.std.specs.Ordering.{nat_cmp}
use Rattle.std.specs.Cmp.Lexicographic.{slice_cmp}
use Rattle.values.specs.Map.{AreInOrder, look_up}
use Rattle.values.proofs.Members.{in_left, in_right, in_either}
use Rattle.glue_words.specs.Ident.{is_ident}
use Rattle.glue_words.proofs.Among.{apart_by}
use Rattle.glue_words.proofs.Linked.{names-append, names-one}
use Rattle.glue_shared.specs.declared.aux.AuxEnum.{AuxEnum}
use Rattle.glue_shared.specs.declared.import.JsImportName.{JsImportName}
use Rattle.glue_exports.specs.Enums.{enum_item}
use Rattle.glue_exports.specs.Fronts.{path_order}
use Rattle.glue_exports.specs.Printed.{declared_below, root_name, value_or}
use Rattle.glue_exports.specs.Tree.{Entry, IsTree, has_none, is_reexport}
use Rattle.glue_exports.proofs.EnumFacts.{enum_declares}
use Rattle.glue_exports.proofs.Joined.{from_flat, in_flat}
use Rattle.glue_exports.proofs.Linkage.{IsNamespace, bound_all, bound_only, declared_once, own_names, root_name_all, root_name_only, root_names}
use Rattle.glue_exports.proofs.Order.{not_self}
use Rattle.glue_exports.proofs.Sorted.{first_behind, rest_ordered}
use Rattle.glue_public.specs.Described.{FunctionItems, described, entry_of, enum_name, function_definition, lone_functions}
pub use Rattle.glue_public.proofs.TreeFacts.{OfFunction, OfEnum, OfReexport}
use Rattle.glue_public.proofs.TreeFacts.{HasItems, IsOf, each_zip, entry_is, function_in, namespace_root, pairs, qualified_of, same_qualified, tree_is}
use Rattle.glue_names.specs.Given.{closure_names, values_name}
use Rattle.glue_names.specs.Publishing.{qualified}
use Rattle.glue_naming.specs.declared.named.Named.{Named}
use Rattle.glue_naming.specs.declared.named.Named.TheVariants.{Enum, Function, Import, Namespace}
use Rattle.glue_naming.specs.Drawing.{name_in}
use Rattle.glue_naming.specs.Naming.{import_name, without_items}
use Rattle.glue_naming.specs.Wanted.{enum_key}
use Rattle.glue_naming.proofs.Arranged.{each_is}
use Rattle.glue_naming.proofs.EnumNames.{enum_named}
use Rattle.glue_naming.proofs.Functions.{all_named, name_given}
use Rattle.glue_naming.proofs.Namespaces.{root_named}
use Rattle.glue_naming.proofs.Reserved.{free_no_fixed, free_no_host, free_no_values}
use Rattle.glue_context.proofs.ClosureNames.{free_no_callbacks}
use Rattle.glue_context.proofs.Facts.{Facts}
use Rattle.glue_context.proofs.Fits.{declared, declared_binds}

-- ---- things that names are drawn for

-- a function or an enum
abbrev IsOwn : Named → Type 0
IsOwn (Function key) = Unit {0}
IsOwn (Enum key) = Unit {0}
IsOwn thing = ⊥

-- not what an import begins with
abbrev IsNoImport : Named → Type 0
IsNoImport (Import js) = ⊥
IsNoImport thing = Unit {0}

own_no_import : (thing : Named) → IsOwn thing → IsNoImport thing
own_no_import (Function key) h = tt
own_no_import (Enum key) h = tt
own_no_import thing h = absurd h

-- the qualified name
abbrev key_of : Named → List ℕ
key_of (Function key) = key
key_of (Enum key) = key
key_of thing = []

segment_of : (a b : List ℕ) → Namespace a ≡ Namespace b → a ≡ b
segment_of a b e = cc

-- ---- names of entries

-- the name that the items of an entry declare
abbrev entry_names : Entry → List (List ℕ)
entry_names e = if is_reexport e.1 then [] else e.1.identifier ∷ []

names_only : (b : Bool) (name identifier : List ℕ) → IsIn name (cond b [] (identifier ∷ [])) → (b ≡ false) × (name ≡ identifier)
names_only true name identifier i = absurd i
names_only false name identifier (inl same) = (refl, same)
names_only false name identifier (inr none) = absurd none

names_there : (b : Bool) (identifier : List ℕ) → b ≡ false → IsIn identifier (cond b [] (identifier ∷ []))
names_there true identifier h = absurd (true≢false h)
names_there false identifier h = inl refl

-- what is given is found
value_given : (other : List ℕ) (o : Option (List ℕ)) (name : List ℕ) → o ≡ Some name → o ≡ Some (value_or other o)
value_given other None name h = cc
value_given other (Some x) name h = refl

module _ (s : Settings) (m : NameMap) (l : Lowered) where
  -- functions have items
  has_items : (lone : List AuxExport) (functions : List FunctionItems) → AllZip (AreFunctionItems s m l) lone functions
      → AllZip HasItems lone functions
  has_items [] [] h = tt
  has_items [] (f ∷ functions) h = absurd h
  has_items (x ∷ lone) [] h = absurd h
  has_items (x ∷ lone) (f ∷ functions) h = (ap (λ (g : FunctionItems). has_none g.1) (h.0).are, has_items lone functions h.1)

module _ (s : Settings) (m : NameMap) (l : Lowered) (b : Facts s l) (n : AreNames s l m) where
  -- a name is drawn for a thing
  abbrev IsGivenTo : Named → List ℕ → Type 0
  IsGivenTo thing name = name_in (without_items m) thing ≡ Some name

  function_named : (x : AuxExport) → IsIn x l.aux.exports → is_named m x ≡ true
  function_named x i =
      let all = all_named s l m n l.aux.exports (λ e k. (k, b.exports e k)) in
      each_is (λ (e : AuxExport). is_named m e ≡ true) l.aux.exports (AllPass-from_list_all (is_named m) l.aux.exports all) x i

  -- a function has its name, and an enum
  function_given : (x : AuxExport) → IsIn x l.aux.exports → IsGivenTo (Function (qualified x)) (declared_name m x)
  function_given x i = name_given m x (function_named x i)

  enum_given : (x : AuxEnum) → IsIn x l.aux.enums → IsGivenTo (Enum (enum_key x)) (enum_name m.enums x)
  enum_given x i = let r = enum_named s l m n x i in value_given (enum_key x) (look_up (slice_cmp nat_cmp) m.enums (enum_key x)) r.0 r.1

  -- which are identifiers
  pub function_ident : (x : AuxExport) → IsIn x l.aux.exports → is_ident (declared_name m x) ≡ true
  function_ident x i = n.good.idents (Function (qualified x)) (declared_name m x) (function_given x i)

  pub enum_ident : (x : AuxEnum) → IsIn x l.aux.enums → is_ident (enum_name m.enums x) ≡ true
  enum_ident x i = n.good.idents (Enum (enum_key x)) (enum_name m.enums x) (enum_given x i)

  module _ (declares : List Item) (d : AreTreeItems s m l declares) where
    -- ---- the tree

    pub is_tree : IsTree d.tree
    is_tree = tree_is (described l.aux m d.functions) d.tree d.put

    -- what an entry of it is of
    abbrev pub IsFrom : Entry → Type 0
    IsFrom = IsOf l.aux m d.functions

    pub tree_from : (e : Entry) → IsIn e d.tree → IsFrom e
    tree_from = entry_is l.aux m d.functions d.tree d.put

    -- a function with its items is described, and these declare it
    pub function_there : (x : AuxExport) (f : FunctionItems) → IsIn (x, f) (pairs l.aux m d.functions) → IsIn x l.aux.exports
    function_there x f i = (function_in l.aux m d.functions x f i).0

    pub function_items : (x : AuxExport) (f : FunctionItems) → IsIn (x, f) (pairs l.aux m d.functions) → AreFunctionItems s m l x f
    function_items x f i = each_zip (AreFunctionItems s m l) (lone_functions l.aux.exports) d.functions x f d.made i

    -- its entry has its declaration alone
    pub entry_of_function : (e : Entry) (x : AuxExport) (f : FunctionItems) (i : IsIn (x, f) (pairs l.aux m d.functions))
        → e ≡ entry_of (function_definition x f) → e ≡ entry_of (function_definition x (declared_name m x, declared s m l x f (function_items x f i) ∷ []))
    entry_of_function e x f i same =
        same ∙ ap (λ (g : FunctionItems). entry_of (function_definition x g)) (function_items x f i).are

    -- ---- the names of entries

    -- items declare the name of their entry
    entry_binds : (e : Entry) → IsFrom e → bound_names e.1.items ≡ entry_names e
    entry_binds e (OfFunction x f i same) =
        let one = declared s m l x f (function_items x f i) in
        rw (entry_of_function e x f i same) (names-one bound_name one ∙ declared_binds s m l x f (function_items x f i))
    entry_binds e (OfEnum x i same) =
        let name = enum_name m.enums x in rw same (names-one bound_name (enum_item x name) ∙ (enum_declares x name false).binds)
    entry_binds e (OfReexport r i same) = rw same refl

    own_are : (es : List Entry) → ((e : Entry) → IsIn e es → IsFrom e) → own_names es ≡ flat_map entry_names es
    own_are [] h = refl
    own_are (e ∷ es) h =
        names-append bound_name e.1.items (declared_below es)
        ∙ rw (entry_binds e (h e (inl refl)), own_are es (λ f i. h f (inr i))) refl

    entries_are : own_names d.tree ≡ flat_map entry_names d.tree
    entries_are = own_are d.tree tree_from

    -- a name that entries declare is that of one of them
    own_only : (name : List ℕ) → IsIn name (own_names d.tree) → (e : Entry) × IsIn e d.tree × (is_reexport e.1 ≡ false) × (name ≡ e.1.identifier)
    own_only name i =
        let r = from_flat entry_names name d.tree (subst (IsIn name) entries_are i) in
        let k = names_only (is_reexport (r.0).1) name (r.0).1.identifier r.2 in
        (r.0, r.1, k.0, k.1)

    own_there : (e : Entry) → IsIn e d.tree → is_reexport e.1 ≡ false → IsIn e.1.identifier (own_names d.tree)
    own_there e i h =
        subst (IsIn e.1.identifier) (sym entries_are)
        (in_flat entry_names e e.1.identifier d.tree i (names_there (is_reexport e.1) e.1.identifier h))

    -- the name of an entry is drawn for a function or an enum, by its qualified name
    record IsDrawn (e : Entry) (from : IsFrom e) : Type 0 where
      thing : Named
      own : IsOwn thing
      given : IsGivenTo thing e.1.identifier
      key : key_of thing ≡ qualified_of l.aux m d.functions e from

    entry_drawn : (e : Entry) (from : IsFrom e) → is_reexport e.1 ≡ false → IsDrawn e from
    entry_drawn e (OfFunction x f i same) h =
        let named : e.1.identifier ≡ declared_name m x = ap (λ (y : Entry). y.1.identifier) (entry_of_function e x f i same) in
        record { thing = Function (qualified x); own = tt; given = function_given x (function_there x f i) ∙ ap Some (sym named); key = refl }
    entry_drawn e (OfEnum x i same) h =
        let named : e.1.identifier ≡ enum_name m.enums x = ap (λ (y : Entry). y.1.identifier) same in
        record { thing = Enum (enum_key x); own = tt; given = enum_given x i ∙ ap Some (sym named); key = refl }
    entry_drawn e (OfReexport r i same) h = absurd (true≢false (sym (ap (λ (y : Entry). is_reexport y.1) same) ∙ h))

    -- entries with one name are one
    one_entry : (e f : Entry) (h : IsFrom e) (k : IsFrom f) → IsDrawn e h → IsDrawn f k → e.1.identifier ≡ f.1.identifier → e ≡ f
    one_entry e f h k here there same =
        let things = n.good.apart here.thing there.thing e.1.identifier here.given (there.given ∙ ap Some (sym same)) in
        same_qualified s l.aux m d.functions b.things (has_items s m l (lone_functions l.aux.exports) d.functions d.made) e f h k
        (sym here.key ∙ ap key_of things ∙ there.key)

    -- ---- each name once

    first_distinct : (e : Entry) (es : List Entry) → ((f : Entry) → IsIn f (e ∷ es) → IsIn f d.tree) → AreInOrder path_order (e ∷ es)
        → AreDistinct (flat_map entry_names es) → (c : Bool) → is_reexport e.1 ≡ c → AreDistinct (cond c [] (e.1.identifier ∷ []) ++ flat_map entry_names es)
    first_distinct e es among o rest true q = rest
    first_distinct e es among o rest false q = (
      λ i.
          let r = from_flat entry_names e.1.identifier es i in
          let k = names_only (is_reexport (r.0).1) e.1.identifier (r.0).1.identifier r.2 in
          let here = tree_from e (among e (inl refl)) in
          let there = tree_from r.0 (among r.0 (inr r.1)) in
          not_self e.0 (r.0).0 (first_behind e es r.0 o r.1)
          (ap (λ (x : Entry). x.0) (one_entry e r.0 here there (entry_drawn e here q) (entry_drawn r.0 there k.0) k.1)),
      rest,
    )

    each_distinct : (es : List Entry) → ((e : Entry) → IsIn e es → IsIn e d.tree) → AreInOrder path_order es → AreDistinct (flat_map entry_names es)
    each_distinct [] among o = tt
    each_distinct (e ∷ es) among o =
        first_distinct e es among o (each_distinct es (λ f i. among f (inr i)) (rest_ordered e es o)) (is_reexport e.1) refl

    -- a namespace at the root has its name
    root_given : (segment : List ℕ) → IsNamespace d.tree segment → IsGivenTo (Namespace segment) (root_name m.namespaces segment)
    root_given segment namespace =
        let r = root_named s l m n segment (namespace_root s l.aux m d.functions d.tree d.put segment namespace) in
        value_given segment (look_up (slice_cmp nat_cmp) m.namespaces segment) r.0 r.1

    one_root : (a c : List ℕ) → IsNamespace d.tree a → IsNamespace d.tree c → root_name m.namespaces a ≡ root_name m.namespaces c → a ≡ c
    one_root a c h k same =
        segment_of a c (n.good.apart (Namespace a) (Namespace c) (root_name m.namespaces a) (root_given a h) (root_given c k ∙ ap Some (sym same)))

    own_apart : AreApart (own_names d.tree) (root_names m.namespaces d.tree)
    own_apart = apart_by (own_names d.tree) (root_names m.namespaces d.tree) (λ name i k.
        let r = own_only name i in
        let drawn = entry_drawn r.0 (tree_from r.0 r.1) r.2 in
        let root = root_name_only m.namespaces d.tree is_tree name k in
        subst IsOwn (n.good.apart drawn.thing (Namespace root.0) name (drawn.given ∙ ap Some (sym r.3)) (root_given root.0 root.1 ∙ ap Some (sym root.2))) drawn.own)

    -- what the items declare is distinct
    pub tree_distinct : AreDistinct (bound_names declares)
    tree_distinct =
        subst (λ (items : List Item). AreDistinct (bound_names items)) (sym d.are)
        (declared_once m.namespaces d.tree is_tree [] (subst AreDistinct (sym entries_are) (each_distinct d.tree (λ e i. i) is_tree.ordered)) one_root own_apart)

    -- ---- what else they are

    -- a name that is drawn, and for no import
    record IsGiven (name : List ℕ) : Type 0 where
      thing : Named
      other : IsNoImport thing
      given : IsGivenTo thing name

    bound_given : (name : List ℕ) → IsIn name (bound_names declares) → IsGiven name
    bound_given name i = elim (in_either name (own_names d.tree) (root_names m.namespaces d.tree) all) [
      | inl own ↦
          let r = own_only name own in
          let drawn = entry_drawn r.0 (tree_from r.0 r.1) r.2 in
          record { thing = drawn.thing; other = own_no_import drawn.thing drawn.own; given = drawn.given ∙ ap Some (sym r.3) }
      | inr there ↦
          let root = root_name_only m.namespaces d.tree is_tree name there in
          record { thing = Namespace root.0; other = tt; given = root_given root.0 root.1 ∙ ap Some (sym root.2) }
    ]
      where
        all : IsIn name (own_names d.tree ++ root_names m.namespaces d.tree)
        all = bound_only m.namespaces [] d.tree is_tree name (subst (λ (items : List Item). IsIn name (bound_names items)) d.are i)

    -- an entry's name is declared, and so is a namespace's
    pub entry_bound : (e : Entry) → IsIn e d.tree → is_reexport e.1 ≡ false → IsIn e.1.identifier (bound_names declares)
    entry_bound e i h =
        subst (λ (items : List Item). IsIn e.1.identifier (bound_names items)) (sym d.are)
        (bound_all m.namespaces [] d.tree is_tree e.1.identifier (in_left e.1.identifier (own_names d.tree) (root_names m.namespaces d.tree) (own_there e i h)))

    pub root_bound : (segment : List ℕ) → IsNamespace d.tree segment → IsIn (root_name m.namespaces segment) (bound_names declares)
    root_bound segment namespace =
        let name = root_name m.namespaces segment in
        subst (λ (items : List Item). IsIn name (bound_names items)) (sym d.are)
        (bound_all m.namespaces [] d.tree is_tree name
        (in_right name (own_names d.tree) (root_names m.namespaces d.tree) (root_name_all m.namespaces d.tree is_tree segment namespace)))

    -- they are identifiers
    pub tree_ident : (name : List ℕ) → IsIn name (bound_names declares) → is_ident name ≡ true
    tree_ident name i = let g = bound_given name i in n.good.idents g.thing name g.given

    -- none is of the host, one that the glue file binds in each case, or that of a list of a string enum
    pub tree_no_host : AreApart (bound_names declares) (host_names s l.aux)
    tree_no_host = free_no_host s l (bound_names declares) (λ name i. let g = bound_given name i in n.good.free g.thing name g.given)

    pub tree_no_fixed : AreApart (bound_names declares) (fixed_names s l.«module»)
    tree_no_fixed = free_no_fixed s l (bound_names declares) (λ name i. let g = bound_given name i in n.good.free g.thing name g.given)

    pub tree_no_values : AreApart (bound_names declares) (map values_name l.aux.string_enums)
    tree_no_values = free_no_values s l (bound_names declares) (λ name i. let g = bound_given name i in n.good.free g.thing name g.given)

    pub tree_no_callbacks : AreApart (bound_names declares) (closure_names l)
    tree_no_callbacks = free_no_callbacks s l (bound_names declares) (λ name i. let g = bound_given name i in n.good.free g.thing name g.given)

    -- and none is drawn for what an import begins with
    pub tree_apart : (names : List (List ℕ)) → ((x : List ℕ) → IsIn x names → (js : JsImportName) × (import_name m js ≡ Some x))
        → AreApart names (bound_names declares)
    tree_apart names drawn = apart_by names (bound_names declares) (λ name i k.
        let r = drawn name i in
        let g = bound_given name k in
        subst IsNoImport (n.good.apart g.thing (Import r.0) name g.given r.1) g.other)
