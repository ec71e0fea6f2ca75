-- The parts of each expression, and of the statements before it, use no other names than a file has of the import.
use Rattle.std.proofs.Common.{◌≡◌, ℕ, List, [], ◌∷◌, ◌++◌, map, refl, sym, subst, Bool, true, false, true≢false, not, ◌&&◌, Option, Some, None, inl}
use Rattle.std.specs.Prelude.{codes, filter, option_map}
use Rattle.std.specs.List.{AllByRecursion, list_all}
use Rattle.std.proofs.lemmas.Bool.{and_parts}
use Rattle.std.proofs.lemmas.List.{append-nil}
use Rattle.std.proofs.lemmas.List.Elements.{filter-append}
use Rattle.values.specs.Lists.{IsIn}
use Rattle.glue_words.specs.Limits.{is_computed}
use Rattle.glue_words.specs.Linking.{AreAmong}
use Rattle.glue_words.proofs.Among.{among_in, among_parts}
use Rattle.glue_words.proofs.Belonging.{Context}
use Rattle.glue_words.specs.declared.key.TheConstants as key
use Rattle.glue_shared.specs.declared.adapter.AdapterJsImportKind.{AdapterJsImportKind}
use Rattle.glue_shared.specs.declared.adapter.AdapterJsImportKind.TheVariants as calls
use Rattle.glue_shared.specs.declared.import.AuxImport.{AuxImport}
use Rattle.glue_shared.specs.declared.import.AuxImport.TheVariants as what
use Rattle.glue_shared.specs.declared.import.AuxValue.{AuxValue}
use Rattle.glue_shared.specs.declared.import.AuxValue.TheVariants as v
use Rattle.glue_shared.specs.declared.import.Intrinsic.{Intrinsic}
use Rattle.glue_shared.specs.declared.import.Intrinsic.TheVariants as i
use Rattle.glue_shared.specs.declared.import.JsImport.{JsImport}
use Rattle.glue_shared.specs.declared.import.JsImportName.{JsImportName}
use Rattle.glue_shared.specs.declared.name_map.NameMap.{NameMap}
use Rattle.glue_shared.specs.declared.settings.Settings.{Settings}
use Rattle.glue_shared.specs.declared.settings.Target.{Target}
use Rattle.glue_shared.specs.declared.settings.Target.TheVariants as targets
use Rattle.glue_shared.specs.Names.{is_none, is_one_of, js_import, names_of}
use Rattle.glue_imports.specs.declared.part.Part.{Part}
use Rattle.glue_imports.specs.declared.part.Part.TheVariants as part
use Rattle.glue_imports.specs.declared.part.Expression.{Expression}
use Rattle.glue_imports.specs.Definitions.{typeof_front, if_function, else_not_defined, function_or_throw}
use Rattle.glue_imports.specs.Given.{Given, constants_set, exported, false_set, gives_item, is_giving, last_of, set_slot, set_text, statements, table_filled, texts_from}
use Rattle.glue_imports.specs.Roots.{begins, begins_with, drawn_name, plain_name, root_name, root}
use Rattle.glue_imports.specs.Preludes.{plain, const_line, let_line, try_front, line_end, catch_front, close_line, result_is, instance_of, cast, linked, present}
use Rattle.glue_imports.specs.Expressions.{around, assigned, index, new_front, delete_front, accessor_front, owner, described_call, value_parts, static_parts, parts_of, loaded, intrinsic_expression, expression}
use Rattle.glue_imports.specs.Intrinsics.{host, loaded_name}
use Rattle.helper_table.proofs.Held.{free_names}
use Rattle.helper_table.specs.Laws.{any_in}
use Rattle.glue_context.specs.Keys.{import_properties}
use Rattle.glue_context.proofs.Declared.{among_is}

-- names of the host that expressions and steps use beside those that are described, and names of helpers
abbrev pub used_hosts : List (List ℕ)
used_hosts =
    codes "BigInt" ∷ codes "undefined" ∷ codes "Error" ∷ codes "Uint8Array" ∷ codes "RangeError" ∷ codes "URL" ∷ codes "encodeURIComponent" ∷ codes "Blob" ∷ []

abbrev used_helpers : List (List ℕ)
used_helpers = codes "GetOwnOrInheritedPropertyDescriptor" ∷ codes "debugString" ∷ codes "PanicError" ∷ codes "heap" ∷ codes "heap_next" ∷ codes "notDefined" ∷ codes "decodeText" ∷ []

module _ (c : Context) where
  -- a file has the names that a part uses
  abbrev pub HasPart : Part → Type 0
  HasPart (part.Host name fields) = IsIn name c.hosts × AreAmong (filter is_computed fields) c.keys
  HasPart (part.Name name) = IsIn name c.declared
  HasPart part.Exports = IsIn (codes "wasm") c.declared
  HasPart (part.Export name) = IsIn (codes "wasm") c.declared × IsIn name c.exports
  HasPart (part.Property name) = AreAmong (filter is_computed (name ∷ [])) c.keys
  HasPart (part.Chained name) = AreAmong (filter is_computed (name ∷ [])) c.keys
  HasPart other = Unit {0}

  -- and those that an expression and the statements before it use
  pub record HasExpression (e : Expression) : Type 0 where
    pub above : AllByRecursion HasPart e.prelude
    pub value : AllByRecursion HasPart e.value

  -- a file has a drawn name, or without one the name of the host
  abbrev pub HasBegun : (drawn : Option (List ℕ)) → (name : List ℕ) → Type 0
  HasBegun (Some drawn) name = IsIn drawn c.declared
  HasBegun None name = IsIn name c.hosts

  -- so it has what stands for a described name
  abbrev pub HasName : NameMap → JsImportName → Type 0
  HasName m n = HasBegun (drawn_name m n) (plain_name n)

  -- what a file has of an import where these names are drawn, and this is given of the module: the export that gives its item, what stands for
  -- the name that it begins with, its computed keys, and what expressions use besides
  pub record HasImport (m : NameMap) (g : Given) (w : AuxImport) : Type 0 where
    pub given : gives_item w ≡ true → IsIn g.export c.exports
    pub begun : (n : JsImportName) → IsIn n (names_of (js_import w)) → HasName m n
    pub keys : AreAmong (filter is_computed (import_properties w)) c.keys
    pub used : AreAmong used_hosts c.hosts
    pub helpers : AreAmong free_names c.declared
    pub exports : IsIn (codes "wasm") c.declared

  -- an expression, where there is one
  abbrev HasSome : Option Expression → Type 0
  HasSome None = Unit {0}
  HasSome (Some e) = HasExpression e

  both_has : (ps qs : List Part) → AllByRecursion HasPart ps → AllByRecursion HasPart qs → AllByRecursion HasPart (ps ++ qs)
  both_has [] qs h k = k
  both_has (p ∷ ps) qs h k = (h.0, both_has ps qs h.1 k)

  plain_has : (parts : List Part) → AllByRecursion HasPart parts → HasExpression (plain parts)
  plain_has parts h = record { above = tt; value = h }

  -- ---- names that the file has for the values of intrinsics

  -- a file has those of the values of intrinsics
  abbrev pub HasLoaded : Target → Type 0
  HasLoaded target = (value : Intrinsic) (name : List ℕ) → loaded_name target value ≡ Some name → IsIn name c.declared

  loaded_has : (o : Option (List ℕ)) → ((name : List ℕ) → o ≡ Some name → IsIn name c.declared) → HasSome (option_map loaded o)
  loaded_has None h = tt
  loaded_has (Some name) h = plain_has (part.Name name ∷ []) (h name refl, tt)

  -- ---- parts whose names each file has

  -- the names of a part are of those, and its properties no computed keys
  abbrev is_known : Part → Bool
  is_known (part.Host name fields) = is_one_of used_hosts name && is_none (filter is_computed fields)
  is_known (part.Name name) = is_one_of used_helpers name
  is_known (part.Export name) = false
  is_known (part.Property name) = not (is_computed name)
  is_known (part.Chained name) = not (is_computed name)
  is_known other = true

  abbrev known_if : Option Expression → Bool
  known_if None = true
  known_if (Some e) = list_all is_known e.prelude && list_all is_known e.value

  module _ (m : NameMap) (g : Given) (w : AuxImport) (h : HasImport m g w) where
    no_keys : (fields : List (List ℕ)) → is_none (filter is_computed fields) ≡ true → AreAmong (filter is_computed fields) c.keys
    no_keys fields k = by (filter is_computed fields) k
      where
        by : (keys : List (List ℕ)) → is_none keys ≡ true → AreAmong keys c.keys
        by [] k = tt
        by (x ∷ xs) k = cc

    no_key : (name : List ℕ) → not (is_computed name) ≡ true → AreAmong (filter is_computed (name ∷ [])) c.keys
    no_key name k = by (is_computed name) refl k
      where
        by : (b : Bool) → is_computed name ≡ b → not b ≡ true → AreAmong (filter is_computed (name ∷ [])) c.keys
        by false e k = rw e tt
        by true e k = cc

    helpers_free : AreAmong used_helpers free_names
    helpers_free = (
      any_in _ free_names refl,
      (
        any_in _ free_names refl,
        (
          any_in _ free_names refl,
          (
            any_in _ free_names refl,
            (
              any_in _ free_names refl,
              (any_in _ free_names refl, (any_in _ free_names refl, tt)),
            ),
          ),
        ),
      ),
    )

    part_known : (p : Part) → is_known p ≡ true → HasPart p
    part_known (part.Host name fields) k =
        let parts = and_parts (is_one_of used_hosts name) (is_none (filter is_computed fields)) k in
        (among_in name used_hosts c.hosts h.used (among_is name used_hosts parts.0), no_keys fields parts.1)
    part_known (part.Name name) k =
        among_in name free_names c.declared h.helpers (among_in name used_helpers free_names helpers_free (among_is name used_helpers k))
    part_known part.Exports k = h.exports
    part_known (part.Export name) k = absurd (true≢false (sym k))
    part_known (part.Property name) k = no_key name k
    part_known (part.Chained name) k = no_key name k
    part_known other k = tt

    parts_known : (parts : List Part) → list_all is_known parts ≡ true → AllByRecursion HasPart parts
    parts_known [] k = tt
    parts_known (p ∷ parts) k = let both = and_parts (is_known p) (list_all is_known parts) k in (part_known p both.0, parts_known parts both.1)

    some_known : (o : Option Expression) → known_if o ≡ true → HasSome o
    some_known None k = tt
    some_known (Some e) k =
        let both = and_parts (list_all is_known e.prelude) (list_all is_known e.value) k in
        record { above = parts_known e.prelude both.0; value = parts_known e.value both.1 }

    -- ---- what an import begins with

    -- the properties of a value, and one more
    two_keys : (fields : List (List ℕ)) (name : List ℕ) → AreAmong (filter is_computed (fields ++ name ∷ [])) c.keys
        → AreAmong (filter is_computed fields) c.keys × AreAmong (filter is_computed (name ∷ [])) c.keys
    two_keys fields name k = among_parts (filter is_computed fields) (filter is_computed (name ∷ [])) c.keys
        (subst (λ (ks : List (List ℕ)). AreAmong ks c.keys) (filter-append is_computed fields (name ∷ [])) k)

    fields_has : (fields : List (List ℕ)) (behind : List Part) → AreAmong (filter is_computed fields) c.keys → AllByRecursion HasPart behind
        → AllByRecursion HasPart (map part.Property fields ++ behind)
    fields_has [] behind k rest = rest
    fields_has (field ∷ fields) behind k rest =
        let parts = among_parts (filter is_computed (field ∷ [])) (filter is_computed fields) c.keys
        (subst (λ (ks : List (List ℕ)). AreAmong ks c.keys) (filter-append is_computed (field ∷ []) fields) k) in
        (parts.0, fields_has fields behind parts.1 rest)

    module _ (j : JsImport) (is : js_import w ≡ Some j) where
      -- what stands for its name is there
      begun_there : HasName m j.name
      begun_there = h.begun j.name (rw is (inl refl))

      root_has : (behind : List Part) → AreAmong (filter is_computed j.fields) c.keys → AllByRecursion HasPart behind
          → AllByRecursion HasPart (root m j ++ behind)
      root_has behind k rest = by (drawn_name m j.name) begun_there
        where
          by : (drawn : Option (List ℕ)) → HasBegun drawn (plain_name j.name) → AllByRecursion HasPart (begins_with j.fields drawn (plain_name j.name) ++ behind)
          by None at = ((at, k), rest)
          by (Some drawn) at = (at, fields_has j.fields behind k rest)

      name_has : HasPart (root_name m j.name)
      name_has = by (drawn_name m j.name) begun_there
        where
          by : (drawn : Option (List ℕ)) → HasBegun drawn (plain_name j.name) → HasPart (begins drawn (plain_name j.name))
          by None at = (at, tt)
          by (Some drawn) at = at

      around_has : (front behind : List Part) → list_all is_known front ≡ true → AreAmong (filter is_computed j.fields) c.keys
          → AllByRecursion HasPart behind → HasExpression (plain (around m front j behind))
      around_has front behind known k rest =
          plain_has (around m front j behind) (both_has front (root m j ++ behind) (parts_known front known) (root_has behind k rest))

      -- ---- a value that may be absent

      chained_has : (fields : List (List ℕ)) → AreAmong (filter is_computed fields) c.keys → AllByRecursion HasPart (map part.Chained fields)
      chained_has [] k = tt
      chained_has (field ∷ fields) k =
          let parts = among_parts (filter is_computed (field ∷ [])) (filter is_computed fields) c.keys
          (subst (λ (ks : List (List ℕ)). AreAmong ks c.keys) (filter-append is_computed (field ∷ []) fields) k) in
          (parts.0, chained_has fields parts.1)

      static_has : (optional : Bool) → AreAmong (filter is_computed j.fields) c.keys → HasExpression (plain (static_parts m j optional))
      static_has true k =
          let value = root_name m j.name in
          let undefined : HasPart (part.Host (codes "undefined") []) = part_known (part.Host (codes "undefined") []) refl in
          plain_has (present value j.fields) (tt, (tt, (name_has, (tt, (tt, (tt, (tt, (tt, (tt, (tt, (undefined, (tt, (tt, (tt, (name_has, chained_has j.fields k)))))))))))))))
      static_has false k =
          plain_has (root m j) (subst (AllByRecursion HasPart) (append-nil (root m j)) (root_has [] k tt))

      -- ---- a test of instances

      instance_has : AreAmong (filter is_computed j.fields) c.keys → HasExpression (instance_of (root m j))
      instance_has k =
          let value = part.Operand 0 ∷ part.Space ∷ part.Key key.INSTANCEOF ∷ part.Space ∷ root m j in
          let result : AllByRecursion HasPart (result_is value) =
          (tt, (tt, (tt, (tt, (tt, (tt, (tt, (tt, subst (AllByRecursion HasPart) (append-nil (root m j)) (root_has [] k tt))))))))) in
          let body = result_is value ++ line_end in
          let caught = catch_front ++ part.LineFeed ∷ result_is (part.Key key.FALSE ∷ line_end) ++ close_line in
          let behind = part.LineFeed ∷ (body ++ caught) in
          let behind_has : AllByRecursion HasPart behind =
          (tt, both_has body caught (both_has (result_is value) line_end result (parts_known line_end refl)) (parts_known caught refl)) in
          record {
            above = both_has let_line (try_front ++ behind) (parts_known let_line refl) (both_has try_front behind (parts_known try_front refl) behind_has);
            value = (tt, tt);
          }

    -- ---- the table of references, filled

    texts_known : (place : ℕ) (text : List ℕ) (slots : List (ℕ × List ℕ))
        → (list_all is_known (statements (set_text (place, text)) slots) ≡ true) × (list_all is_known (last_of (set_text (place, text)) slots) ≡ true)
    texts_known place text [] = (refl, refl)
    texts_known place text (slot ∷ slots) = let rest = texts_known slot.0 slot.1 slots in (rw rest.0 refl, rest.1)

    false_known : (slots : List (ℕ × List ℕ)) → (list_all is_known (statements false_set slots) ≡ true) × (list_all is_known (last_of false_set slots) ≡ true)
    false_known [] = (refl, refl)
    false_known (slot ∷ slots) = let rest = texts_known slot.0 slot.1 slots in (rw rest.0 refl, rest.1)

    -- the constants behind the first line
    abbrev constants_behind : List Part
    constants_behind =
        set_slot 0 (host (codes "undefined"))
        ++ (line_end
        ++ (set_slot 1024 (host (codes "undefined"))
        ++ (line_end ++ (set_slot 1025 (part.Key key.NULL) ++ (line_end ++ (set_slot 1026 (part.Key key.TRUE) ++ line_end))))))

    -- `const table = wasm.name;` takes the export, and what stands behind it uses what each file has
    constants_has : IsIn g.export c.exports → AllByRecursion HasPart (constants_set g.export)
    constants_has given =
        let front = const_line (part.Export g.export) in
        let line : AllByRecursion HasPart front = (tt, (tt, (tt, (tt, (tt, (tt, ((h.exports, given), (tt, (tt, tt))))))))) in
        both_has front constants_behind line (parts_known constants_behind refl)

    table_has : (externref : Bool) → IsIn g.export c.exports → HasSome (table_filled externref g)
    table_has true given =
        let texts = texts_from 1028 g.slots in
        let known = false_known texts in record {
          above = both_has (constants_set g.export) (statements false_set texts) (constants_has given) (parts_known (statements false_set texts) known.0);
          value = parts_known (last_of false_set texts) known.1;
        }
    table_has false given = tt

    exported_has : IsIn g.export c.exports → HasSome (Some (exported g.export))
    exported_has given = plain_has (part.Export g.export ∷ []) ((h.exports, given), tt)

    -- ---- each kind

    -- an intrinsic is a name that the file has, or else its parts use what each file has
    intrinsic_has : (target : Target) → HasLoaded target → (externref bound : Bool) (name : Intrinsic) → (is_giving name ≡ true → IsIn g.export c.exports)
        → HasSome (intrinsic_expression target externref g bound name)
    intrinsic_has target k externref bound i.Instance given = loaded_has (loaded_name target i.Instance) (k i.Instance)
    intrinsic_has target k externref bound i.Module given = loaded_has (loaded_name target i.Module) (k i.Module)
    intrinsic_has target k externref true i.ObjectCloneRef given = some_known (intrinsic_expression target externref g true i.ObjectCloneRef) refl
    intrinsic_has target k externref true i.ObjectDropRef given = some_known (intrinsic_expression target externref g true i.ObjectDropRef) refl
    intrinsic_has target k externref false i.ObjectCloneRef given = some_known (intrinsic_expression target externref g false i.ObjectCloneRef) refl
    intrinsic_has target k externref false i.ObjectDropRef given = some_known (intrinsic_expression target externref g false i.ObjectDropRef) refl
    intrinsic_has target k externref bound i.Memory given = exported_has (given refl)
    intrinsic_has target k externref bound i.FunctionTable given = exported_has (given refl)
    intrinsic_has target k true bound i.InitExternrefTable given = table_has true (given refl)
    intrinsic_has target k false bound i.InitExternrefTable given = tt
    intrinsic_has target k true bound i.ExternrefHeapLiveCount given = tt
    intrinsic_has target k false bound i.ExternrefHeapLiveCount given = some_known (intrinsic_expression target false g bound i.ExternrefHeapLiveCount) refl
    intrinsic_has target k externref bound other given = some_known (intrinsic_expression target externref g bound other) refl

    link_known : (split : Bool) (target : Target) (path : List ℕ) (content : Option (List ℕ)) → known_if (linked split target path content) ≡ true
    link_known true (targets.Node true) path content = refl
    link_known true (targets.Node false) path content = refl
    link_known true other path content = refl
    link_known false target path None = refl
    link_known false target path (Some content) = refl

    cast_known : (bound : Bool) (comment : List ℕ) → known_if (Some (cast bound comment)) ≡ true
    cast_known true comment = refl
    cast_known false comment = refl

    -- an accessor takes its property as a text
    described_has : (of_instances : Bool) (field which : List ℕ) (spread : Bool) → not (is_computed which) ≡ true
        → AllByRecursion HasPart (owner of_instances ++ described_call field which spread)
    described_has true field which spread k = (no_key (codes "prototype") refl, (tt, (tt, (tt, (tt, (no_key which k, (no_key (codes "call") refl, (tt, tt))))))))
    described_has false field which spread k = (tt, (tt, (tt, (tt, (no_key which k, (no_key (codes "call") refl, (tt, tt)))))))

  value_has : (m : NameMap) (g : Given) (call : AdapterJsImportKind) (spread : Bool) (value : AuxValue) → HasImport m g (what.Value value)
      → HasExpression (plain (value_parts m call spread value))
  value_has m g calls.Normal spread (v.Bare j) h = around_has m g _ h j refl [] (part.Arguments spread ∷ []) refl h.keys (tt, tt)
  value_has m g calls.Method spread (v.Bare j) h =
      around_has m g _ h j refl [] (part.Property (codes "call") ∷ part.Arguments spread ∷ []) refl h.keys (no_key m g _ h (codes "call") refl, (tt, tt))
  value_has m g calls.Constructor spread (v.Bare j) h = around_has m g _ h j refl new_front (part.Arguments spread ∷ []) refl h.keys (tt, tt)
  value_has m g call spread (v.Getter j field) h =
      around_has m g _ h j refl accessor_front _ refl (two_keys m g _ h j.fields field h.keys).0 (described_has m g _ h true field (codes "get") spread refl)
  value_has m g call spread (v.ClassGetter j field) h =
      around_has m g _ h j refl accessor_front _ refl (two_keys m g _ h j.fields field h.keys).0 (described_has m g _ h false field (codes "get") spread refl)
  value_has m g call spread (v.Setter j field) h =
      around_has m g _ h j refl accessor_front _ refl (two_keys m g _ h j.fields field h.keys).0 (described_has m g _ h true field (codes "set") spread refl)
  value_has m g call spread (v.ClassSetter j field) h =
      around_has m g _ h j refl accessor_front _ refl (two_keys m g _ h j.fields field h.keys).0 (described_has m g _ h false field (codes "set") spread refl)

  expression_has_all : (s : Settings) (m : NameMap) (g : Given) (call : AdapterJsImportKind) (spread bound : Bool) (w : AuxImport) → HasImport m g w
      → HasLoaded s.target → HasSome (expression s m g call spread bound w)
  expression_has_all s m g call spread bound (what.Value value) h k = value_has m g call spread value h
  expression_has_all s m g call spread bound (what.ValueWithThis j property) h k =
      let keys = two_keys m g _ h j.fields property h.keys in
      around_has m g _ h j refl [] (part.Property property ∷ part.Arguments spread ∷ []) refl keys.0 (keys.1, (tt, tt))
  expression_has_all s m g call spread bound (what.Instanceof j) h k = instance_has m g _ h j refl h.keys
  expression_has_all s m g call spread bound (what.Static j optional) h k = static_has m g _ h j refl optional h.keys
  expression_has_all s m g call spread bound (what.String text) h k = plain_has (part.Literal text ∷ []) (tt, tt)
  expression_has_all s m g call spread bound (what.Cast comment) h k = some_known m g _ h (Some (cast bound comment)) (cast_known m g _ h bound comment)
  expression_has_all s m g call spread bound (what.LinkTo path content) h k =
      some_known m g _ h (linked s.split_linked_modules s.target path content) (link_known m g _ h s.split_linked_modules s.target path content)
  expression_has_all s m g call spread bound (what.Intrinsic name) h k =
      intrinsic_has m g _ h s.target k s.externref bound name h.given
  expression_has_all s m g call spread bound (what.StructuralMethod property) h k = plain_has _ (tt, (h.keys, (tt, tt)))
  expression_has_all s m g call spread bound (what.StructuralGetter property) h k = plain_has _ (tt, (h.keys, tt))
  expression_has_all s m g call spread bound (what.StructuralSetter property) h k = plain_has _ (tt, (h.keys, (tt, (tt, (tt, (tt, tt))))))
  expression_has_all s m g call spread bound (what.StructuralClassGetter j property) h k =
      let keys = two_keys m g _ h j.fields property h.keys in
      around_has m g _ h j refl [] (part.Property property ∷ []) refl keys.0 (keys.1, tt)
  expression_has_all s m g call spread bound (what.StructuralClassSetter j property) h k =
      let keys = two_keys m g _ h j.fields property h.keys in
      around_has m g _ h j refl [] (part.Property property ∷ assigned 0) refl keys.0 (keys.1, parts_known m g _ h (assigned 0) refl)
  expression_has_all s m g call spread bound (what.IndexingGetterOfClass j) h k =
      around_has m g _ h j refl [] (index 0) refl h.keys (parts_known m g _ h (index 0) refl)
  expression_has_all s m g call spread bound (what.IndexingSetterOfClass j) h k =
      around_has m g _ h j refl [] (index 0 ++ assigned 1) refl h.keys (parts_known m g _ h (index 0 ++ assigned 1) refl)
  expression_has_all s m g call spread bound (what.IndexingDeleterOfClass j) h k =
      around_has m g _ h j refl delete_front (index 0) refl h.keys (parts_known m g _ h (index 0) refl)
  expression_has_all s m g call spread bound what.IndexingGetterOfObject h k =
      let parts = parts_of m call spread what.IndexingGetterOfObject in some_known m g _ h (option_map plain parts) refl
  expression_has_all s m g call spread bound what.IndexingSetterOfObject h k =
      let parts = parts_of m call spread what.IndexingSetterOfObject in some_known m g _ h (option_map plain parts) refl
  expression_has_all s m g call spread bound what.IndexingDeleterOfObject h k =
      let parts = parts_of m call spread what.IndexingDeleterOfObject in some_known m g _ h (option_map plain parts) refl
  expression_has_all s m g call spread bound other h k = tt

  -- an import's expression, with the statements before it, uses no other names than a file has of the import
  pub expression_has : (s : Settings) (m : NameMap) (g : Given) (call : AdapterJsImportKind) (spread bound : Bool) (w : AuxImport) (e : Expression)
      → HasImport m g w → HasLoaded s.target → expression s m g call spread bound w ≡ Some e → HasExpression e
  expression_has s m g call spread bound w e h k is = subst HasSome is (expression_has_all s m g call spread bound w h k)

  -- nor does the definition of an import by a value
  pub function_has : (m : NameMap) (g : Given) (j : JsImport) (text : List ℕ) → HasImport m g (what.Value (v.Bare j))
      → AllByRecursion HasPart (function_or_throw m j text)
  function_has m g j text h =
      let w = what.Value (v.Bare j) in
      let last = root m j ++ else_not_defined text in
      let second = both_has if_function last (parts_known m g w h if_function refl)
      (root_has m g w h j refl (else_not_defined text) h.keys (parts_known m g w h (else_not_defined text) refl)) in
      both_has typeof_front (root m j ++ (if_function ++ last)) (parts_known m g w h typeof_front refl) (root_has m g w h j refl (if_function ++ last) h.keys second)
