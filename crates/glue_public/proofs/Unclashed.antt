-- Definitions of things no two of which clash make a tree.
use Rattle.std.proofs.Common.{◌≡◌, ℕ, Bool, true, false, true≢false, not, ◌&&◌, cond, List, [], ◌∷◌, ◌++◌, map, flat_map, Option, Some, None, refl, sym, ap, ◌∙◌, subst, inl, inr}
use Rattle.std.proofs.lemmas.Bool.{or_parts, or_from, or_left, or_right}
use Rattle.std.proofs.lemmas.List.{map-append, append_assoc}
use Rattle.std.proofs.lemmas.Slice.Eq.{bytes_eq-Decides}
use Rattle.std.specs.Prelude.{is_some}
use Rattle.std.specs.List.{AllZip}
use Rattle.std.specs.Map.{keys_of}
use Rattle.std.specs.Ordering.{eq_by_cmp}
use Rattle.values.specs.Lists.{IsIn}
use Rattle.values.proofs.Members.{in_left, in_right, in_either}
use Rattle.glue_shared.specs.Paths.{Path}
use Rattle.glue_shared.specs.declared.aux.AuxEnum.{AuxEnum}
use Rattle.glue_shared.specs.declared.aux.AuxExport.{AuxExport}
use Rattle.glue_shared.specs.declared.aux.WasmBindgenAux.{WasmBindgenAux}
use Rattle.glue_shared.specs.declared.import.JsImportName.{JsImportName}
use Rattle.glue_shared.specs.declared.name_map.NameMap.{NameMap}
use Rattle.glue_shared.specs.declared.settings.Settings.{Settings}
use Rattle.glue_targets.specs.PublicTree.{fronts, same_path}
use Rattle.glue_faults.specs.Clash.{AreCompatible}
use Rattle.glue_faults.proofs.Apart.{compatible}
use Rattle.glue_faults.proofs.First.{option_map-none}
use Rattle.glue_exports.specs.declared.definition.ExportDefinition.{ExportDefinition}
use Rattle.glue_exports.specs.Fronts.{path_order, runs_through, is_run_through}
use Rattle.glue_exports.specs.Tree.{Entry, has_none, is_reexport, is_declared, found, clashes, defined}
use Rattle.glue_exports.proofs.Joined.{in_map, from_map, none_any}
use Rattle.glue_exports.proofs.Keys.{ties}
use Rattle.glue_exports.proofs.Order.{same_is, is_same, in_runs}
use Rattle.glue_published.specs.declared.things.PublishedThing.{PublishedThing}
use Rattle.glue_published.specs.Clash.{clash, thing_clash}
use Rattle.glue_published.specs.Things.{thing_at, stands_alone, export_things, class_thing, enum_thing, reexport_thing, reset_things, published_things}
use Rattle.glue_public.specs.declared.definitions.PublicDefinition.{PublicDefinition}
use Rattle.glue_public.specs.Described.{FunctionItems, Reexport, lone_functions, zipped, enum_definition, reexport_definition, described, entry_of, IsRefused}
use Rattle.glue_public.proofs.Put.{from_inserted, new_path}
use Rattle.glue_public.proofs.Entries.{IsOf, definition_of, is_entry_of, is_described, qualified_of, qualified_is}

-- ---- entries beside one another

-- two entries of different paths, neither of which runs through a declared one
record AreBeside (x y : Entry) : Type 0 where
  apart : same_path x.0 y.0 ≡ false
  above : (not (is_reexport x.1) && runs_through y.0 x.0) ≡ false
  below : (not (is_reexport y.1) && runs_through x.0 y.0) ≡ false

first_false : (a b : Bool) → b ≡ true → (a && b) ≡ false → a ≡ false
first_false true b t h = sym t ∙ h
first_false false b t h = refl

second_false : (a b : Bool) → a ≡ true → (a && b) ≡ false → b ≡ false
second_false true b t h = h
second_false false b t h = absurd (true≢false (sym t))

found_at : (b : Bool) (path : Path) (e : Entry) (es : List Entry) (d : ExportDefinition) → eq_by_cmp path_order path e.0 ≡ b
    → (found es path ≡ Some d → IsIn (path, d) es) → cond b (Some e.1) (found es path) ≡ Some d → IsIn (path, d) (e ∷ es)
found_at true path e es d at later h =
    let here : path ≡ e.0 = same_is path e.0 (sym (ties path e.0) ∙ at) in
    let is : e.1 ≡ d = cc in
    inl (ap (λ (p : Path). (p, d)) here ∙ ap (λ (x : ExportDefinition). (e.0, x)) (sym is))
found_at false path e es d at later h = inr (later h)

-- what is found at a path stands there
found_in : (tree : List Entry) (path : Path) (d : ExportDefinition) → found tree path ≡ Some d → IsIn (path, d) tree
found_in [] path d h = absurd (true≢false (sym (ap is_some h)))
found_in (e ∷ tree) path d h = found_at (eq_by_cmp path_order path e.0) path e tree d refl (found_in tree path d) h

-- an entry that stands beside each entry of a tree can stand in it
module _ (tree : List Entry) (y : Entry) (beside : (x : Entry) → IsIn x tree → AreBeside x y) where
  none_there : (o : Option ExportDefinition) → found tree y.0 ≡ o → is_some o ≡ false
  none_there None at = refl
  none_there (Some d) at =
      absurd (true≢false (sym (is_same y.0 y.0 refl) ∙ (beside (y.0, d) (found_in tree y.0 d at)).apart))

  none_through : (declared : Bool) → not (is_reexport y.1) ≡ declared → (declared && is_run_through (keys_of tree) y.0) ≡ false
  none_through false is = refl
  none_through true is = none_any (λ (path : Path). runs_through path y.0) (keys_of tree) (λ path i runs.
      let r = from_map (λ (x : Entry). x.0) path tree i in
      let free = second_false (not (is_reexport y.1)) (runs_through r.0.0 y.0) is (beside r.0 r.1).below in
      true≢false (sym runs ∙ ap (λ (p : Path). runs_through p y.0) r.2 ∙ free))

  undeclared : (front : Path) → IsIn front (fronts y.0) → (o : Option ExportDefinition) → found tree front ≡ o → is_declared o ≡ false
  undeclared front i None at = refl
  undeclared front i (Some d) at =
      first_false (not (is_reexport d)) (runs_through y.0 front) (in_runs y.0 front i) (beside (front, d) (found_in tree front d at)).above

  can_stand : clashes tree y.0 y.1 ≡ false
  can_stand =
      or_from _ _ (none_there (found tree y.0) refl) (or_from _ _ (none_through (not (is_reexport y.1)) refl)
      (none_any (λ (front : Path). is_declared (found tree front)) (fronts y.0) (λ front i declared.
      true≢false (sym declared ∙ undeclared front i (found tree front) refl))))

-- ---- definitions that are put in

-- the thing that a definition publishes
abbrev thing_of : PublicDefinition → PublishedThing
thing_of d = thing_at d.namespace d.name (is_reexport d.definition) d.definition.private

abbrev of_clash : PublicDefinition → PublicDefinition → Bool
of_clash a b = clash (thing_of a) (thing_of b)

set_apart : (a b : PublicDefinition) → of_clash a b ≡ false → AreBeside (entry_of a) (entry_of b)
set_apart a b h =
    let path = or_parts _ _ h in
    let blocked = or_parts _ _ (or_parts _ _ path.1).1 in
    record { apart = path.0; above = blocked.0; below = blocked.1 }

none_refused : (ds : List PublicDefinition) (tree : List Entry) → AreCompatible of_clash ds
    → ((x : Entry) → IsIn x tree → (d : PublicDefinition) → IsIn d ds → AreBeside x (entry_of d)) → (name : List ℕ) → IsRefused ds tree name
    → ⊥
none_refused [] tree c beside name refused = refused
none_refused (d ∷ ds) tree c beside name (inl here) =
    true≢false (sym here.0 ∙ can_stand tree (entry_of d) (λ x i. beside x i d (inl refl)))
none_refused (d ∷ ds) tree c beside name (inr later) =
    none_refused ds (defined tree (entry_of d).0 d.definition) c.1 (λ x i e k.
    elim (from_inserted path_order x tree (entry_of d).0 d.definition (new_path tree (entry_of d) later.0) i) [
      | inl same ↦ rw same (set_apart d e (c.0 e k))
      | inr before ↦ beside x before e (inr k)
    ]) name later.1

-- ---- entries of a list that don't clash

module _ {A : Type 0} (c : A → A → Bool) where
  compatible_front : (xs ys : List A) → AreCompatible c (xs ++ ys) → AreCompatible c xs
  compatible_front [] ys h = tt
  compatible_front (x ∷ xs) ys h = (λ later i. h.0 later (in_left later xs ys i), compatible_front xs ys h.1)

  compatible_without : (xs ys zs : List A) → AreCompatible c (xs ++ (ys ++ zs)) → AreCompatible c (xs ++ zs)
  compatible_without [] [] zs h = h
  compatible_without [] (y ∷ ys) zs h = compatible_without [] ys zs h.1
  compatible_without (x ∷ xs) ys zs h = (
    λ later i. h.0 later (elim (in_either later xs zs i) [
      | inl front ↦ in_left later xs (ys ++ zs) front
      | inr back ↦ in_right later xs (ys ++ zs) (in_right later ys zs back)
    ]),
    compatible_without xs ys zs h.1,
  )

  -- what clashes both ways is one
  clash_same : (xs : List A) (x y : A) → AreCompatible c xs → IsIn x xs → IsIn y xs → c x y ≡ true → c y x ≡ true → x ≡ y
  clash_same [] x y h i k forth back = absurd i
  clash_same (z ∷ xs) x y h (inl a) (inl b) forth back = a ∙ sym b
  clash_same (z ∷ xs) x y h (inl a) (inr k) forth back =
      absurd (true≢false (sym forth ∙ ap (λ (w : A). c w y) a ∙ h.0 y k))
  clash_same (z ∷ xs) x y h (inr i) (inl b) forth back =
      absurd (true≢false (sym back ∙ ap (λ (w : A). c w x) b ∙ h.0 x i))
  clash_same (z ∷ xs) x y h (inr i) (inr k) forth back = clash_same xs x y h.1 i k forth back

compatible_of : {A B : Type 0} (c : A → A → Bool) (f : B → A) (xs : List B) → AreCompatible c (map f xs)
    → AreCompatible (λ a b. c (f a) (f b)) xs
compatible_of c f [] h = tt
compatible_of c f (x ∷ xs) h = (λ later i. h.0 (f later) (in_map f later xs i), compatible_of c f xs h.1)

-- ---- the things of a description

-- a function has items
abbrev pub HasItems : AuxExport → FunctionItems → Type 0
HasItems e f = has_none f.1 ≡ false

by_kind : (b : Bool) (e : AuxExport) (exports : List AuxExport) (functions : List FunctionItems)
    → ((others : List FunctionItems) → AllZip HasItems (lone_functions exports) others
    → map thing_of (zipped (lone_functions exports) others) ≡ flat_map export_things exports)
    → AllZip HasItems (cond b (e ∷ lone_functions exports) (lone_functions exports)) functions
    → map thing_of (zipped (cond b (e ∷ lone_functions exports) (lone_functions exports)) functions)
    ≡ cond b (thing_at e.namespace e.name false false ∷ []) [] ++ flat_map export_things exports
by_kind true e exports [] later h = absurd h
by_kind true e exports (f ∷ functions) later h =
    ap (λ (b : Bool). thing_at e.namespace e.name b false ∷ map thing_of (zipped (lone_functions exports) functions)) h.0
    ∙ ap (λ (ts : List PublishedThing). thing_at e.namespace e.name false false ∷ ts) (later functions h.1)
by_kind false e exports functions later h = later functions h

functions_are : (exports : List AuxExport) (functions : List FunctionItems) → AllZip HasItems (lone_functions exports) functions
    → map thing_of (zipped (lone_functions exports) functions) ≡ flat_map export_things exports
functions_are [] functions h = refl
functions_are (e ∷ exports) functions h = by_kind (stands_alone e.kind) e exports functions (functions_are exports) h

enums_are : (given : List (List ℕ × List ℕ)) (es : List AuxEnum) → map thing_of (map (enum_definition given) es) ≡ map enum_thing es
enums_are given [] = refl
enums_are given (e ∷ es) = ap (λ (ts : List PublishedThing). enum_thing e ∷ ts) (enums_are given es)

reexports_are : (given : List (JsImportName × List ℕ)) (rs : List Reexport)
    → map thing_of (map (reexport_definition given) rs) ≡ map reexport_thing rs
reexports_are given [] = refl
reexports_are given (r ∷ rs) = ap (λ (ts : List PublishedThing). reexport_thing r ∷ ts) (reexports_are given rs)

module _ (settings : Settings) (aux : WasmBindgenAux) (given : NameMap) (functions : List FunctionItems)
    (none : thing_clash settings aux ≡ None) (items : AllZip HasItems (lone_functions aux.exports) functions) where
  abbrev lone : List PublicDefinition
  lone = zipped (lone_functions aux.exports) functions

  abbrev enums : List PublicDefinition
  enums = map (enum_definition given.enums) aux.enums

  abbrev reexports : List PublicDefinition
  reexports = map (reexport_definition given.imports) aux.reexports

  abbrev function_things : List PublishedThing
  function_things = flat_map export_things aux.exports

  abbrev enum_things : List PublishedThing
  enum_things = map enum_thing aux.enums

  abbrev reexport_things : List PublishedThing
  reexport_things = map reexport_thing aux.reexports

  -- those that are put into the tree
  abbrev own_things : List PublishedThing
  own_things = function_things ++ (enum_things ++ reexport_things)

  described_things : map thing_of (described aux given functions) ≡ own_things
  described_things =
      map-append thing_of lone (enums ++ reexports)
      ∙ ap (λ (ts : List PublishedThing). ts ++ map thing_of (enums ++ reexports)) (functions_are aux.exports functions items)
      ∙ ap (λ (ts : List PublishedThing). function_things ++ ts) (
      map-append thing_of enums reexports
      ∙ ap (λ (ts : List PublishedThing). ts ++ map thing_of reexports) (enums_are given.enums aux.enums)
      ∙ ap (λ (ts : List PublishedThing). enum_things ++ ts) (reexports_are given.imports aux.reexports))

  own_compatible : AreCompatible clash own_things
  own_compatible =
      let reset = reset_things settings aux in
      let all = compatible clash (published_things settings aux) (option_map-none _ _ none) in
      let classless = compatible_without clash function_things (map class_thing aux.structs) (enum_things ++ (reexport_things ++ reset)) all in
      let grouped : function_things ++ (enum_things ++ (reexport_things ++ reset)) ≡ own_things ++ reset =
      ap (λ (ts : List PublishedThing). function_things ++ ts) (sym (append_assoc enum_things reexport_things reset))
      ∙ sym (append_assoc function_things (enum_things ++ reexport_things) reset) in
      compatible_front clash own_things reset (subst (AreCompatible clash) grouped classless)

  described_compatible : AreCompatible of_clash (described aux given functions)
  described_compatible =
      compatible_of clash thing_of (described aux given functions) (subst (AreCompatible clash) (sym described_things) own_compatible)

  -- none of the definitions is refused
  pub never_refused : (name : List ℕ) → IsRefused (described aux given functions) [] name → ⊥
  never_refused name refused = none_refused (described aux given functions) [] described_compatible (λ x i. absurd i) name refused

  same_clash : (a b : PublicDefinition) → (thing_of a).qualified ≡ (thing_of b).qualified → of_clash a b ≡ true
  same_clash a b same =
      or_right _ _ (or_left _ _ ((bytes_eq-Decides (thing_of a).qualified (thing_of b).qualified).1 same))

  -- entries of one qualified name are one
  pub same_qualified : (x y : Entry) (a : IsOf aux given functions x) (b : IsOf aux given functions y)
      → qualified_of aux given functions x a ≡ qualified_of aux given functions y b → x ≡ y
  same_qualified x y a b same =
      let d = definition_of aux given functions x a in
      let e = definition_of aux given functions y b in
      let names = sym (qualified_is aux given functions x a) ∙ same ∙ qualified_is aux given functions y b in
      is_entry_of aux given functions x a
      ∙ ap entry_of (
      clash_same of_clash (described aux given functions) d e described_compatible (is_described aux given functions x a)
      (is_described aux given functions y b) (same_clash d e names) (same_clash e d (sym names)))
      ∙ sym (is_entry_of aux given functions y b)
