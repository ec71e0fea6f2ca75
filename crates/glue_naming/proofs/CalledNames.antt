-- The names that are drawn for what own imports call and re-exports name: each that is no name of the host has one, an identifier that is
-- taken for nothing else.
use Rattle.std.proofs.Common.{◌≡◌, ℕ, Bool, true, false, cond, ◌==◌, true≢false, List, [], ◌∷◌, map, refl, sym, ap, subst, ◌∙◌, ◌⊎◌, inl, inr}
use Rattle.std.specs.Prelude.{Option, None, Some, option_map, option_and_then, find, filter_map}
use Rattle.std.specs.FinSet as set
use Rattle.std.specs.List.{flat_map, list_all}
use Rattle.std.specs.Ordering.{nat_cmp}
use Rattle.std.proofs.lemmas.List.Sorted.{IsPermutation-sym}
use Rattle.std.proofs.lemmas.List.Sums.{list_all-from_AllPass}
use Rattle.values.specs.Lists.{IsIn, AreDistinct, AreApart}
use Rattle.values.specs.Map.{look_up}
use Rattle.values.proofs.Members.{in_either, in_left, in_right}
use Rattle.wasm_core.specs.ids.ImportId.{ImportId}
use Rattle.glue_words.specs.Ident.{is_ident}
use Rattle.glue_words.proofs.Among.{apart_by}
use Rattle.glue_shared.specs.declared.adapter.Instruction.{Instruction}
use Rattle.glue_shared.specs.declared.adapter.Instruction.TheVariants as instr
use Rattle.glue_shared.specs.declared.aux.AuxExport.{AuxExport}
use Rattle.glue_shared.specs.declared.aux.AuxStruct.{AuxStruct}
use Rattle.glue_shared.specs.declared.description.Lowered.{Lowered}
use Rattle.glue_shared.specs.declared.import.AuxImport.{AuxImport}
use Rattle.glue_shared.specs.declared.import.JsImportName.{JsImportName}
use Rattle.glue_shared.specs.declared.name_map.NameMap.{NameMap}
use Rattle.glue_shared.specs.declared.settings.Settings.{Settings}
use Rattle.glue_shared.specs.declared.settings.Target.{Target}
use Rattle.glue_shared.specs.Names.{code_of, described_names, entry_of, fixed_names, has_number, host_names, js_import, names_of, own_imports}
use Rattle.glue_published.specs.Reexports.{Reexport, is_outside}
use Rattle.glue_names.specs.Given.{values_name}
use Rattle.glue_names.specs.Handed.{callee, own_callees, pair_callees}
use Rattle.glue_names.specs.Publishing.{qualified}
use Rattle.glue_published.specs.Things.{stands_alone}
use Rattle.glue_names.proofs.Globals.{from_flat, in_flat}
use Rattle.glue_names.proofs.Called.{callee_is, number_in}
use Rattle.glue_naming.specs.Given.{reserved_names}
use Rattle.glue_naming.specs.Imported.{called_name, called_names, import_wanted, local_name, names_called, pair_names}
use Rattle.glue_naming.specs.Listed.{called_once, drawn_import, drawn_imports, imports_named, names_drawn}
use Rattle.glue_naming.specs.Naming.{AreNames, declared_name, function_name, import_name, is_named, without_items}
use Rattle.glue_naming.specs.Reexported.{reexported_besides}
use Rattle.glue_naming.specs.Wanted.{class_names, enum_wanted, function_names, function_wanted, root_wanted}
use Rattle.glue_naming.specs.declared.named.Named.{Named}
use Rattle.glue_naming.specs.declared.named.Named.TheVariants.{Import, Function}
use Rattle.glue_naming.specs.declared.named.Wanted.{Wanted}
use Rattle.glue_naming.specs.declared.named.WantedName.TheVariants.{Plain}
use Rattle.glue_naming.proofs.Arranged.{all_are, moved_from}
use Rattle.glue_naming.proofs.Draws.{IsAt, stands}
use Rattle.glue_naming.proofs.Functions.{given_of}
use Rattle.glue_names.proofs.EachOnce.{once_from, once_has}
use Rattle.glue_names.proofs.MappedLists.{flat_more, from_map, from_part, in_map, in_part, in_where, part_distinct, where_true}
use Rattle.glue_naming.proofs.Reserved.{free_no_fixed, free_no_host, free_no_values}
use Rattle.glue_naming.proofs.Reexports.{besides_from, both_once, reexport_there}
use Rattle.glue_naming.proofs.WantedNames.{each_wanted, import_there}
use Rattle.glue_naming.proofs.WantedNames as asked

-- ---- what is wanted

-- what is wanted for what is no name of the host
abbrev wanted_as : Target → JsImportName → Wanted
wanted_as t js = record { thing = Import js; name = Plain (local_name t js) }

wanted_there : (omitted : Bool) (t : Target) (name : JsImportName) → is_outside omitted name ≡ false → import_wanted omitted t name ≡ Some (wanted_as t name)
wanted_there omitted t name h = ap (λ (b : Bool). cond b None (Some (wanted_as t name))) h

wanted_only : (omitted : Bool) (t : Target) (name : JsImportName) (w : Wanted) → import_wanted omitted t name ≡ Some w
    → (w.thing ≡ Import name) × (is_outside omitted name ≡ false)
wanted_only omitted t name w e = by (is_outside omitted name) refl e
  where
    by : (b : Bool) → is_outside omitted name ≡ b → cond b None (Some (wanted_as t name)) ≡ Some w
        → (w.thing ≡ Import name) × (is_outside omitted name ≡ false)
    by true q e = cc
    by false q e = let same : wanted_as t name ≡ w = cc in (ap (λ (x : Wanted). x.thing) (sym same), q)

-- what is none is no text
not_both : (o : Option (List ℕ)) (text : List ℕ) → o ≡ None → o ≡ Some text → ⊥
not_both o text h k = cc

-- the thing that stands at a place is wanted
at_wanted : (thing : Named) (name : List ℕ) (list : List Wanted) (names : List (List ℕ)) → IsAt thing name list names
    → (w : Wanted) × IsIn w list × (thing ≡ w.thing)
at_wanted thing name [] names h = absurd h
at_wanted thing name (w ∷ list) [] h = absurd h
at_wanted thing name (w ∷ list) (n ∷ names) (inl p) = (w, inl refl, p.0)
at_wanted thing name (w ∷ list) (n ∷ names) (inr h) = let r = at_wanted thing name list names h in (r.0, inr r.1, r.2)

-- classes, enums, functions and namespaces are no imports
no_class : (c : AuxStruct) (w : Wanted) (name : JsImportName) → IsIn w (class_names c) → Import name ≡ w.thing → ⊥
no_class c w name (inl same) e = cc
no_class c w name (inr (inl same)) e = cc
no_class c w name (inr (inr i)) e = i

no_enum : (key : List ℕ) (w : Wanted) (name : JsImportName) → w ≡ enum_wanted key → Import name ≡ w.thing → ⊥
no_enum key w name same e = cc

no_root : (key : List ℕ) (w : Wanted) (name : JsImportName) → w ≡ root_wanted key → Import name ≡ w.thing → ⊥
no_root key w name same e = cc

no_function : (x : AuxExport) (w : Wanted) (name : JsImportName) → IsIn w (function_names x) → Import name ≡ w.thing → ⊥
no_function x w name i e = only (in_where w (function_wanted (qualified x) ∷ []) (stands_alone x.kind) i).0
  where
    only : IsIn w (function_wanted (qualified x) ∷ []) → ⊥
    only (inl same) = cc
    only (inr none) = none

-- ---- what is called

named_case : (e : ℕ × AuxImport) (es : List (ℕ × AuxImport)) (id : ℕ) (n : JsImportName) (b : Bool)
    → (IsIn n (names_of (option_and_then js_import (option_map (λ (x : ℕ × AuxImport). x.1) (find (λ (x : ℕ × AuxImport). x.0 == id) es))))
    → IsIn n (flat_map (λ (x : ℕ × AuxImport). names_of (js_import x.1)) es))
    → IsIn n (names_of (option_and_then js_import (option_map (λ (x : ℕ × AuxImport). x.1)
    (cond b (Some e) (find (λ (x : ℕ × AuxImport). x.0 == id) es)))))
    → IsIn n (flat_map (λ (x : ℕ × AuxImport). names_of (js_import x.1)) (e ∷ es))
named_case e es id n true later i = in_left n (names_of (js_import e.1)) _ i
named_case e es id n false later i = in_right n (names_of (js_import e.1)) _ (later i)

-- what an instruction calls is described
entry_described : (es : List (ℕ × AuxImport)) (id : ℕ) (n : JsImportName)
    → IsIn n (names_of (option_and_then js_import (option_map (λ (x : ℕ × AuxImport). x.1) (find (λ (x : ℕ × AuxImport). x.0 == id) es))))
    → IsIn n (flat_map (λ (x : ℕ × AuxImport). names_of (js_import x.1)) es)
entry_described [] id n i = absurd i
entry_described (e ∷ es) id n i = named_case e es id n (e.0 == id) (entry_described es id n) i

step_described : (es : List (ℕ × AuxImport)) (step : Instruction) (n : JsImportName) → IsIn n (called_name es step)
    → IsIn n (flat_map (λ (x : ℕ × AuxImport). names_of (js_import x.1)) es)
step_described es (instr.CallAdapter id) n i = entry_described es id n i
step_described es step n i = absurd i

-- a step with this callee is the call of it
drawn_is : (name : JsImportName) (o : Option (List ℕ)) (e : JsImportName × List ℕ) → option_map (λ (d : List ℕ). (name, d)) o ≡ Some e
    → (o ≡ Some e.1) × (e.0 ≡ name)
drawn_is name None e h = cc
drawn_is name (Some d) e h =
    let same : (name, d) ≡ e = cc in
    (ap (λ (x : JsImportName × List ℕ). Some x.1) same, ap (λ (x : JsImportName × List ℕ). x.0) (sym same))

import_one : (a b : JsImportName) → Import a ≡ Import b → a ≡ b
import_one a b e = cc

-- ---- what has a drawn name

module _ (s : Settings) (l : Lowered) (m : NameMap) (n : AreNames s l m) where
  asked_import : (name : JsImportName) (w : Wanted) (names : List JsImportName) → IsIn w (filter_map (import_wanted s.omit_imports s.target) names)
      → Import name ≡ w.thing → is_outside s.omit_imports name ≡ false
  asked_import name w names i e =
      let r = from_part (import_wanted s.omit_imports s.target) w names i in
      let k = wanted_only s.omit_imports s.target r.0 w r.2 in
      ap (is_outside s.omit_imports) (import_one name r.0 (e ∙ k.0)) ∙ k.1

  asked_thing : (name : JsImportName) (w : Wanted) → IsIn w n.list → Import name ≡ w.thing → is_outside s.omit_imports name ≡ false
  asked_thing name = each_wanted s l n.list n.wanted (λ (w : Wanted). Import name ≡ w.thing → is_outside s.omit_imports name ≡ false)
      (λ w i e. let r = from_flat class_names l.aux.structs w i in absurd (no_class r.0 w name r.2 e))
      (λ w i e. let r = from_map enum_wanted w n.wanted.enums i in absurd (no_enum r.0 w name r.2 e))
      (λ w i e. asked_import name w (called_once s l n.wanted.pairs) i e)
      (λ w i e. let r = from_flat function_names n.wanted.functions w i in absurd (no_function r.0 w name r.2 e))
      (λ w i e. asked_import name w (reexported_besides l.aux (names_called s l n.wanted.pairs)) i e)
      (λ w i e. let r = from_map root_wanted w n.wanted.roots i in absurd (no_root r.0 w name r.2 e))

  -- it is no name of the host
  pub named_no_host : (name : JsImportName) (drawn : List ℕ) → import_name m name ≡ Some drawn → is_outside s.omit_imports name ≡ false
  named_no_host name drawn e =
      let w = at_wanted (Import name) drawn n.list n.drawn.names (stands n.list n.drawn.names (without_items m) (Import name) drawn n.drawn.filled e) in
      asked_thing name w.0 w.1 w.2

  -- two that have one name are one
  pub named_apart : (a b : JsImportName) (drawn : List ℕ) → import_name m a ≡ Some drawn → import_name m b ≡ Some drawn → a ≡ b
  named_apart a b drawn h k = import_one a b (n.good.apart (Import a) (Import b) drawn h k)

  -- its name is that of no function
  pub named_no_function : (name : JsImportName) (e : AuxExport) (drawn : List ℕ) → import_name m name ≡ Some drawn
      → function_name m e ≡ Some drawn → ⊥
  named_no_function name e drawn h k = let same = n.good.apart (Import name) (Function (qualified e)) drawn h k in cc

  -- what is called or re-exported has a drawn name, where it is no name of the host
  wanted_named : (name : JsImportName)
      → IsIn name (names_called s l n.wanted.pairs) ⊎ IsIn name (reexported_besides l.aux (names_called s l n.wanted.pairs))
      → is_outside s.omit_imports name ≡ false → (drawn : List ℕ) × (import_name m name ≡ Some drawn)
  wanted_named name i h =
      let w = wanted_as s.target name in
      let asks = wanted_there s.omit_imports s.target name h in
      let wanted = import_wanted s.omit_imports s.target in
      let among : IsIn w n.list = elim i [
        | inl called ↦
            import_there s l n.list n.wanted w (in_part wanted name w (called_once s l n.wanted.pairs)
            (once_has name (names_called s l n.wanted.pairs) called) asks)
        | inr besides ↦
            asked.reexport_there s l n.list n.wanted w (in_part wanted name w (reexported_besides l.aux (names_called s l n.wanted.pairs)) besides asks)
      ] in
      n.good.found (Import name) (in_map (λ (x : Wanted). x.thing) w n.list among)

  -- ---- of what is called by the adapters of these pairs, which are some of the description's, and all of own imports, and of what
  -- re-exports name

  module _ (pairs : List (ImportId × ℕ)) (sub : (pair : ImportId × ℕ) → IsIn pair pairs → IsIn pair l.wit.implements)
      (has : (pair : ImportId × ℕ) → IsIn pair l.wit.implements → has_number pair.0.0 (own_imports s l.«module» l.wit l.aux) ≡ true
      → IsIn pair pairs) where
    abbrev own : List ℕ
    own = own_imports s l.«module» l.wit l.aux

    abbrev named : List JsImportName
    named = imports_named s l pairs

    abbrev listed : List (JsImportName × List ℕ)
    listed = drawn_imports s l m pairs

    called_there : (name : JsImportName) → IsIn name (names_called s l pairs) → IsIn name named
    called_there name i = in_left name (called_once s l pairs) _ (once_has name (names_called s l pairs) i)

    -- what the code of an own import's adapter calls is among it
    pub code_called : (pair : ImportId × ℕ) → IsIn pair l.wit.implements → has_number pair.0.0 own ≡ true → (name : JsImportName)
        → IsIn name (called_names l pair.1) → IsIn name named
    code_called pair at is name i =
        called_there name
        (in_flat (pair_names own l) pairs pair name (has pair at is) (where_true name (called_names l pair.1) (has_number pair.0.0 own) is i))

    -- and so is what is described of an adapter that such code calls
    pub entry_called : (id : ℕ) (w : AuxImport) → has_number id (own_callees s l) ≡ true → entry_of id l.aux.imports ≡ Some w
        → (name : JsImportName) → IsIn name (names_of (js_import w)) → IsIn name named
    entry_called id w mine is name i =
        let pair = from_flat (pair_callees own l) l.wit.implements id (number_in id (own_callees s l) mine) in
        let code = code_of (look_up nat_cmp l.wit.adapters pair.0.1) in
        let call = in_where id (filter_map callee code) (has_number pair.0.0.0 own) pair.2 in
        let step = from_part callee id code call.0 in
        let there : IsIn name (called_name l.aux.imports step.0) =
        subst (λ (x : Instruction). IsIn name (called_name l.aux.imports x)) (sym (callee_is step.0 id step.2))
        (subst (λ (o : Option AuxImport). IsIn name (names_of (option_and_then js_import o))) (sym is) i) in
        code_called pair.0 pair.1 call.1 name (in_flat (called_name l.aux.imports) code step.0 name step.1 there)

    -- and so is what a re-export names
    pub reexport_named : (r : Reexport) → IsIn r l.aux.reexports → IsIn r.1.name named
    reexport_named r i = elim (reexport_there l.aux (names_called s l pairs) r i) [
      | inl called ↦ called_there r.1.name called
      | inr besides ↦ in_right r.1.name (called_once s l pairs) _ besides
    ]

    -- it is described
    own_described : (name : JsImportName) → IsIn name (called_once s l pairs) → IsIn name (described_names l.aux)
    own_described name i =
        let pair = from_flat (pair_names own l) pairs name (once_from name (names_called s l pairs) i) in
        let step = from_flat (called_name l.aux.imports) (code_of (look_up nat_cmp l.wit.adapters pair.0.1)) name
        (in_where name (called_names l pair.0.1) (has_number pair.0.0.0 own) pair.2).0 in
        in_left name (flat_map (λ (x : ℕ × AuxImport). names_of (js_import x.1)) l.aux.imports) (map (λ r. r.1.name) l.aux.reexports)
        (step_described l.aux.imports step.0 name step.2)

    pub called_described : (name : JsImportName) → IsIn name named → IsIn name (described_names l.aux)
    called_described name i = elim (in_either name (called_once s l pairs) (reexported_besides l.aux (names_called s l pairs)) i) [
      | inl called ↦ own_described name called
      | inr besides ↦
          let r = besides_from l.aux (names_called s l pairs) name besides in
          let reexported = map (λ (r : Reexport). r.1.name) l.aux.reexports in
          in_right name (flat_map (λ (x : ℕ × AuxImport). names_of (js_import x.1)) l.aux.imports) reexported
          (subst (λ (x : JsImportName). IsIn x reexported) (sym r.2) (in_map (λ (r : Reexport). r.1.name) r.0 l.aux.reexports r.1))
    ]

    -- and has a drawn name, where it is no name of the host
    pub called_named : (name : JsImportName) → IsIn name named → is_outside s.omit_imports name ≡ false → (drawn : List ℕ) × (import_name m name ≡ Some drawn)
    called_named name i = elim (in_either name (called_once s l pairs) (reexported_besides l.aux (names_called s l pairs)) i) [
      | inl called ↦
          let moved = λ (x : ImportId × ℕ) (k : IsIn x pairs).
          moved_from n.wanted.pairs l.wit.implements (IsPermutation-sym _ _ n.wanted.by_import.same) x (sub x k) in
          wanted_named name (inl (flat_more (pair_names own l) pairs n.wanted.pairs moved name (once_from name (names_called s l pairs) called)))
      | inr besides ↦
          let r = besides_from l.aux (names_called s l pairs) name besides in
          let there = reexport_there l.aux (names_called s l n.wanted.pairs) r.0 r.1 in
          wanted_named name
          (subst (λ (x : JsImportName). IsIn x (names_called s l n.wanted.pairs) ⊎ IsIn x (reexported_besides l.aux (names_called s l n.wanted.pairs)))
          (sym r.2) there)
    ]

    -- so one without a drawn name is a name of the host
    pub unnamed_host : (name : JsImportName) → IsIn name named → import_name m name ≡ None → is_outside s.omit_imports name ≡ true
    unnamed_host name i none = by (is_outside s.omit_imports name) refl
      where
        by : (b : Bool) → is_outside s.omit_imports name ≡ b → is_outside s.omit_imports name ≡ true
        by true q = q
        by false q = let d = called_named name i q in absurd (not_both (import_name m name) d.0 none d.1)

    -- so it is listed with that name
    pub named_listed : (name : JsImportName) (drawn : List ℕ) → IsIn name named → import_name m name ≡ Some drawn → IsIn (name, drawn) listed
    named_listed name drawn i e = in_part (drawn_import m) name (name, drawn) named i (ap (option_map (λ (d : List ℕ). (name, d))) e)

    -- as is what a re-export names, where it is no name of the host
    pub reexport_listed : (r : Reexport) → IsIn r l.aux.reexports → is_outside s.omit_imports r.1.name ≡ false
        → (drawn : List ℕ) × (import_name m r.1.name ≡ Some drawn) × IsIn (r.1.name, drawn) listed
    reexport_listed r i h =
        let there = reexport_named r i in
        let d = called_named r.1.name there h in
        (d.0, d.1, named_listed r.1.name d.0 there d.1)

    -- what is listed is called or re-exported, and has that name
    pub listed_named : (import : JsImportName × List ℕ) → IsIn import listed → IsIn import.0 named × (import_name m import.0 ≡ Some import.1)
    listed_named import i =
        let r = from_part (drawn_import m) import named i in
        let k = drawn_is r.0 (import_name m r.0) import r.2 in
        (subst (λ (x : JsImportName). IsIn x named) (sym k.1) r.1, ap (import_name m) k.1 ∙ k.0)

    listed_of : (drawn : List ℕ) → IsIn drawn (names_drawn listed) → (name : JsImportName) × (import_name m name ≡ Some drawn)
    listed_of drawn i =
        let r = from_map (λ (x : JsImportName × List ℕ). x.1) drawn listed i in
        (r.0.0, (listed_named r.0 r.1).1 ∙ ap Some (sym r.2))

    -- the names are distinct identifiers
    pub listed_distinct : AreDistinct (names_drawn listed)
    listed_distinct =
        part_distinct (drawn_import m) (λ (x : JsImportName × List ℕ). x.1) named (both_once l.aux (names_called s l pairs)) (λ a b u v h k look.
        named_apart a b u.1 (drawn_is a (import_name m a) u h).0 ((drawn_is b (import_name m b) v k).0 ∙ ap Some (sym look)))

    pub listed_idents : list_all is_ident (names_drawn listed) ≡ true
    listed_idents =
        list_all-from_AllPass is_ident (names_drawn listed) (all_are (λ (x : List ℕ). is_ident x ≡ true) (names_drawn listed)
        (λ drawn i. let r = listed_of drawn i in n.good.idents (Import r.0) drawn r.1))

    -- none of them is reserved
    pub listed_free : (drawn : List ℕ) → IsIn drawn (names_drawn listed) → set.contains (reserved_names s l) drawn ≡ false
    listed_free drawn i = let r = listed_of drawn i in n.good.free (Import r.0) drawn r.1

    -- so none is of the outside, or one that the glue file binds in each case
    pub listed_no_host : AreApart (names_drawn listed) (host_names s l.aux)
    listed_no_host = free_no_host s l (names_drawn listed) listed_free

    pub listed_no_fixed : AreApart (names_drawn listed) (fixed_names s l.«module»)
    listed_no_fixed = free_no_fixed s l (names_drawn listed) listed_free

    -- nor is one that of a list of a string enum
    pub listed_no_values : AreApart (names_drawn listed) (map values_name l.aux.string_enums)
    listed_no_values = free_no_values s l (names_drawn listed) listed_free

    -- and none is that of a function of an export
    pub listed_no_function : (es : List AuxExport) → list_all (is_named m) es ≡ true → AreApart (names_drawn listed) (map (declared_name m) es)
    listed_no_function es have =
        apart_by (names_drawn listed) (map (declared_name m) es) (λ drawn i k.
        let r = listed_of drawn i in
        let e = given_of m es have drawn k in
        named_no_function r.0 e.0 drawn r.1 e.2)
