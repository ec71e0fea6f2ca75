-- Where a namespace of a description's tree is printed, the description has a root.
use Rattle.std.proofs.Common.{◌≡◌, ℕ, Bool, true, false, true≢false, not, cond, List, [], ◌∷◌, ◌++◌, map, flat_map, refl, sym, ap, ◌∙◌, inl}
use Rattle.std.proofs.lemmas.Bool.{and_from}
use Rattle.std.proofs.lemmas.Slice.Eq.{bytes_eq-Decides}
use Rattle.std.specs.List.{list_any}
use Rattle.std.specs.Str.{bytes_eq}
use Rattle.values.specs.Lists.{IsIn}
use Rattle.values.proofs.Members.{in_left, in_right}
use Rattle.glue_shared.specs.Paths.{Path}
use Rattle.glue_shared.specs.declared.aux.AuxExport.{AuxExport}
use Rattle.glue_shared.specs.declared.aux.WasmBindgenAux.{WasmBindgenAux}
use Rattle.glue_shared.specs.declared.name_map.NameMap.{NameMap}
use Rattle.glue_shared.specs.declared.settings.Settings.{Settings}
use Rattle.glue_exports.specs.Tree.{Entry}
use Rattle.glue_exports.proofs.Joined.{in_map, in_flat, any_in, none_any}
use Rattle.glue_exports.proofs.Linkage.{IsNamespace}
use Rattle.glue_exports.proofs.Order.{IsBelow}
use Rattle.glue_published.specs.declared.things.PublishedThing.{PublishedThing}
use Rattle.glue_published.specs.Reexports.{is_below, has_members}
use Rattle.glue_published.specs.Roots.{is_root}
use Rattle.glue_published.specs.Things.{thing_at, stands_alone, export_things, class_thing, enum_thing, reexport_thing, reset_things, published_things}
use Rattle.glue_public.specs.Described.{FunctionItems, Reexport, reexport_definition, described, entry_of, ArePut}
use Rattle.glue_public.proofs.Entries.{IsOf, OfFunction, OfEnum, OfReexport, function_in, entry_is, entry_in}

goes_below : (segment : List ℕ) (path : Path) → IsBelow segment path → is_below segment path ≡ true
goes_below segment [] h = absurd h
goes_below segment (a ∷ []) h = absurd h
goes_below segment (a ∷ next ∷ path) h = (bytes_eq-Decides a segment).1 h

lone_thing : (e : AuxExport) (b : Bool) → b ≡ true
    → IsIn (thing_at e.namespace e.name false false) (cond b (thing_at e.namespace e.name false false ∷ []) [])
lone_thing e true is = inl refl
lone_thing e false is = absurd (true≢false (sym is))

module _ (settings : Settings) (aux : WasmBindgenAux) (given : NameMap) (functions : List FunctionItems) where
  abbrev function_things : List PublishedThing
  function_things = flat_map export_things aux.exports

  abbrev class_things : List PublishedThing
  class_things = map class_thing aux.structs

  abbrev enum_things : List PublishedThing
  enum_things = map enum_thing aux.enums

  abbrev reexport_things : List PublishedThing
  reexport_things = map reexport_thing aux.reexports

  -- behind the functions, behind the classes, and behind the enums
  abbrev third : List PublishedThing
  third = reexport_things ++ reset_things settings aux

  abbrev second : List PublishedThing
  second = enum_things ++ third

  abbrev first : List PublishedThing
  first = class_things ++ second

  -- what stands in the tree is published
  entry_published : (x : Entry) → IsOf aux given functions x
      → (t : PublishedThing) × IsIn t (published_things settings aux) × (x.0 ≡ t.path)
  entry_published x (OfFunction e f i is) =
      let own = function_in aux given functions e f i in
      let t = thing_at e.namespace e.name false false in
      (t, in_left t function_things first (in_flat export_things e t aux.exports own.0 (lone_thing e (stands_alone e.kind) own.1)), ap (λ (y : Entry). y.0) is)
  entry_published x (OfEnum e i is) =
      let t = enum_thing e in
      (t, in_right t function_things first (in_right t class_things second (in_left t enum_things third (in_map enum_thing e aux.enums i))), ap (λ (y : Entry). y.0) is)
  entry_published x (OfReexport r i is) =
      let t = reexport_thing r in
      let behind = in_left t reexport_things (reset_things settings aux) (in_map reexport_thing r aux.reexports i) in
      (t, in_right t function_things first (in_right t class_things second (in_right t enum_things third behind)), ap (λ (y : Entry). y.0) is)

  module _ (tree : List Entry) (put : ArePut (described aux given functions) [] tree) (segment : List ℕ) (n : IsNamespace tree segment) where
    members : has_members (published_things settings aux) segment ≡ true
    members =
        let p = entry_published n.entry (entry_is aux given functions tree put n.entry n.there) in
        any_in (λ (t : PublishedThing). is_below segment t.path) p.0 (published_things settings aux) p.1
        (ap (is_below segment) (sym p.2) ∙ goes_below segment n.entry.0 n.below)

    unnamed : list_any (λ (r : Reexport). bytes_eq r.0 segment) aux.reexports ≡ false
    unnamed = none_any (λ (r : Reexport). bytes_eq r.0 segment) aux.reexports (λ r i same.
        let x = entry_of (reexport_definition given.imports r) in
        let there = entry_in aux given functions tree put x (OfReexport r i refl) in
        true≢false (n.alone x there (ap (λ (s : List ℕ). s ∷ []) ((bytes_eq-Decides r.0 segment).0 same))))

    -- where a namespace is printed, something is published below, and no re-export has the name
    pub namespace_root : is_root settings aux segment ≡ true
    namespace_root = and_from _ _ members (ap not unnamed)
