-- The pairs of what a description asks for are those of the description.
use Rattle.std.proofs.Common.{◌≡◌, ℕ, Bool, true, false, ◌&&◌, cond, List, [], ◌∷◌, ◌++◌, map, flat_map, refl, sym, ap, ◌∙◌}
use Rattle.std.proofs.lemmas.List.{map-append, append-nil}
use Rattle.std.proofs.lemmas.Grind.{flat_map-append}
use Rattle.std.specs.List.{AllZip}
use Rattle.glue_words.specs.declared.item.Thing.{Thing}
use Rattle.glue_words.specs.declared.item.Thing.TheVariants as thing
use Rattle.glue_shared.specs.Paths.{Path}
use Rattle.glue_shared.specs.declared.aux.AuxEnum.{AuxEnum}
use Rattle.glue_shared.specs.declared.aux.AuxExport.{AuxExport}
use Rattle.glue_shared.specs.declared.aux.AuxExportKind.{AuxExportKind}
use Rattle.glue_shared.specs.declared.aux.AuxExportKind.TheVariants as kinds
use Rattle.glue_shared.specs.declared.aux.WasmBindgenAux.{WasmBindgenAux}
use Rattle.glue_shared.specs.declared.import.JsImportName.{JsImportName}
use Rattle.glue_shared.specs.declared.name_map.NameMap.{NameMap}
use Rattle.glue_shared.specs.declared.settings.Settings.{Settings}
use Rattle.glue_targets.specs.PublicTree as public
use Rattle.glue_targets.specs.PublicTree.{PublicPair, unless_hidden, function_pair, class_pair, enum_pair, reset_pair}
use Rattle.glue_exports.specs.Printed.{is_at_top}
use Rattle.glue_exports.specs.Sound.{entry_pairs, own_pairs}
use Rattle.glue_published.specs.Things.{stands_alone}
use Rattle.glue_public.specs.declared.definitions.PublicDefinition.{PublicDefinition}
use Rattle.glue_public.specs.Described.{FunctionItems, Reexport, lone_functions, zipped, enum_definition, reexport_definition, described, entry_of}
use Rattle.glue_public.specs.Public.{IsDeclared, IsCovered}

-- the pairs of definitions
abbrev pub pairs_of : List PublicDefinition → List PublicPair
pairs_of ds = own_pairs (map entry_of ds)

pairs_both : (some more : List PublicDefinition) → pairs_of (some ++ more) ≡ pairs_of some ++ pairs_of more
pairs_both some more = ap own_pairs (map-append entry_of some more) ∙ flat_map-append entry_pairs (map entry_of some) (map entry_of more)

-- ---- functions

by_kind : (kind : AuxExportKind) (e : AuxExport) (exports : List AuxExport) (functions : List FunctionItems)
    → ((others : List FunctionItems) → AllZip IsDeclared (lone_functions exports) others
    → pairs_of (zipped (lone_functions exports) others) ≡ flat_map (λ (e : AuxExport). function_pair e.kind e) exports)
    → AllZip IsDeclared (cond (stands_alone kind) (e ∷ lone_functions exports) (lone_functions exports)) functions
    → pairs_of (zipped (cond (stands_alone kind) (e ∷ lone_functions exports) (lone_functions exports)) functions)
    ≡ function_pair kind e ++ flat_map (λ (e : AuxExport). function_pair e.kind e) exports
by_kind kinds.Function e exports [] later h = absurd h
by_kind kinds.Function e exports (f ∷ functions) later h =
    ap (λ (ps : List PublicPair). (e.namespace ++ e.name ∷ [], thing.Adapter e.adapter) ∷ ps) (later functions h.1)
by_kind kinds.FunctionThis e exports [] later h = absurd h
by_kind kinds.FunctionThis e exports (f ∷ functions) later h =
    ap (λ (ps : List PublicPair). (e.namespace ++ e.name ∷ [], thing.Adapter e.adapter) ∷ ps) (later functions h.1)
by_kind kinds.Constructor e exports functions later h = later functions h
by_kind (kinds.Method kind) e exports functions later h = later functions h

functions_are : (exports : List AuxExport) (functions : List FunctionItems) → AllZip IsDeclared (lone_functions exports) functions
    → pairs_of (zipped (lone_functions exports) functions) ≡ flat_map (λ (e : AuxExport). function_pair e.kind e) exports
functions_are [] [] h = refl
functions_are [] (f ∷ functions) h = absurd h
functions_are (e ∷ exports) functions h = by_kind e.kind e exports functions (functions_are exports) h

-- ---- enums

-- a path is hidden where it is private and one name
hidden_or_not : (private : Bool) (namespace : Path) (name : List ℕ) (t : Thing)
    → cond (private && is_at_top (namespace ++ name ∷ [])) [] ((namespace ++ name ∷ [], t) ∷ []) ≡ unless_hidden private namespace name t
hidden_or_not false namespace name t = refl
hidden_or_not true [] name t = refl
hidden_or_not true (segment ∷ []) name t = refl
hidden_or_not true (segment ∷ next ∷ namespace) name t = refl

enums_are : (given : List (List ℕ × List ℕ)) (es : List AuxEnum) → pairs_of (map (enum_definition given) es) ≡ flat_map enum_pair es
enums_are given [] = refl
enums_are given (e ∷ es) =
    ap (λ (ps : List PublicPair). entry_pairs (entry_of (enum_definition given e)) ++ ps) (enums_are given es)
    ∙ ap (λ (ps : List PublicPair). ps ++ flat_map enum_pair es)
    (hidden_or_not e.private e.namespace e.name (enum_definition given e).definition.thing)

-- ---- re-exports

reexports_are : (given : List (JsImportName × List ℕ)) (rs : List Reexport)
    → pairs_of (map (reexport_definition given) rs) ≡ map (λ (r : Reexport). (r.0 ∷ [], thing.Imported r.0)) rs
reexports_are given [] = refl
reexports_are given (r ∷ rs) = ap (λ (ps : List PublicPair). (r.0 ∷ [], thing.Imported r.0) ∷ ps) (reexports_are given rs)

-- ---- all of them

module _ (aux : WasmBindgenAux) (given : NameMap) (functions : List FunctionItems) where
  abbrev enums : List PublicDefinition
  enums = map (enum_definition given.enums) aux.enums

  abbrev reexports : List PublicDefinition
  reexports = map (reexport_definition given.imports) aux.reexports

  abbrev lone : List PublicDefinition
  lone = zipped (lone_functions aux.exports) functions

  -- the pairs of what is asked for are those of the description
  pub described_pairs : (settings : Settings) → IsCovered settings aux functions
      → pairs_of (described aux given functions) ≡ public.own_pairs settings aux
  described_pairs settings covered =
      let enums_and : List PublicPair → List PublicPair = λ ps. flat_map enum_pair aux.enums ++ ps in
      pairs_both lone (enums ++ reexports)
      ∙ ap (λ ps. ps ++ pairs_of (enums ++ reexports)) (functions_are aux.exports functions covered.declared)
      ∙ ap (λ ps. flat_map (λ (e : AuxExport). function_pair e.kind e) aux.exports ++ ps) (
      pairs_both enums reexports
      ∙ ap (λ ps. ps ++ pairs_of reexports) (enums_are given.enums aux.enums)
      ∙ ap enums_and (reexports_are given.imports aux.reexports ∙ sym (append-nil _))
      ∙ ap (λ last. enums_and (map (λ (r : Reexport). (r.0 ∷ [], thing.Imported r.0)) aux.reexports ++ reset_pair last)) (sym covered.unreset)
      ∙ ap (λ cs. flat_map class_pair cs ++ enums_and (map (λ (r : Reexport). (r.0 ∷ [], thing.Imported r.0)) aux.reexports ++ reset_pair settings.reset_state)) (sym covered.classless))
