-- What re-exports name, beside a list of what is called: each stands there, or besides it, once.
use Rattle.std.proofs.Common.{◌≡◌, ◌||◌, Bool, true, false, true≢false, not, List, [], ◌∷◌, ◌++◌, refl, sym, ap, ◌∙◌, ◌⊎◌, inl, inr}
use Rattle.std.specs.Cmp.{tied_itself}
use Rattle.std.specs.Ordering.{is_eq}
use Rattle.values.specs.Lists.{IsIn, AreDistinct}
use Rattle.values.proofs.Members.{distinct_both}
use Rattle.glue_shared.specs.declared.aux.WasmBindgenAux.{WasmBindgenAux}
use Rattle.glue_shared.specs.declared.import.JsImportName.{JsImportName}
use Rattle.glue_exports.proofs.Joined.{apart_each, filter_distinct, from_filter}
use Rattle.glue_published.specs.Reexports.{Reexport, is_same}
use Rattle.glue_names.specs.Once.{each_once, has_name}
use Rattle.glue_names.proofs.EachOnce.{name_in, new_has, once_distinct, once_from}
use Rattle.glue_published.proofs.ImportOrder.{import_order_total}
use Rattle.glue_naming.specs.Arranged.{in_order}
use Rattle.glue_naming.specs.Reexported.{export_order, names_reexported, reexported_besides}
use Rattle.glue_naming.proofs.InOrder.{in_order_from, in_order_has}
use Rattle.glue_names.proofs.MappedLists.{from_map, in_map}

-- ---- lists of names

or_true : (b : Bool) → (b || true) ≡ true
or_true true = refl
or_true false = refl

name_there : (name : JsImportName) (names : List JsImportName) → IsIn name names → has_name name names ≡ true
name_there name [] i = absurd i
name_there name (x ∷ names) (inl same) =
    ap (λ b. b || has_name name names) (ap (is_same name) (sym same) ∙ ap is_eq (tied_itself import_order_total name))
name_there name (x ∷ names) (inr i) = ap (λ b. is_same name x || b) (name_there name names i) ∙ or_true (is_same name x)

-- ---- what is named besides what is called

module _ (aux : WasmBindgenAux) (called : List JsImportName) where
  abbrev besides : List JsImportName
  besides = reexported_besides aux called

  abbrev is_other : JsImportName → Bool
  is_other name = not (has_name name called)

  besides_away : (name : JsImportName) → IsIn name besides → IsIn name called → ⊥
  besides_away name i k =
      true≢false (sym (from_filter is_other name (each_once (names_reexported aux)) i).1 ∙ ap not (name_there name called k))

  -- a re-export names it
  pub besides_from : (name : JsImportName) → IsIn name besides → (r : Reexport) × IsIn r aux.reexports × (name ≡ r.1.name)
  besides_from name i =
      let once = (from_filter is_other name (each_once (names_reexported aux)) i).0 in
      let r = from_map (λ (r : Reexport). r.1.name) name (in_order export_order aux.reexports) (once_from name (names_reexported aux) once) in
      (r.0, in_order_from export_order r.0 aux.reexports r.1, r.2)

  -- what a re-export names is called, or stands besides
  pub reexport_there : (r : Reexport) → IsIn r aux.reexports → IsIn r.1.name called ⊎ IsIn r.1.name besides
  reexport_there r i = by (has_name r.1.name called) refl
    where
      by : (b : Bool) → has_name r.1.name called ≡ b → IsIn r.1.name called ⊎ IsIn r.1.name besides
      by true q = inl (name_in r.1.name called q)
      by false q =
          let there = in_map (λ (x : Reexport). x.1.name) r (in_order export_order aux.reexports) (in_order_has export_order r aux.reexports i) in
          inr (new_has r.1.name called (names_reexported aux) there q)

  -- each of both stands once
  pub both_once : AreDistinct (each_once called ++ besides)
  both_once =
      distinct_both (each_once called) besides (once_distinct called)
      (filter_distinct is_other (each_once (names_reexported aux)) (once_distinct (names_reexported aux)))
      (apart_each (each_once called) besides (λ name i k. besides_away name k (once_from name called i)))
