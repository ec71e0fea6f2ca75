-- The functions of closures' adapters have names: those of exports that stand.
use Rattle.std.proofs.Common.{◌≡◌, ℕ, ◌==◌, List, [], ◌∷◌, map, Bool, true, false, Option, Some, None, true≢false, refl, sym, ap, ◌∙◌, inl, inr}
use Rattle.std.specs.Prelude.{◌||◌, cond, is_some, option_and_then, option_map}
use Rattle.std.specs.List.{find}
use Rattle.values.specs.Lists.{IsIn}
use Rattle.wasm_core.specs.ids.ExportId.{ExportId}
use Rattle.wasm_core.specs.entries.Export.{Export}
use Rattle.glue_shared.specs.declared.description.Lowered.{Lowered}
use Rattle.glue_shared.specs.declared.settings.Settings.{Settings}
use Rattle.glue_shared.specs.Names.{has_number}
use Rattle.glue_steps.specs.Resolving.{callback_name, entry_at, name_at_place}
use Rattle.glue_adapters.specs.Pairs.{called_back}
use Rattle.glue_adapters.specs.Stack.{item_type}
use Rattle.glue_check.specs.Verdict.{verdict}
use Rattle.glue_check.proofs.Passed.{callbacks_fit}

-- the first entry of an adapter that stands in one
first_entry : (id : ℕ) (ps : List (ExportId × ℕ)) → has_number id (map (λ (p : ExportId × ℕ). p.1) ps) ≡ true
    → (p : ExportId × ℕ) × IsIn p ps × (find (λ (q : ExportId × ℕ). q.1 == id) ps ≡ Some p)
first_entry id [] h = absurd (true≢false (sym h))
first_entry id (p ∷ ps) h = by (p.1 == id) refl h (first_entry id ps)
  where
    by : (b : Bool) → (p.1 == id) ≡ b → (b || has_number id (map (λ (q : ExportId × ℕ). q.1) ps)) ≡ true
        → (has_number id (map (λ (q : ExportId × ℕ). q.1) ps) ≡ true → (x : ExportId × ℕ) × IsIn x ps × (find (λ (q : ExportId × ℕ). q.1 == id) ps ≡ Some x))
        → (x : ExportId × ℕ) × IsIn x (p ∷ ps) × (cond b (Some p) (find (λ (q : ExportId × ℕ). q.1 == id) ps) ≡ Some x)
    by true q h later = (p, inl refl, refl)
    by false q h later = let r = later h in (r.0, inr r.1, r.2)

-- an export of a function stands
exported : (l : Lowered) (o : Option Export) → is_some (option_and_then (λ (e : Export). item_type l.«module» e.item) o) ≡ true → (e : Export) × (o ≡ Some e)
exported l None h = absurd (true≢false (sym h))
exported l (Some e) h = (e, refl)

-- the function of an adapter that closures call has a name, where the description has no fault
pub callback_named : (s : Settings) (l : Lowered) → verdict s l ≡ None → (id : ℕ) → has_number id (called_back l) ≡ true
    → (name : List ℕ) × (callback_name l id ≡ Some name)
callback_named s l passed id h =
    let first = first_entry id l.wit.exports h in
    let fit = callbacks_fit s l passed first.0 first.1 in
    let e = exported l (entry_at l.«module».exports (first.0).0.0) fit.typed in (
      (e.0).name,
      ap (λ (o : Option (ExportId × ℕ)). option_and_then (name_at_place l.«module») (option_map (λ (p : ExportId × ℕ). p.0) o)) first.2
          ∙ ap (option_map (λ (x : Export). x.name)) e.1,
    )
