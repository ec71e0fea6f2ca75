-- The first export of an adapter, by an index.
use Rattle.std.proofs.Common.{◌≡◌, ℕ, suc, ◌+◌, ◌<◌, ◌==◌, List, [], ◌∷◌, length, drop, get_or, Bool, true, false, cond, Option, Some, refl, sym, ap, ◌∙◌, arith, add-one, drop-cons}
use Rattle.std.specs.Prelude.{option_map, find}
use Rattle.std.specs.Ordering.{nat_cmp, eq_by_cmp}
use Rattle.std.specs.Cmp.{nat_cmp_total}
use Rattle.std.specs.BTreeMap.{insert_entry}
use Rattle.std.proofs.lemmas.Bool.Decides.{nat_tests}
use Rattle.std.proofs.lemmas.List.{drop_all}
use Rattle.values.specs.Map.{look_up}
use Rattle.values.proofs.Maps.{look_up_inserted}
use Rattle.wasm_core.specs.ids.ExportId.{ExportId}
use Rattle.glue_steps.specs.Callbacks.{GivesExport}
use Rattle.glue_steps.specs.Resolving.{callback_of}

same_number : (q k : ℕ) → eq_by_cmp nat_cmp q k ≡ (k == q)
same_number q k = grind (arith, nat_tests)

-- an index that has nothing gives no export
pub gives_none : (entries : List (ExportId × ℕ)) → GivesExport [] (drop (length entries) entries)
gives_none entries id = ap (λ (es : List (ExportId × ℕ)). callback_of es id) (sym (drop_all (length entries) entries (omega arith)))

named : {X A : Type 0} (f : X → A) (b : Bool) (x : X) (rest : Option X) → option_map f (cond b (Some x) rest) ≡ cond b (Some (f x)) (option_map f rest)
named f true x rest = refl
named f false x rest = refl

-- one entry more, before the others
pub gives_more : (exports : List (ℕ × ExportId)) (entries : List (ExportId × ℕ)) (place : ℕ) (entry : ExportId × ℕ) → place < length entries → entry ≡ get_or entries place entry
    → GivesExport exports (drop (place + 1) entries) → GivesExport (insert_entry nat_cmp exports entry.1 entry.0) (drop place entries)
gives_more exports entries place entry within here gives id =
    let cut : drop place entries ≡ entry ∷ drop (place + 1) entries =
    drop-cons entries place entry within ∙ ap (λ x. x ∷ drop (suc place) entries) (sym here) ∙ ap (λ k. entry ∷ drop k entries) (sym (add-one place)) in
    let export = λ (e : ExportId × ℕ). e.0 in
    let rest = find (λ (e : ExportId × ℕ). e.1 == id) (drop (place + 1) entries) in
    look_up_inserted nat_cmp nat_cmp_total exports entry.1 entry.0 id
    ∙ ap (λ b. cond b (Some entry.0) (look_up nat_cmp exports id)) (same_number id entry.1)
    ∙ ap (cond (entry.1 == id) (Some entry.0)) (gives id)
    ∙ sym (named export (entry.1 == id) entry rest)
    ∙ ap (λ (es : List (ExportId × ℕ)). callback_of es id) (sym cut)
