-- A set of names with one name more.
use Rattle.std.proofs.Common.{◌≡◌, ℕ, List, [], ◌∷◌, ◌++◌, Bool, true, false, ◌||◌, cond, refl, ap, sym, ◌∙◌}
use Rattle.std.specs.Prelude.{is_some, Option, Some, None}
use Rattle.std.specs.List.{list_any}
use Rattle.std.specs.Str.{bytes_eq}
use Rattle.std.specs.Ordering.{nat_cmp, eq_by_cmp}
use Rattle.std.specs.BTreeMap.{insert_entry}
use Rattle.std.specs.Cmp.Lexicographic.{slice_cmp, nat_list_cmp_total, nat_list_eq_equiv}
use Rattle.std.proofs.lemmas.List.Folds.{list_any-append}
use Rattle.std.proofs.lemmas.Map.Text.{is_eq-slice_cmp}
use Rattle.values.specs.Map.{look_up}
use Rattle.values.proofs.Maps.{look_up_inserted}
use Rattle.name_set.specs.Held.{AreHeld}

-- an entry is found, or one was before
found : {X : Type 0} (b : Bool) (x : X) (o : Option X) → is_some (cond b (Some x) o) ≡ (is_some o || (b || false))
found true x None = refl
found true x (Some y) = refl
found false x None = refl
found false x (Some y) = refl

pub held_more : {X : Type 0} (entries : List (List ℕ × X)) (x : X) (names : List (List ℕ)) (name : List ℕ) → AreHeld entries names
    → AreHeld (insert_entry (slice_cmp nat_cmp) entries name x) (names ++ name ∷ [])
held_more entries x names name h other =
    let same : eq_by_cmp (slice_cmp nat_cmp) other name ≡ bytes_eq name other = is_eq-slice_cmp other name ∙ nat_list_eq_equiv.symm other name in
    ap is_some (look_up_inserted (slice_cmp nat_cmp) nat_list_cmp_total entries name x other)
    ∙ found (eq_by_cmp (slice_cmp nat_cmp) other name) x (look_up (slice_cmp nat_cmp) entries other)
    ∙ ap (λ b. b || (eq_by_cmp (slice_cmp nat_cmp) other name || false)) (h other)
    ∙ ap (λ b. list_any (λ n. bytes_eq n other) names || (b || false)) same
    ∙ sym (list_any-append (λ n. bytes_eq n other) names (name ∷ []))
