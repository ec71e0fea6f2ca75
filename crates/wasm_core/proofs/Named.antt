-- Naming one function after another gives each the last name that is given to it.
use Rattle.std.proofs.Common.{◌≡◌, ℕ, ◌+◌, ◌<◌, List, [], ◌∷◌, length, map, fold, get_or, slice_get, Option, Some, None, refl, sym, ap, ◌∙◌, arith, inl, inr, zero-add, ne_eqb, eq-eqb}
use Rattle.std.specs.List.{enumerate_from}
use Rattle.std.proofs.lemmas.Bool.{cases_eq}
use Rattle.std.proofs.lemmas.List.{length-set, length-map, get_or-map, get_or-set_same, get_or-set_other, same_lists}
use Rattle.std.proofs.lemmas.Option.{slice_get-get_or}
use Rattle.std.proofs.lemmas.List.FromFn.{length-enumerate_from, get_or-enumerate_from}
use Rattle.wasm_types.specs.declared.ids.FuncId.{FuncId}
use Rattle.wasm_core.specs.declared.types.Func.{Func}
use Rattle.wasm_core.specs.Parsing.{later, last_name, with_name, with_names, renamed, name_given}

-- a later name replaces an earlier one
again : (x y : Option (List ℕ)) (f : Option Func) → with_name y (with_name x f) ≡ with_name (later x y) f
again (Some a) (Some b) (Some f) = refl
again (Some a) (Some b) None = refl
again None (Some b) f = refl
again (Some a) None f = refl
again None None f = refl

-- without names each function is as it was
bare : (k : ℕ) (funcs : List (Option Func)) → map (λ p. with_name (last_name [] p.0) p.1) (enumerate_from k funcs) ≡ funcs
unfolding last_name
bare k [] = refl
bare k (f ∷ funcs) = ap (λ fs. f ∷ fs) (bare (k + 1) funcs)

same_length : (names : List (FuncId × List ℕ)) (funcs : List (Option Func)) → length (with_names names funcs) ≡ length funcs
unfolding with_names
same_length names funcs = length-map (enumerate_from 0 funcs) (λ p. with_name (last_name names p.0) p.1) ∙ length-enumerate_from 0 funcs

-- the function at a place, with the last name
at_place : (names : List (FuncId × List ℕ)) (funcs : List (Option Func)) (i : ℕ) (d : Option Func) → i < length funcs → get_or (with_names names funcs) i d ≡ with_name (last_name names i) (get_or funcs i d)
unfolding with_names
at_place names funcs i d lt =
    let f : ℕ × Option Func → Option Func = λ p. with_name (last_name names p.0) p.1 in
    let long : i < length (enumerate_from 0 funcs) = rw length-enumerate_from lt in
    get_or-map f (enumerate_from 0 funcs) i (0, d) d long ∙ ap f (get_or-enumerate_from 0 funcs i (0, d) lt) ∙ ap (λ k. with_name (last_name names k) (get_or funcs i d)) (zero-add i)

one_more : (names : List (FuncId × List ℕ)) (n : FuncId × List ℕ) (funcs : List (Option Func)) (k : ℕ) (d : Option Func) → k < length funcs → with_name (last_name names k) (get_or (name_given funcs n) k d) ≡ with_name (last_name (n ∷ names) k) (get_or funcs k d)
unfolding last_name
one_more names n funcs k d lt =
    let entry : Option Func = renamed n.1 (slice_get funcs n.0.0) in
    elim (cases_eq n.0.0 k) [
      | inl same ↦
          let here : n.0.0 < length funcs = omega arith in
          let found : slice_get funcs n.0.0 ≡ Some (get_or funcs k d) = slice_get-get_or funcs n.0.0 d here ∙ ap (λ i. Some (get_or funcs i d)) same in
          let named : get_or (name_given funcs n) k d ≡ with_name (Some n.1) (get_or funcs k d) = ap (λ i. get_or (name_given funcs n) i d) (sym same) ∙ get_or-set_same funcs n.0.0 entry d here ∙ ap (renamed n.1) found in
          rw (eq-eqb n.0.0 k same) (ap (with_name (last_name names k)) named ∙ again (Some n.1) (last_name names k) (get_or funcs k d))
      | inr other ↦
          let kept : get_or (name_given funcs n) k d ≡ get_or funcs k d = get_or-set_other funcs n.0.0 k entry d (λ e. other (sym e)) in
          rw (ne_eqb n.0.0 k other) (ap (with_name (last_name names k)) kept ∙ again None (last_name names k) (get_or funcs k d))
    ]

pub names_given : (names : List (FuncId × List ℕ)) (funcs : List (Option Func)) → fold name_given funcs names ≡ with_names names funcs
unfolding with_names
names_given [] funcs = sym (bare 0 funcs)
names_given (n ∷ names) funcs =
    let given = name_given funcs n in
    let long : length given ≡ length funcs = length-set funcs n.0.0 (renamed n.1 (slice_get funcs n.0.0)) in
    names_given names given ∙ same_lists (with_names names given) (with_names (n ∷ names) funcs)
    (same_length names given ∙ long ∙ sym (same_length (n ∷ names) funcs))
    (λ k d lt.
    let here : k < length given = rw same_length at lt in
    let there : k < length funcs = rw long at here in
    at_place names given k d here ∙ one_more names n funcs k d there ∙ sym (at_place (n ∷ names) funcs k d there))
