-- One function after the other is named.
use Rattle.std.proofs.Common.{◌≡◌, ◌<◌, ℕ, zero, suc, ◌+◌, List, [], ◌∷◌, ◌++◌, length, take, drop, map, slice_index_or, slice_set, Option, Some, None, refl, sym, ap, ◌∙◌, subst, arith}
use Rattle.std.specs.Prelude.{slice_get, Result, Ok, Err, IfOk}
use Rattle.std.proofs.Math.Seq.{map-set_same}
use Rattle.std.proofs.lemmas.Option.{slice_get-get_or}
use Rattle.wasm_core.specs.Contents.{Contents}
use Rattle.wasm_core.specs.Edits.{func_named, with_func_name}
use Rattle.wasm_core.specs.declared.types.Func.{Func}
use Rattle.func_names.specs.Numbered.{path_of, times, numbered, named_by, step, renamed, without_name, without_names, IsStep}

one_more : (given : List (List ℕ)) (funcs : List (Option Func)) (place : ℕ) → place < length funcs
    → let s = step given (slice_index_or funcs place None) in
    take (suc place) (slice_set funcs place s.0) ++ renamed s.1 (drop (suc place) (slice_set funcs place s.0)) ≡ take place funcs ++ renamed given (drop place funcs)
one_more given [] place less = absurd (omega (arith, less))
one_more given (func ∷ funcs) zero less = refl
one_more given (func ∷ funcs) (suc place) less = ap (λ (rest : List (Option Func)). func ∷ rest) (one_more given funcs place (omega (arith, less)))

-- the functions from the next place on are named as those from this one on
pub goes_on : (given : List (List ℕ)) (funcs : List (Option Func)) (place : ℕ) → place < length funcs
    → let s = step given (slice_index_or funcs place None) in
    take (place + 1) (slice_set funcs place s.0) ++ renamed s.1 (drop (place + 1) (slice_set funcs place s.0)) ≡ take place funcs ++ renamed given (drop place funcs)
goes_on given funcs place less =
    let s = step given (slice_index_or funcs place None) in
    let e : suc place ≡ place + 1 = omega arith in
    subst (λ (n : ℕ). take n (slice_set funcs place s.0) ++ renamed s.1 (drop n (slice_set funcs place s.0)) ≡ take place funcs ++ renamed given (drop place funcs)) e
    (one_more given funcs place less)

same_else : (name : List ℕ) (func : Option Func) → without_name (func_named name (Some func)) ≡ without_name func
same_else name None = refl
same_else name (Some func) = refl

-- a function is given the name that its own shows
module _ (m n : Contents) (place : ℕ) (name : List ℕ) (less : place < length m.funcs) (is : n ≡ with_func_name place name m) where
  abbrev func : Option Func
  func = slice_index_or m.funcs place None

  there : slice_get m.funcs place ≡ Some func
  there = slice_get-get_or m.funcs place None less

  pub stepped : (given : List (List ℕ)) (path : List ℕ) → path_of func ≡ Some path → name ≡ numbered path (times path given)
      → {E : Type 0} (r : Result (List (List ℕ)) E) → IfOk r (λ more. more ≡ given ++ path ∷ []) → IfOk r (λ more. IsStep place given more m n)
  unfolding with_func_name
  stepped given path shows named (Err e) added = tt
  stepped given path shows named (Ok more) added = record {
    named = is ∙ ap (λ (o : Option (Option Func)). record m { funcs = slice_set m.funcs place (func_named name o) }) there
        ∙ ap (λ (name : List ℕ). record m { funcs = slice_set m.funcs place (func_named name (Some func)) }) named
        ∙ ap (λ (o : Option (List ℕ)). record m { funcs = slice_set m.funcs place (named_by given func o).0 }) (sym shows);
    uses = added ∙ ap (λ (o : Option (List ℕ)). (named_by given func o).1) (sym shows);
  }

  -- and nothing else is changed
  pub left : without_names n ≡ without_names m
  unfolding with_func_name
  left = ap without_names is ∙ ap (λ (o : Option (Option Func)). record m { funcs = map without_name (slice_set m.funcs place (func_named name o)) }) there
      ∙ ap (λ (funcs : List (Option Func)). record m { funcs = funcs }) (map-set_same without_name m.funcs place (func_named name (Some func)) None (same_else name func))
