-- How many functions there are.
use Rattle.std.proofs.Common.{ℕ, suc, ◌+◌, ◌≤◌, List, [], ◌∷◌, length, map, Option, Some, None, arith}
use Rattle.std.specs.List.{filter_map, cons_option, enumerate_from}
use Rattle.std.proofs.lemmas.List.{length-map, length-append}
use Rattle.std.proofs.lemmas.List.FromFn.{length-enumerate_from}
use Rattle.wasm_types.specs.declared.ids.TypeId.{TypeId}
use Rattle.wasm_code.specs.declared.body.Body.{Body}
use Rattle.wasm_file.specs.declared.entries.FileImport.{FileImport}
use Rattle.wasm_core.specs.Parsing.{brought, joined, imported_func, own_funcs}

-- no more is kept than there is
fewer : {X Y : Type 0} (h : X → Option Y) (xs : List X) → length (filter_map h xs) ≤ length xs
fewer h [] = omega arith
fewer h (x ∷ xs) = more (h x) (filter_map h xs) (length xs) (fewer h xs)
  where
    more : {Y : Type 0} (o : Option Y) (ys : List Y) (n : ℕ) → length ys ≤ n → length (cons_option o ys) ≤ suc n
    more (Some y) ys n le = omega arith
    more None ys n le = omega arith

fewer_own : (types : List TypeId) (bodies : List Body) → length (own_funcs types bodies) ≤ length types
unfolding own_funcs
fewer_own [] bodies = omega arith
fewer_own (ty ∷ types) [] = omega arith
fewer_own (ty ∷ types) (b ∷ bodies) = let le = fewer_own types bodies in omega arith

pub few_funcs : (imports : List FileImport) (types : List TypeId) (bodies : List Body) → length (joined (brought imported_func imports) (own_funcs types bodies)) ≤ length imports + length types
few_funcs imports types bodies =
    let h = λ (p : ℕ × FileImport). imported_func (record { 0 = p.0 }) p.1.ty in
    let all = brought imported_func imports in
    omega (arith, length-append (map Some all) (map Some (own_funcs types bodies)), length-map all Some, length-map (own_funcs types bodies) Some, fewer h (enumerate_from 0 imports), length-enumerate_from 0 imports, fewer_own types bodies)
