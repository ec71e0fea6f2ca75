-- Counting imported functions, and the types of functions.
use Rattle.std.proofs.Common.{◌≡◌, ℕ, ◌+◌, ◌-◌, ◌<◌, ◌≤◌, zero, suc, List, [], ◌∷◌, ◌++◌, length, cond, refl, ap, ◌∙◌, arith}
use Rattle.std.specs.Prelude.{slice_get}
use Rattle.std.specs.List.{cons_option}
use Rattle.std.proofs.lemmas.List.Sums.{count_by-le-length}
use Rattle.std.proofs.lemmas.List.Recursion.{is_count_by}
use Rattle.wasm_types.specs.declared.ids.TypeId.{TypeId}
use Rattle.wasm_file.specs.declared.entries.FileImport.{FileImport}
use Rattle.wasm_file.specs.declared.entries.ImportType.{ImportType}
use Rattle.wasm_file.specs.declared.entries.ImportType.TheVariants as asked
use Rattle.wasm_file.specs.declared.entries.Parts.{Parts}
use Rattle.wasm_file.specs.Parts.{number_of, is_func, func_type_of, imported_func_types, func_types}

pub ruleset at_most = (count_by-le-length)

get_left : {A : Type 0} (xs ys : List A) (i : ℕ) → i < length xs → slice_get (xs ++ ys) i ≡ slice_get xs i
get_left [] ys i lt = absurd (omega arith)
get_left (x ∷ xs) ys zero lt = refl
get_left (x ∷ xs) ys (suc i) lt = get_left xs ys i (omega arith)

get_right : {A : Type 0} (xs ys : List A) (i : ℕ) → length xs ≤ i → slice_get (xs ++ ys) i ≡ slice_get ys (i - length xs)
get_right [] ys i le = ap (slice_get ys) (omega arith)
get_right (x ∷ xs) ys zero le = absurd (omega arith)
get_right (x ∷ xs) ys (suc i) le =
    let k : i - length xs ≡ suc i - length (x ∷ xs) = omega arith in
    get_right xs ys i (omega arith) ∙ ap (slice_get ys) k

one_more : (ty : ImportType) (types : List TypeId) → length (cons_option (func_type_of ty) types) ≡ cond (is_func ty) (1 + length types) (length types)
one_more (asked.Func ty) types = omega arith
one_more (asked.Table ty size) types = refl
one_more (asked.Memory size) types = refl
one_more (asked.Global ty mutable) types = refl
one_more (asked.Tag ty) types = refl

-- as many types as functions that are imported
pub types_counted : (imports : List FileImport) → length (imported_func_types imports) ≡ number_of is_func imports
unfolding imported_func_types number_of
types_counted imports = is_count_by (λ xs. length (imported_func_types xs)) (λ i. is_func i.ty) refl (λ x xs. one_more x.ty (imported_func_types xs)) imports

-- the type of an imported function
pub type_of_imported : (p : Parts) (n i : ℕ) → n ≡ number_of is_func p.imports → i < n → slice_get (func_types p) i ≡ slice_get (imported_func_types p.imports) i
unfolding func_types
type_of_imported p n i is lt = get_left (imported_func_types p.imports) p.functions i (omega (arith, is, types_counted p.imports))

-- the type of a function that isn't imported
pub type_of_own : (p : Parts) (n i : ℕ) → n ≡ number_of is_func p.imports → n ≤ i → slice_get (func_types p) i ≡ slice_get p.functions (i - n)
unfolding func_types
type_of_own p n i is le =
    let same : length (imported_func_types p.imports) ≡ n = omega (arith, is, types_counted p.imports) in
    get_right (imported_func_types p.imports) p.functions i (omega arith) ∙ ap (λ k. slice_get p.functions (i - k)) same
