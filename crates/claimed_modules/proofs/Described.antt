-- The first answer of described names is that of imports, or else that of re-exports.
use Rattle.std.proofs.Common.{◌≡◌, List, [], ◌∷◌, ◌++◌, map, Option, Some, None, refl, ap, ◌∙◌}
use Rattle.std.specs.List.{flat_map}
use Rattle.std.specs.Option.{option_or}
use Rattle.glue_shared.specs.declared.aux.WasmBindgenAux.{WasmBindgenAux}
use Rattle.glue_shared.specs.declared.import.JsImportName.{JsImportName}
use Rattle.glue_shared.specs.Names.{names_of, js_import, described_names}
use Rattle.glue_faults.specs.First.{first_of}

or_assoc : {B : Type 0} (a b c : Option B) → option_or a (option_or b c) ≡ option_or (option_or a b) c
or_assoc None b c = refl
or_assoc (Some x) b c = refl

first_append : {A B : Type 0} (f : A → Option B) (xs ys : List A) → first_of f (xs ++ ys) ≡ option_or (first_of f xs) (first_of f ys)
first_append f [] ys = refl
first_append f (x ∷ xs) ys = ap (option_or (f x)) (first_append f xs ys) ∙ or_assoc (f x) (first_of f xs) (first_of f ys)

first_flat : {A B C : Type 0} (f : B → Option C) (g : A → List B) (xs : List A) → first_of f (flat_map g xs) ≡ first_of (λ x. first_of f (g x)) xs
first_flat f g [] = refl
first_flat f g (x ∷ xs) = first_append f (g x) (flat_map g xs) ∙ ap (option_or (first_of f (g x))) (first_flat f g xs)

first_map : {A B C : Type 0} (f : B → Option C) (g : A → B) (xs : List A) → first_of f (map g xs) ≡ first_of (λ x. f (g x)) xs
first_map f g [] = refl
first_map f g (x ∷ xs) = ap (option_or (f (g x))) (first_map f g xs)

pub first_described : {B : Type 0} (f : JsImportName → Option B) (aux : WasmBindgenAux)
    → first_of f (described_names aux) ≡ option_or (first_of (λ i. first_of f (names_of (js_import i.1))) aux.imports) (first_of (λ r. f r.1.name) aux.reexports)
first_described f aux =
    let imported = flat_map (λ i. names_of (js_import i.1)) aux.imports in
    let reexported = map (λ r. r.1.name) aux.reexports in
    first_append f imported reexported
    ∙ ap (λ o. option_or o (first_of f reexported)) (first_flat f (λ i. names_of (js_import i.1)) aux.imports)
    ∙ ap (option_or (first_of (λ i. first_of f (names_of (js_import i.1))) aux.imports)) (first_map f (λ r. r.1.name) aux.reexports)
