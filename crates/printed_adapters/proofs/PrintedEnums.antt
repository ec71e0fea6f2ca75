-- The enums that code in several parts names are those that its parts name.
use Rattle.std.proofs.Common.{◌≡◌, ◌+◌, ◌<◌, ℕ, List, [], ◌∷◌, ◌++◌, length, take, get_or, ap, sym, ◌∙◌, append_assoc}
use Rattle.std.specs.List.{flat_map}
use Rattle.std.proofs.lemmas.List.{append-nil, take_more}
use Rattle.std.proofs.lemmas.List.Concat.{flat_map-append}
use Rattle.glue_shared.specs.declared.adapter.Instruction.{Instruction}
use Rattle.printed_adapters.specs.Printed.{enum_named}

pub none_more : {A : Type 0} (xs : List A) → xs ≡ xs ++ []
none_more xs = sym (append-nil xs)

pub named_by_both : (some others : List Instruction) → flat_map enum_named (some ++ others) ≡ flat_map enum_named some ++ flat_map enum_named others
named_by_both some others = flat_map-append enum_named some others

-- once the code of one more was gone through, the names are those of all up to it
pub named_next : {A : Type 0} (code : A → List Instruction) (xs : List A) (i : ℕ) (x : A) (names now more : List (List ℕ)) → i < length xs
    → x ≡ get_or xs i x → now ≡ names ++ flat_map enum_named (flat_map code (take i xs)) → more ≡ now ++ flat_map enum_named (code x)
    → more ≡ names ++ flat_map enum_named (flat_map code (take (i + 1) xs))
named_next code xs i x names now more within at before with =
    let is : take (i + 1) xs ≡ take i xs ++ x ∷ [] = take_more xs i x within ∙ ap (λ y. take i xs ++ y ∷ []) (sym at) in
    let front = flat_map code (take i xs) in
    let named = flat_map enum_named in
    let all : flat_map code (take (i + 1) xs) ≡ front ++ code x =
    ap (flat_map code) is ∙ flat_map-append code (take i xs) (x ∷ []) ∙ ap (λ ys. front ++ ys) (append-nil (code x)) in
    with ∙ ap (λ ys. ys ++ named (code x)) before ∙ append_assoc names (named front) (named (code x))
    ∙ ap (λ ys. names ++ ys) (sym (ap named all ∙ flat_map-append enum_named front (code x)))
