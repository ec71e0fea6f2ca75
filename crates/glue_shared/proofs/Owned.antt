-- Places of own imports, one after another.
use Rattle.std.proofs.Common.{◌≡◌, ℕ, suc, ◌+◌, ◌<◌, ◌≤◌, ◌==◌, ◌&&◌, ◌||◌, not, List, [], ◌∷◌, ◌++◌, append_assoc, map, length, drop, get_or, Bool, true, false, cond, Option, Some, None, codes, bytes_eq, refl, sym, ap, ◌∙◌, arith}
use Rattle.std.specs.List.{flat_map}
use Rattle.std.proofs.lemmas.List.{append-nil, drop_all}
use Rattle.std.proofs.Math.Seq.{drop-cons}
use Rattle.wasm_core.specs.declared.types.Import.{Import}
use Rattle.wasm_core.specs.Contents.{Contents}
use Rattle.glue_shared.specs.declared.settings.Settings.{Settings}
use Rattle.glue_shared.specs.declared.adapter.NonstandardWitSection.{NonstandardWitSection}
use Rattle.glue_shared.specs.declared.aux.WasmBindgenAux.{WasmBindgenAux}
use Rattle.glue_shared.specs.Indexed.{handed_place, is_own_by}
use Rattle.glue_shared.specs.Names.{own_place, own_places, own_imports, is_own, is_implemented, is_handed_on, is_direct, is_emscripten, is_first_of, has_number}
use Rattle.glue_shared.proofs.Texts.{list_any-map, list_any-flat_map, any_alike}

-- one more place was looked at
pub own_next : (own : ℕ → Import → Bool) (imports : List (Option Import)) (i : ℕ) (x : Option Import) (found found' total : List ℕ) → i < length imports → x ≡ get_or imports i x
    → found' ≡ found ++ own_place own i x → found ++ own_places own i (drop i imports) ≡ total → found' ++ own_places own (i + 1) (drop (i + 1) imports) ≡ total
own_next own imports i x found found' total lt is more h =
    let next : suc i ≡ i + 1 = omega arith in
    let split : drop i imports ≡ x ∷ drop (i + 1) imports = drop-cons imports i x lt ∙ ap (λ y. y ∷ drop (suc i) imports) (sym is) ∙ ap (λ n. x ∷ drop n imports) next in
    ap (λ (ps : List ℕ). ps ++ own_places own (i + 1) (drop (i + 1) imports)) more
    ∙ append_assoc found (own_place own i x) (own_places own (i + 1) (drop (i + 1) imports))
    ∙ ap (λ (xs : List (Option Import)). found ++ own_places own i xs) (sym split) ∙ h

-- all places were looked at
pub own_end : (own : ℕ → Import → Bool) (imports : List (Option Import)) (i : ℕ) (found total : List ℕ) → length imports ≤ i → found ++ own_places own i (drop i imports) ≡ total → found ≡ total
own_end own imports i found total le h = sym (append-nil found) ∙ ap (λ (xs : List (Option Import)). found ++ own_places own i xs) (sym (drop_all i imports le)) ∙ h

-- tests that agree find the same places
own_alike : (p q : ℕ → Import → Bool) → ((place : ℕ) (import : Import) → p place import ≡ q place import)
    → (i : ℕ) (imports : List (Option Import)) → own_places p i imports ≡ own_places q i imports
own_alike p q same i [] = refl
own_alike p q same i (None ∷ imports) = own_alike p q same (i + 1) imports
own_alike p q same i (Some import ∷ imports) =
    ap (λ b. cond b (i ∷ []) [] ++ own_places p (i + 1) imports) (same i import)
    ∙ ap (λ ps. cond (q i import) (i ∷ []) [] ++ ps) (own_alike p q same (i + 1) imports)

or_false : (b : Bool) → (b || false) ≡ (b && true)
or_false true = refl
or_false false = refl

and_false : (b : Bool) → false ≡ (b && false)
and_false true = refl
and_false false = refl

-- one place, where a test holds
one_place : (d : Bool) (k place : ℕ) → has_number place (cond d (k ∷ []) []) ≡ (k == place && d)
one_place true k place = or_false (k == place)
one_place false k place = and_false (k == place)

-- a place that adapters define
implemented_is : (wit : NonstandardWitSection) (place : ℕ) → has_number place (map (λ pair. pair.0.0) wit.implements) ≡ is_implemented wit place
implemented_is wit place = list_any-map (λ k. k == place) (λ pair. pair.0.0) wit.implements

-- a place at which the described name itself can stand
handed_on_is : (settings : Settings) (wit : NonstandardWitSection) (aux : WasmBindgenAux) (place : ℕ)
    → has_number place (flat_map (handed_place settings wit aux) wit.implements) ≡ is_handed_on settings wit aux place
handed_on_is settings wit aux place =
    list_any-flat_map (λ k. k == place) (handed_place settings wit aux) wit.implements
    ∙ any_alike (λ pair. has_number place (handed_place settings wit aux pair)) (λ pair. pair.0.0 == place && is_direct settings wit aux pair.1) wit.implements
    (λ pair. one_place (is_direct settings wit aux pair.1) pair.0.0 place)

-- by the places that are known, an import is an own one exactly where the description says so
own_by : (settings : Settings) (m : Contents) (wit : NonstandardWitSection) (aux : WasmBindgenAux) (implemented handed_on : List ℕ)
    → implemented ≡ map (λ pair. pair.0.0) wit.implements → handed_on ≡ flat_map (handed_place settings wit aux) wit.implements
    → (place : ℕ) (import : Import) → is_own_by settings m implemented handed_on place import ≡ is_own settings m wit aux place import
own_by settings m wit aux implemented handed_on some others place import =
    let known : ℕ → Import → Bool → Bool → Bool = λ at i defined handed.
    (bytes_eq i.«module» (codes "__wbindgen_placeholder__") || (defined || (not (is_emscripten settings.target) && is_first_of at m.memories))) && not handed in
    ap (λ b. known place import b (has_number place handed_on)) (ap (has_number place) some ∙ implemented_is wit place)
    ∙ ap (known place import (is_implemented wit place)) (ap (has_number place) others ∙ handed_on_is settings wit aux place)

-- the places that are found by them are the own ones
pub own_found : (settings : Settings) (m : Contents) (wit : NonstandardWitSection) (aux : WasmBindgenAux) (implemented handed_on : List ℕ)
    → implemented ≡ map (λ pair. pair.0.0) wit.implements → handed_on ≡ flat_map (handed_place settings wit aux) wit.implements
    → own_places (is_own_by settings m implemented handed_on) 0 m.imports ≡ own_imports settings m wit aux
unfolding own_imports
own_found settings m wit aux implemented handed_on some others =
    own_alike (is_own_by settings m implemented handed_on) (is_own settings m wit aux) (own_by settings m wit aux implemented handed_on some others) 0 m.imports
