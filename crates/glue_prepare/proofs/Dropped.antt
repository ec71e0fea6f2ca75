-- Exports that are dropped one after the other.
use Rattle.std.proofs.Common.{◌≡◌, ℕ, ◌+◌, ◌<◌, ◌≤◌, Bool, true, false, cond, List, [], ◌∷◌, ◌++◌, map, length, take, drop, get_or, set, Option, Some, None, slice_get, refl, sym, ap, ◌∙◌, arith, append_assoc}
use Rattle.std.specs.Option.{option_flatten}
use Rattle.std.proofs.lemmas.List.{take_all, drop_all, drop_more, map_more, set_at, get_or_at, length-append, length-take, length-map, append-nil}
use Rattle.std.proofs.lemmas.Option.{slice_get-get_or}
use Rattle.wasm_core.specs.entries.Export.{Export}
use Rattle.wasm_core.specs.Contents.{Contents}
use Rattle.wasm_core.specs.Edits.{without_export}
use Rattle.glue_prepare.specs.Prepared.{is_linker_export, without_linker_export, without_linker_export_at, without_linker_exports}

-- the module with these exports
abbrev with_exports : List (Option Export) → Contents → Contents
with_exports exports m = record m { exports = exports }

-- the linker's exports before a place are dropped
abbrev pub dropped_before : ℕ → Contents → Contents
dropped_before place m = with_exports (map without_linker_export (take place m.exports) ++ drop place m.exports) m

-- an export is dropped or stays
chosen : (b : Bool) (front back : List (Option Export)) (e : Option Export) (m : Contents)
    → cond b (with_exports (front ++ None ∷ back) m) (with_exports (front ++ e ∷ back) m) ≡ with_exports (front ++ cond b None e ∷ back) m
chosen true front back e m = refl
chosen false front back e m = refl

-- the export between others is dropped, where it is one of the linker
dropped_between : (front back : List (Option Export)) (e : Option Export) (place : ℕ) (m : Contents) → length front ≡ place
    → without_linker_export_at place (with_exports (front ++ e ∷ back) m) ≡ with_exports (front ++ without_linker_export e ∷ back) m
unfolding without_export
dropped_between front back e place m len =
    let exports : List (Option Export) = front ++ e ∷ back in
    let within : place < length exports = omega (arith, length-append front (e ∷ back)) in
    let found : slice_get exports place ≡ Some e = slice_get-get_or exports place None within ∙ ap Some (get_or_at front e back None place len) in
    ap (λ o. cond (is_linker_export (option_flatten o)) (with_exports (set exports place None) m) (with_exports exports m)) found
    ∙ ap (λ xs. cond (is_linker_export e) (with_exports xs m) (with_exports exports m)) (set_at front e back None place len)
    ∙ chosen (is_linker_export e) front back e m

-- one more
pub dropped_more : (m : Contents) (place : ℕ) → place < length m.exports → without_linker_export_at place (dropped_before place m) ≡ dropped_before (place + 1) m
dropped_more m place lt =
    let front : List (Option Export) = map without_linker_export (take place m.exports) in
    let back : List (Option Export) = drop (place + 1) m.exports in
    let e : Option Export = get_or m.exports place None in
    let len : length front ≡ place = length-map (take place m.exports) without_linker_export ∙ (omega (arith, length-take place m.exports)) in
    let joined : map without_linker_export (take (place + 1) m.exports) ++ back ≡ front ++ without_linker_export e ∷ back =
    ap (λ xs. xs ++ back) (map_more without_linker_export m.exports place None lt) ∙ append_assoc front (without_linker_export e ∷ []) back in
    ap (λ xs. without_linker_export_at place (with_exports (front ++ xs) m)) (drop_more m.exports place None lt)
    ∙ dropped_between front back e place m len
    ∙ ap (λ xs. with_exports xs m) (sym joined)

-- all of them
pub dropped_all : (m : Contents) (place : ℕ) → length m.exports ≤ place → dropped_before place m ≡ without_linker_exports m
unfolding without_linker_exports
dropped_all m place le = ap (λ xs. with_exports (map without_linker_export xs ++ drop place m.exports) m) (take_all place m.exports le)
    ∙ ap (λ xs. with_exports (map without_linker_export m.exports ++ xs) m) (drop_all place m.exports le)
    ∙ ap (λ xs. with_exports xs m) (append-nil (map without_linker_export m.exports))
