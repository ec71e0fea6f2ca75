-- The places of those of closures' adapters that code makes, and which of all are used.
use Rattle.std.proofs.Common.{◌≡◌, ℕ, ◌+◌, ◌<◌, List, [], ◌∷◌, ◌++◌, Bool, length, take, get_or, sym, ap, ◌∙◌, subst, append_assoc, append-nil}
use Rattle.std.specs.Prelude.{All}
use Rattle.std.specs.List.{filter, flat_map}
use Rattle.std.proofs.lemmas.List.{take_more}
use Rattle.std.proofs.lemmas.List.Concat.{flat_map-append}
use Rattle.std.proofs.lemmas.List.Elements.{filter_map-append}
use Rattle.least_set.specs.Least.{IsLeast, is_marked}
use Rattle.glue_shared.specs.declared.adapter.Instruction.{Instruction}
use Rattle.glue_shared.specs.declared.description.Lowered.{Lowered}
use Rattle.glue_shared.specs.declared.settings.Settings.{Settings}
use Rattle.printed_adapters.specs.Printed.{adapter_ids, closure_id, closures_by, closures_in, outer_code, used_closures}
use Rattle.printed_adapters.specs.Places.{has_mark, id_at, place_in, places_of}
use Rattle.printed_adapters.proofs.Choices.{each_by, from_filter_map}
use Rattle.printed_adapters.proofs.FirstPlaces.{found_there}
use Rattle.printed_adapters.proofs.Least.{marked_held}

-- the places of those that code makes
abbrev pub made_places : List ℕ → List Instruction → List ℕ
made_places ids code = places_of ids (closures_in code)

-- code in two parts makes what its parts make
pub made_by_both : (ids : List ℕ) (some others : List Instruction) → made_places ids (some ++ others) ≡ made_places ids some ++ made_places ids others
made_by_both ids some others =
    ap (places_of ids) (filter_map-append closure_id some others) ∙ filter_map-append (place_in ids) (closures_in some) (closures_in others)

-- once one more instruction was gone through, the places are those of all up to it
pub made_next : (ids : List ℕ) (code : List Instruction) (i : ℕ) (x : Instruction) (start now more : List ℕ) → i < length code → x ≡ get_or code i x
    → now ≡ start ++ made_places ids (take i code) → more ≡ now ++ made_places ids (x ∷ []) → more ≡ start ++ made_places ids (take (i + 1) code)
made_next ids code i x start now more within at before with =
    let is : take (i + 1) code ≡ take i code ++ x ∷ [] = take_more code i x within ∙ ap (λ y. take i code ++ y ∷ []) (sym at) in
    with ∙ ap (λ ys. ys ++ made_places ids (x ∷ [])) before ∙ append_assoc start (made_places ids (take i code)) (made_places ids (x ∷ []))
    ∙ ap (λ ys. start ++ ys) (sym (made_by_both ids (take i code) (x ∷ []))) ∙ ap (λ xs. start ++ made_places ids xs) (sym is)

-- the same of the code of one more
pub made_further : {A : Type 0} (code : A → List Instruction) (ids : List ℕ) (xs : List A) (i : ℕ) (x : A) (start now more : List ℕ) → i < length xs → x ≡ get_or xs i x
    → now ≡ start ++ made_places ids (flat_map code (take i xs)) → more ≡ now ++ made_places ids (code x)
    → more ≡ start ++ made_places ids (flat_map code (take (i + 1) xs))
made_further code ids xs i x start now more within at before with =
    let is : take (i + 1) xs ≡ take i xs ++ x ∷ [] = take_more xs i x within ∙ ap (λ y. take i xs ++ y ∷ []) (sym at) in
    let front = flat_map code (take i xs) in
    let all : flat_map code (take (i + 1) xs) ≡ front ++ code x =
    ap (flat_map code) is ∙ flat_map-append code (take i xs) (x ∷ []) ∙ ap (λ ys. front ++ ys) (append-nil (code x)) in
    with ∙ ap (λ ys. ys ++ made_places ids (code x)) before ∙ append_assoc start (made_places ids front) (made_places ids (code x))
    ∙ ap (λ ys. start ++ ys) (sym (made_by_both ids front (code x))) ∙ ap (λ ys. start ++ made_places ids ys) (sym all)

-- each is a place of the list
pub made_within : (ids some : List ℕ) → All (λ place. place < length ids) (places_of ids some)
made_within ids some = each_by (λ place. place < length ids) (places_of ids some) (λ place i.
    let r = from_filter_map (place_in ids) some place i in (found_there ids r.0 place r.2).1)

-- those whose places the search marks are used, and no others
pub marked_used : (s : Settings) (l : Lowered) (ids roots : List ℕ) (marks : List Bool) → ids ≡ adapter_ids l
    → roots ≡ made_places ids (outer_code s l) → IsLeast (λ place. places_of ids (closures_by l (id_at ids place))) roots (is_marked marks)
    → filter (has_mark ids marks) ids ≡ used_closures s l
unfolding used_closures
marked_used s l ids roots marks are begun least =
    let names : List ℕ → ℕ → List ℕ = λ is place. places_of is (closures_by l (id_at is place)) in
    let by_ids : IsLeast (names (adapter_ids l)) roots (is_marked marks) =
    subst (λ (is : List ℕ). IsLeast (names is) roots (is_marked marks)) are least in
    let roots_are : roots ≡ made_places (adapter_ids l) (outer_code s l) =
    begun ∙ ap (λ (is : List ℕ). made_places is (outer_code s l)) are in
    let by_roots : IsLeast (names (adapter_ids l)) (made_places (adapter_ids l) (outer_code s l)) (is_marked marks) =
    subst (λ (rs : List ℕ). IsLeast (names (adapter_ids l)) rs (is_marked marks)) roots_are by_ids in
    ap (λ (is : List ℕ). filter (has_mark is marks) is) are
    ∙ marked_held (adapter_ids l) (closures_in (outer_code s l)) (closures_by l) marks by_roots
