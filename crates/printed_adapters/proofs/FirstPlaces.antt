-- The places of ids in a list.
use Rattle.std.proofs.Common.{◌≡◌, ℕ, zero, suc, ◌+◌, ◌<◌, ◌==◌, Bool, true, false, cond, List, [], ◌∷◌, length, drop, get_or, Option, Some, None, refl, sym, ap, ◌∙◌, subst, arith, add-one, drop-cons, inl, inr}
use Rattle.std.specs.Ordering.{nat_cmp, eq_by_cmp}
use Rattle.std.specs.Cmp.{nat_cmp_total}
use Rattle.std.specs.BTreeMap.{insert_entry}
use Rattle.std.proofs.lemmas.Bool.{eqb-true}
use Rattle.std.proofs.lemmas.Bool.Decides.{Decides-eqb, nat_tests}
use Rattle.std.proofs.lemmas.List.{drop_all}
use Rattle.values.specs.Lists.{IsIn}
use Rattle.values.specs.Map.{look_up}
use Rattle.values.proofs.Maps.{look_up_inserted}
use Rattle.printed_adapters.specs.Places.{GivesPlaces, id_at, place_from, place_in}

-- a place of an id: so many behind the first
pub record IsPlaceOf (first : ℕ) (ids : List ℕ) (id place : ℕ) : Type 0 where
  pub behind : ℕ
  pub place_is : place ≡ first + behind
  pub within : behind < length ids
  pub id_is : id_at ids behind ≡ id

place_case : (first i id place : ℕ) (ids : List ℕ) (b : Bool) → (i == id) ≡ b → (place_from (first + 1) ids id ≡ Some place → IsPlaceOf (first + 1) ids id place)
    → cond b (Some first) (place_from (first + 1) ids id) ≡ Some place → IsPlaceOf first (i ∷ ids) id place
place_case first i id place ids true e later h = record {
  behind = 0;
  place_is = let s : first ≡ place = cc in omega (arith, s);
  within = omega arith;
  id_is = eqb-true i id e;
}
place_case first i id place ids false e later h =
    let r = later h in record { behind = suc r.behind; place_is = omega (arith, r.place_is); within = omega (arith, r.within); id_is = r.id_is }

pub place_found : (first : ℕ) (ids : List ℕ) (id place : ℕ) → place_from first ids id ≡ Some place → IsPlaceOf first ids id place
place_found first [] id place h = cc
place_found first (i ∷ ids) id place h = place_case first i id place ids (i == id) refl (place_found (first + 1) ids id place) h

stands : (ids : List ℕ) (place : ℕ) → place < length ids → IsIn (id_at ids place) ids
stands [] place lt = absurd (omega (arith, lt))
stands (i ∷ ids) zero lt = inl refl
stands (i ∷ ids) (suc place) lt = inr (stands ids place (omega (arith, lt)))

-- the id that a place was found for stands there
pub found_there : (ids : List ℕ) (id place : ℕ) → place_in ids id ≡ Some place → IsIn id ids × (place < length ids) × (id_at ids place ≡ id)
found_there ids id place h =
    let r = place_found 0 ids id place h in
    let same : place ≡ r.behind = omega (arith, r.place_is) in
    (subst (λ (x : ℕ). IsIn x ids) r.id_is (stands ids r.behind r.within), omega (arith, same, r.within), ap (id_at ids) same ∙ r.id_is)

-- an id of the list has a place
pub place_there : (first : ℕ) (ids : List ℕ) (id : ℕ) → IsIn id ids → (place : ℕ) × (place_from first ids id ≡ Some place)
place_there first [] id i = absurd i
place_there first (k ∷ ids) id (inl same) = (first, ap (λ (b : Bool). cond b (Some first) (place_from (first + 1) ids id)) (ap (λ (x : ℕ). k == x) same ∙ (Decides-eqb k k).1 refl))
place_there first (k ∷ ids) id (inr i) = by (k == id) (place_there (first + 1) ids id i)
  where
    by : (b : Bool) → (place : ℕ) × (place_from (first + 1) ids id ≡ Some place) → (place : ℕ) × (cond b (Some first) (place_from (first + 1) ids id) ≡ Some place)
    by true later = (first, refl)
    by false later = later

-- ---- the index

same_number : (q k : ℕ) → eq_by_cmp nat_cmp q k ≡ (k == q)
same_number q k = grind (arith, nat_tests)

pub gives_none : (ids : List ℕ) → GivesPlaces [] (length ids) (drop (length ids) ids)
gives_none ids id = ap (λ (is : List ℕ). place_from (length ids) is id) (sym (drop_all (length ids) ids (omega arith)))

-- one id more, before the others
pub gives_more : (index : List (ℕ × ℕ)) (ids : List ℕ) (place i : ℕ) → place < length ids → i ≡ get_or ids place i
    → GivesPlaces index (place + 1) (drop (place + 1) ids) → GivesPlaces (insert_entry nat_cmp index i place) place (drop place ids)
gives_more index ids place i within here gives id =
    let cut : drop place ids ≡ i ∷ drop (place + 1) ids =
    drop-cons ids place i within ∙ ap (λ x. x ∷ drop (suc place) ids) (sym here) ∙ ap (λ k. i ∷ drop k ids) (sym (add-one place)) in
    look_up_inserted nat_cmp nat_cmp_total index i place id
    ∙ ap (λ b. cond b (Some place) (look_up nat_cmp index id)) (same_number id i)
    ∙ ap (cond (i == id) (Some place)) (gives id)
    ∙ ap (λ (is : List ℕ). place_from place is id) (sym cut)

pub found_within : (index : List (ℕ × ℕ)) (ids : List ℕ) (id place : ℕ) → GivesPlaces index 0 ids → look_up nat_cmp index id ≡ Some place → place < length ids
found_within index ids id place gives h = (found_there ids id place (sym (gives id) ∙ h)).1
