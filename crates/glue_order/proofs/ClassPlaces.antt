-- Places of classes: a map of them, and the first of a name.
use Rattle.std.proofs.Common.{◌≡◌, ◌+◌, ◌<◌, ◌∙◌, Bool, Bor, List, None, Option, Some, [], ap, arith, bytes_eq, cond, false, get_or, is_some, length, refl, suc, sym, take, true, ℕ, ◌++◌, ◌∷◌}
use Rattle.std.proofs.lemmas.Cmp.{nat_list_cmp_total}
use Rattle.std.proofs.lemmas.List.{length-take, take_more}
use Rattle.std.proofs.lemmas.Map.Text.{is_eq-slice_cmp}
use Rattle.std.proofs.lemmas.Slice.Eq.{bytes_eq-Decides}
use Rattle.std.specs.BTreeMap.{insert_entry}
use Rattle.std.specs.List.{position_from}
use Rattle.std.specs.Option.{option_and_then, option_copied}
use Rattle.values.proofs.Maps.{look_up_inserted}
use Rattle.values.specs.Map.{look_up}
use Rattle.glue_order.specs.Order.{Entry, is_class, name_order, parent_name}
use Rattle.glue_order.specs.Walks.{ArePlaces, class_place, first_of, parent_in, parent_place}

-- ---- a map of places

-- a look-up that finds nothing
pub nothing : {A : Type 0} (o : Option (Bor A)) → is_some o ≡ false → option_copied o ≡ None
nothing None h = refl
nothing (Some x) h = absurd (cc h)

first_kept : (held : Option ℕ) (place : ℕ) → held ≡ first_of held false place
first_kept None place = refl
first_kept (Some p) place = refl

-- a name gets a place, where it has none
pub placed : (es : List (List ℕ × ℕ)) (own : List ℕ) (place : ℕ) → look_up name_order es own ≡ None → (name : List ℕ)
    → look_up name_order (insert_entry name_order es own place) name ≡ first_of (look_up name_order es name) (bytes_eq name own) place
placed es own place none name =
    let held = look_up name_order es name in
    let by_test : (b : Bool) → (b ≡ true → held ≡ None) → cond b (Some place) held ≡ first_of held b place = λ b h.
    elim b as (λ v. (v ≡ true → held ≡ None) → cond v (Some place) held ≡ first_of held v place) [
      | true ↦ λ k. sym (ap (λ (o : Option ℕ). first_of o true place) (k refl))
      | false ↦ λ k. first_kept held place
    ] h in
    look_up_inserted name_order nat_list_cmp_total es own place name
    ∙ ap (λ (b : Bool). cond b (Some place) held) (is_eq-slice_cmp name own)
    ∙ by_test (bytes_eq name own) (λ same. ap (look_up name_order es) ((bytes_eq-Decides name own).0 same) ∙ none)

-- ---- the first place

position_more : {A : Type 0} (test : A → Bool) (from : ℕ) (xs : List A) (x : A)
    → position_from test from (xs ++ x ∷ []) ≡ first_of (position_from test from xs) (test x) (from + length xs)
position_more test from [] x =
    elim (test x) as (λ v. cond v (Some from) None ≡ first_of None v (from + 0)) [ true ↦ ap Some (omega arith) | false ↦ refl ]
position_more test from (y ∷ xs) x =
    let rest = position_more test (from + 1) xs x in
    let more : from + 1 + length xs ≡ from + suc (length xs) = omega arith in
    elim (test y) as (λ v. cond v (Some from) (position_from test (from + 1) (xs ++ x ∷ [])) ≡ first_of (cond v (Some from) (position_from test (from + 1) xs)) (test x) (from + suc (length xs))) [
      | true ↦ refl
      | false ↦ rest ∙ ap (first_of (position_from test (from + 1) xs) (test x)) more
    ]

-- one more entry of a level
pub place_more : (level : List Entry) (i : ℕ) (e : Entry) (name : List ℕ) → i < length level → e ≡ get_or level i e
    → class_place (take (i + 1) level) name ≡ first_of (class_place (take i level) name) (is_class name e) i
place_more level i e name within is =
    let test = is_class name in
    let long : 0 + length (take i level) ≡ i = omega (arith, length-take i level) in
    ap (position_from test 0) (take_more level i e within ∙ ap (λ (x : Entry). take i level ++ x ∷ []) (sym is))
    ∙ position_more test 0 (take i level) e ∙ ap (first_of (class_place (take i level) name) (test e)) long

-- ---- the places of parents

-- a map of places has them
pub parent_same : (level : List Entry) (places : List (List ℕ × ℕ)) (e : Entry) → ArePlaces level places → parent_in places e.1 ≡ parent_place level e
parent_same level places e are =
    elim (parent_name e.1) as (λ o. option_and_then (look_up name_order places) o ≡ option_and_then (class_place level) o) [ None ↦ refl | Some name ↦ are name ]
