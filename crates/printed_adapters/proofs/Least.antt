-- The ids that each closed choice has are those of the least set.
use Rattle.std.proofs.Common.{◌≡◌, ℕ, ◌<◌, Bool, true, false, true≢false, ◌&&◌, List, [], ◌∷◌, ◌++◌, length, get_or, Option, Some, None, refl, sym, ap, ◌∙◌, subst, inl, inr}
use Rattle.std.specs.Prelude.{All}
use Rattle.std.specs.List.{filter, filter_map, flat_map, list_all}
use Rattle.values.specs.Lists.{IsIn, AreDistinct}
use Rattle.values.proofs.Members.{in_left, in_right, in_either}
use Rattle.least_set.specs.Least.{IsLeast, is_marked}
use Rattle.glue_shared.specs.Names.{has_number}
use Rattle.printed_adapters.specs.Printed.{choices}
use Rattle.printed_adapters.specs.Places.{has_mark, id_at, is_marked_at, place_in, places_of}
use Rattle.printed_adapters.proofs.Choices.{all_by, all_in, and_of, both, each_by, filter_chosen, filter_same, from_filter, from_filter_map, from_flat, in_filter, in_filter_map, in_flat, number_in, number_there, of_each}
use Rattle.printed_adapters.proofs.FirstPlaces.{found_there, place_there}

-- of ids, those that are named at the start, and those that each names
module _ (ids roots : List ℕ) (named : ℕ → List ℕ) where
  -- the ones among the ids
  abbrev known : List ℕ → List ℕ
  known some = filter (λ id. has_number id ids) some

  -- a set has those that are named at the start, and those that its own name
  abbrev pub is_closed : List ℕ → Bool
  is_closed set = list_all (λ id. has_number id set) (known (roots ++ flat_map named set))

  abbrev pub is_held : ℕ → Bool
  is_held id = list_all (λ set. has_number id set) (filter is_closed (choices ids))

  -- those that each such set has
  abbrev pub held : List ℕ
  held = filter is_held ids

  -- what is named is in the set
  pub record HasNamed (set : List ℕ) : Type 0 where
    pub begun : (id : ℕ) → IsIn id roots → IsIn id ids → IsIn id set
    pub further : (id other : ℕ) → IsIn other set → IsIn id (named other) → IsIn id ids → IsIn id set

  has_named : (set : List ℕ) → is_closed set ≡ true → HasNamed set
  has_named set h =
      let each : (id : ℕ) → IsIn id (roots ++ flat_map named set) → IsIn id ids → IsIn id set = λ id i known_id.
      number_in id set (all_in (λ id. has_number id set) (known (roots ++ flat_map named set)) id h
      (in_filter (λ id. has_number id ids) id (roots ++ flat_map named set) i (number_there id ids known_id))) in
      record {
        begun = λ id i k. each id (in_left id roots (flat_map named set) i) k;
        further = λ id other o i k. each id (in_right id roots (flat_map named set) (in_flat named set other id o i)) k;
      }

  closed_by : (set : List ℕ) → HasNamed set → is_closed set ≡ true
  closed_by set h = all_by (λ id. has_number id set) (known (roots ++ flat_map named set)) (λ id i.
      let r = from_filter (λ id. has_number id ids) id (roots ++ flat_map named set) i in
      let k = number_in id ids r.1 in
      number_there id set (elim (in_either id roots (flat_map named set) r.0) [
        | inl first ↦ h.begun id first k
        | inr later ↦ let o = from_flat named set id later in h.further id o.0 o.1 o.2 k
      ]))

  -- a held one is in each choice that has what is named
  pub held_in : (id : ℕ) → IsIn id held → (set : List ℕ) → IsIn set (choices ids) → HasNamed set → IsIn id set
  held_in id i set choice h =
      number_in id set (all_in (λ set. has_number id set) (filter is_closed (choices ids)) set
      (from_filter is_held id ids i).1 (in_filter is_closed set (choices ids) choice (closed_by set h)))

  is_held_by : (id : ℕ) → ((set : List ℕ) → IsIn set (choices ids) → HasNamed set → IsIn id set) → is_held id ≡ true
  is_held_by id h = all_by (λ set. has_number id set) (filter is_closed (choices ids)) (λ set i.
      let r = from_filter is_closed set (choices ids) i in number_there id set (h set r.0 (has_named set r.1)))

  held_by : (id : ℕ) → IsIn id ids → ((set : List ℕ) → IsIn set (choices ids) → HasNamed set → IsIn id set) → IsIn id held
  held_by id k h = in_filter is_held id ids k (is_held_by id h)

  pub held_known : (id : ℕ) → IsIn id held → IsIn id ids
  held_known id i = (from_filter is_held id ids i).0

  -- the held ones have what is named
  pub held_named : HasNamed held
  held_named = record {
    begun = λ id i k. held_by id k (λ set choice h. h.begun id i k);
    further = λ id other o i k. held_by id k (λ set choice h. h.further id other (held_in other o set choice h) i k);
  }

  -- a test that those of the held ones pass which are named holds of each
  pub held_pass : (test : ℕ → Bool) → ((id : ℕ) → IsIn id roots → IsIn id ids → test id ≡ true)
      → ((id other : ℕ) → IsIn other held → test other ≡ true → IsIn id (named other) → IsIn id ids → test id ≡ true)
      → (id : ℕ) → IsIn id held → test id ≡ true
  held_pass test begun further id i =
      let passes : ℕ → Bool = λ id. is_held id && test id in
      let set = filter passes ids in
      let kept : (id : ℕ) → IsIn id held → test id ≡ true → IsIn id set = λ id h t.
      let r = from_filter is_held id ids h in in_filter passes id ids r.0 (and_of (is_held id) (test id) r.1 t) in
      let has : HasNamed set = record {
        begun = λ id i k. kept id (held_named.begun id i k) (begun id i k);
        further = λ id other o i k.
            let r = from_filter passes other ids o in
            let b = both (is_held other) (test other) r.1 in
            let h = in_filter is_held other ids r.0 b.0 in
            kept id (held_named.further id other h i k) (further id other h b.1 i k);
      } in
      (both (is_held id) (test id) (from_filter passes id ids (held_in id i set (filter_chosen passes ids) has)).1).1

  -- so they are the least set
  pub held_least : IsLeast (λ id. known (named id)) (known roots) (λ id. has_number id held)
  held_least =
      let is_known = λ (id : ℕ). has_number id ids in record {
        roots_in = each_by (λ id. has_number id held ≡ true) (known roots) (λ id i.
            let r = from_filter is_known id roots i in number_there id held (held_named.begun id r.0 (number_in id ids r.1)));
        closed = λ other o. each_by (λ id. has_number id held ≡ true) (known (named other)) (λ id i.
            let r = from_filter is_known id (named other) i in
            number_there id held (held_named.further id other (number_in other held o) r.0 (number_in id ids r.1)));
        least = λ test begun closed id h. held_pass test
            (λ id i k. of_each (λ id. test id ≡ true) (known roots) id begun (in_filter is_known id roots i (number_there id ids k)))
            (λ id other h passes i k. of_each (λ id. test id ≡ true) (known (named other)) id (closed other passes)
            (in_filter is_known id (named other) i (number_there id ids k)))
            id (number_in id held h);
      }

  -- ---- by places

  -- the places of those that the one at a place names
  abbrev pub named_places : ℕ → List ℕ
  named_places place = places_of ids (named (id_at ids place))

  module _ (marks : List Bool) (least : IsLeast named_places (places_of ids roots) (is_marked marks)) where
    marked_place : (id : ℕ) (o : Option ℕ) → place_in ids id ≡ o → is_marked_at marks o ≡ true → (place : ℕ) × (place_in ids id ≡ Some place) × (is_marked marks place ≡ true)
    marked_place id None e h = absurd (true≢false (sym h))
    marked_place id (Some place) e h = (place, e, h)

    -- where a place is marked, each choice that has what is named has the id that stands there
    marked_in : (set : List ℕ) → HasNamed set → (place : ℕ) → is_marked marks place ≡ true → has_number (id_at ids place) set ≡ true
    marked_in set h = least.least (λ place. has_number (id_at ids place) set)
        (each_by (λ place. has_number (id_at ids place) set ≡ true) (places_of ids roots) (λ place i.
        let r = from_filter_map (place_in ids) roots place i in in_set r.0 place r.2 (λ k. h.begun r.0 r.1 k)))
        (λ other o. each_by (λ place. has_number (id_at ids place) set ≡ true) (named_places other) (λ place i.
        let r = from_filter_map (place_in ids) (named (id_at ids other)) place i in
        in_set r.0 place r.2 (λ k. h.further r.0 (id_at ids other) (number_in (id_at ids other) set o) r.1 k)))
      where
        in_set : (id place : ℕ) → place_in ids id ≡ Some place → (IsIn id ids → IsIn id set) → has_number (id_at ids place) set ≡ true
        in_set id place e i =
            let there = found_there ids id place e in
            ap (λ (x : ℕ). has_number x set) there.2 ∙ number_there id set (i there.0)

    -- a mark at the place of an id
    mark_at : (id place : ℕ) → place_in ids id ≡ Some place → is_marked marks place ≡ true → has_mark ids marks id ≡ true
    mark_at id place e h = ap (is_marked_at marks) e ∙ h

    -- those whose places are marked are the held ones
    pub marked_held : filter (has_mark ids marks) ids ≡ held
    marked_held = filter_same (has_mark ids marks) is_held ids there back
      where
        there : (id : ℕ) → IsIn id ids → has_mark ids marks id ≡ true → is_held id ≡ true
        there id k m =
            let r = marked_place id (place_in ids id) refl m in
            is_held_by id (λ set choice h.
            number_in id set (ap (λ (x : ℕ). has_number x set) (sym (found_there ids id r.0 r.1).2) ∙ marked_in set h r.0 r.2))

        back : (id : ℕ) → IsIn id ids → is_held id ≡ true → has_mark ids marks id ≡ true
        back id k h = held_pass (has_mark ids marks)
            (λ id i k.
            let p = place_there 0 ids id k in
            mark_at id p.0 p.1 (of_each (λ place. is_marked marks place ≡ true) (places_of ids roots) p.0 least.roots_in
            (in_filter_map (place_in ids) roots id p.0 i p.1)))
            (λ id other h m i k.
            let p = place_there 0 ids id k in
            let r = marked_place other (place_in ids other) refl m in
            let same = (found_there ids other r.0 r.1).2 in
            mark_at id p.0 p.1 (of_each (λ place. is_marked marks place ≡ true) (named_places r.0) p.0 (least.closed r.0 r.2)
            (in_filter_map (place_in ids) (named (id_at ids r.0)) id p.0 (subst (λ (x : ℕ). IsIn id (named x)) (sym same) i) p.1)))
            id (in_filter is_held id ids k h)
