use Rattle.std.proofs.Common.{◌≡◌, ℕ, ◌+◌, ◌-◌, List, drop, sym, ap, ◌∙◌, subst, arith}
use Rattle.std.specs.Ordering.{nat_cmp}
use Rattle.std.specs.BTreeMap.{insert_entry}
use Rattle.printed_adapters.specs.Places.{GivesPlaces}
use Rattle.printed_adapters.proofs.FirstPlaces.{gives_more}
use Rattle.printed_adapters.proofs.places.first_places.Goals as goal

pub loop-place-preserved : goal.loop-place-preserved
loop-place-preserved c =
    let ids = c.args.ids.now in
    let place = c.loop-place.place - 1 in
    let back : c.loop-place.place ≡ place + 1 = omega arith in
    let new = c.in_ok-insert.ensures.entries ∙ ap (λ (i : ℕ). insert_entry nat_cmp c.loop-place.index i place) c.id.view_is in
    record {
      gives = subst (λ (index : List (ℕ × ℕ)). GivesPlaces index place (drop place ids)) (sym new)
          (gives_more c.loop-place.index ids place c.index-ids-place.result (omega arith) c.index-ids-place.is
          (subst (λ (k : ℕ). GivesPlaces c.loop-place.index k (drop k ids)) back c.loop-place.invariant.gives));
      within = omega arith;
    }
