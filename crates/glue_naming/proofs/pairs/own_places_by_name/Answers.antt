use Rattle.glue_naming.proofs.pairs.own_places_by_name.Goals as goal

pub returns : goal.returns
returns c = record {
  sorted = rw (c.in_ok-places.ensures.items, c.as_slice.ensures, c.in_ok-own.ensures.ids) at c.sorted_places.ensures.sorted;
}
