use Rattle.std.proofs.Common.{◌∙◌, Option, ap, sym, ℕ}
use Rattle.glue_order.specs.Order.{is_class}
use Rattle.glue_order.specs.Walks.{first_of}
use Rattle.glue_order.proofs.ClassPlaces.{place_more}
use Rattle.glue_order.proofs.places.class_places.Goals as goal

pub loop-place-preserved : goal.loop-place-preserved
loop-place-preserved c = λ name.
    let e = c.index-level-place.result in
    let i = c.loop-place.place in
    c.in_ok-add_place.ensures.added name ∙ ap (λ (o : Option ℕ). first_of o (is_class name e) i) (c.loop-place.invariant name)
    ∙ sym (place_more c.args.level.now i e name c.loop-place-test.true c.index-level-place.is)
