use Rattle.std.proofs.Common.{◌∷◌, sym, ◌∙◌}
use Rattle.glue_published.proofs.Known.{found_collision, next_clash}
use Rattle.glue_published.proofs.clash.first_collision.Goals as goal

pub returns-then-has_collision : goal.returns-then-has_collision
returns-then-has_collision c =
    let before = c.loop-thing.invariant in
    let thing = c.thing-item.result in record {
      first = sym (next_clash c.args.things.now c.loop-thing.thing-index thing before.0 _ c.loop-thing-test.true c.thing-item.is
          (c.if-has_collision.ensures.test ∙ found_collision _ _ _ before.0 before.1 thing)) ∙ before.2;
    }

pub loop-thing-preserved : goal.loop-thing-preserved
loop-thing-preserved c =
    let before = c.loop-thing.invariant in
    let thing = c.thing-item.result in (
      thing ∷ before.0,
      c.in_ok-add.ensures.known before.0 before.1,
      sym (next_clash c.args.things.now c.loop-thing.thing-index thing before.0 _ c.loop-thing-test.true c.thing-item.is
          (c.if-has_collision.ensures.test ∙ found_collision _ _ _ before.0 before.1 thing)) ∙ before.2,
    )
