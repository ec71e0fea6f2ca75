use Rattle.std.proofs.Common.{◌^◌, ◌/◌, ap, arith, length}
use Rattle.glue_order.proofs.LongWalks.{AreNear, far_doubles, far_even, far_fits, far_joined, near_doubled}
use Rattle.glue_order.proofs.walks.far_walks.Goals as goal
use Rattle.glue_order.proofs.walks.far_walks.Goals.{then-left-eq1+in_ok-walks-2, else-left-eq1}

pub joined-requires : goal.joined-requires
joined-requires c = record {
  fits = far_fits (2 ^ 64) c.loop-left.left c.requires.small (omega arith) c.loop-left-test.true
      (rw (c.deref.ensures.value, c.deref-then-left-eq1.ensures.value) c.loop-left.invariant);
}

pub joined-requires-in-loop-left : goal.joined-requires-in-loop-left
joined-requires-in-loop-left c = record {
  fits = rw (c.deref-in-loop-left.ensures.value, c.deref-in-loop-left-2.ensures.value)
      (far_doubles (2 ^ 64) c.loop-left.left c.requires.small (omega (arith, ap length c.deref-in-loop-left.ensures.value)) c.loop-left-test.true c.loop-left.invariant);
}

pub loop-left-preserved : goal.loop-left-preserved
loop-left-preserved c =
    let left = c.loop-left.left in
    let near : AreNear c.args.steps.now c.if-left-eq1.walks.items c.loop-left.longer.items (left / 2) =
    elim c.if-left-eq1.branch [
      | then-left-eq1+in_ok-walks-2 w ↦ rw w.walks-is
          (far_joined left w.in_ok-walks-2.walks.items w.if-left-eq1.true (rw (w.deref.ensures.value, w.deref-then-left-eq1.ensures.value) at w.in_ok-walks-2.ensures.walks) c.loop-left.invariant)
      | else-left-eq1 w ↦ rw w.walks-is (far_even left w.if-left-eq1.false c.loop-left.invariant)
    ] in
    let doubled = rw (c.deref-in-loop-left.ensures.value, c.deref-in-loop-left-2.ensures.value) at c.in_ok-longer-2.ensures.walks in
    near_doubled (left / 2) c.in_ok-longer-2.longer.items doubled near
