use Rattle.glue_binding.proofs.Drawing.{drawn_next, bound_next}
use Rattle.glue_binding.proofs.draw.draw.Goals as goal

pub loop-name-preserved : goal.loop-name-preserved
loop-name-preserved g c =
    let b = g.N.Names.bound c.args.scope.now in
    let now = g.N.Names.bound c.loop-name.scope in record {
      drawn = drawn_next b now c.args.wanted.now c.loop-name.name-index _ _ c.loop-name.names c.push.new.self _ _
          c.loop-name-test.true c.name-item.is c.as_str.ensures c.loop-name.invariant.drawn c.loop-name.invariant.bound
          c.in_ok-generate.ensures.first c.new.ensures c.in_ok-push.ensures.ok;
      bound = bound_next b now _ c.loop-name.names c.push.new.self _ _ c.loop-name.invariant.bound
          c.in_ok-generate.ensures.binds c.new.ensures c.in_ok-push.ensures.ok;
    }
