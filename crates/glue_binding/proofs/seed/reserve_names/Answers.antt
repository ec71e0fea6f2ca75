use Rattle.glue_binding.proofs.Drawing.{reserved_next}
use Rattle.glue_binding.proofs.seed.reserve_names.Goals as goal

pub loop-name-preserved : goal.loop-name-preserved
loop-name-preserved g c =
    let bound = g.N.Names.bound in
    reserved_next (bound c.args.scope.now) (bound c.loop-name.scope) _ c.args.names.now c.loop-name.name-index _ _ c.loop-name-test.true
    c.name-item.is c.as_str.ensures c.loop-name.invariant c.in_ok-reserve.ensures.binds
