use Rattle.glue_exports.proofs.Sets.{name_put}
use Rattle.glue_exports.proofs.hosts.name_set.Goals as goal

pub loop-name-preserved : goal.loop-name-preserved
loop-name-preserved c =
    let put = name_put c.loop-name.set c.args.names.now c.loop-name.name-index c.name-item.result c.loop-name-test.true c.name-item.is c.loop-name.invariant in
    rw (c.in_ok-insert.ensures.entries, c.in_ok-copy.ensures.equal) put
