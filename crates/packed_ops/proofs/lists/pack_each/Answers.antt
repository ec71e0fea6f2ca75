use Rattle.wasm_ops.proofs.Written.{written, all_written, all_so_far, all_at_last}
use Rattle.packed_ops.proofs.lists.pack_each.Goals as goal

pub loop-item-preserved : goal.loop-item-preserved
loop-item-preserved g c = record {
  bytes = written g.T.Item.packed c.args.items.now c.loop-item.item-index _ _ c.args.out.now.items c.loop-item.out.items c.pack.new.out.items c.loop-item-test.true c.item-item.is c.in_ok-pack.ensures.bytes c.loop-item.invariant.bytes;
  fits = all_so_far g.T.Item.fits c.args.items.now c.loop-item.item-index _ _ c.loop-item-test.true c.item-item.is c.in_ok-pack.ensures.fits c.loop-item.invariant.fits;
}

pub returns-clause-bytes : goal.returns-clause-bytes
returns-clause-bytes g c = all_written g.T.Item.packed c.args.items.now c.loop-item.item-index c.args.out.now.items c.loop-item.out.items c.loop-item-test.false c.loop-item.invariant.bytes

pub returns-clause-fits : goal.returns-clause-fits
returns-clause-fits g c = all_at_last g.T.Item.fits c.args.items.now c.loop-item.item-index c.loop-item-test.false c.loop-item.invariant.fits
