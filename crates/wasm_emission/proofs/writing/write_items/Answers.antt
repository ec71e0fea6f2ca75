use Rattle.std.proofs.Common.{arith}
use Rattle.std.proofs.lemmas.Grind.{common_steps}
use Rattle.wasm_emission.proofs.Filed.{all_counted, all_written}
use Rattle.wasm_emission.proofs.writing.write_items.Goals as goal

pub returns : goal.returns
returns g c =
    let file = g.L.FileList.filed c.args.plan.now.module.now c.args.plan.now.numbers.now in (
      all_counted file c.args.items.now c.loop-item.item-index c.loop-item.count c.loop-item-test.false c.loop-item.invariant.count,
      all_written file g.L.FileList.spelled c.args.items.now c.loop-item.item-index c.args.out.now.items c.loop-item.out.items c.loop-item-test.false c.loop-item.invariant.bytes,
    )

pub loop-item-preserved : goal.loop-item-preserved
loop-item-preserved g c = grind (arith, common_steps)
