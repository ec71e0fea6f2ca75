use Rattle.std.proofs.Common.{arith}
use Rattle.std.proofs.lemmas.Grind.{common_steps}
use Rattle.wasm_collect.proofs.Places.{rows_none, rows_more}
use Rattle.wasm_collect.proofs.rows.segment_rows.Goals as goal

pub loop-place-init : goal.loop-place-init
loop-place-init g c = rows_none g.T.Aimed.target c.args.count c.in_ok-rows.rows.items c.in_ok-rows.ensures

pub loop-place-preserved : goal.loop-place-preserved
loop-place-preserved g c = rows_more g.T.Aimed.target c.args.segments.now c.args.count c.loop-place.place c.index-segments-place.result c.loop-place.rows.items c.push_target.new.rows.items c.loop-place-test.true c.index-segments-place.is c.loop-place.invariant c.in_ok-push_target.ensures

pub returns : goal.returns
returns g c = grind (arith, common_steps)
