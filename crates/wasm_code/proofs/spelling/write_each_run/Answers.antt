use Rattle.std.proofs.Common.{refl}
use Rattle.wasm_code.specs.Spelling.{run_bytes}
use Rattle.wasm_ops.proofs.Written.{written, all_written}
use Rattle.wasm_code.proofs.spelling.write_each_run.Goals as goal

pub loop-run-preserved : goal.loop-run-preserved
loop-run-preserved c = written run_bytes c.args.runs.now c.loop-run.run-index _ _ c.args.out.now.items c.loop-run.out.items c.write_run.new.out.items c.loop-run-test.true refl c.in_ok-write_run.ensures c.loop-run.invariant

pub returns : goal.returns
returns c = all_written run_bytes c.args.runs.now c.loop-run.run-index c.args.out.now.items c.loop-run.out.items c.loop-run-test.false c.loop-run.invariant
