use Rattle.std.proofs.Common.{arith}
use Rattle.std.proofs.lemmas.Grind.{common_steps}
use Rattle.std.proofs.lemmas.Result.{err_from_is_err_and}
use Rattle.wasm_bytes.specs.Reading.{entries}
use Rattle.wasm_bytes.proofs.Loop.{goes_on, ends, is_done}
use Rattle.wasm_file.proofs.grammar.read_each_of.Goals as goal

pub returns-in_err-read-clause-value : goal.returns-in_err-read-clause-value
returns-in_err-read-clause-value g c =
    let p = err_from_is_err_and c.from_residual.result c.from_residual.ensures.1 in
    rw (p.1, p.2) (ends (g.L.Listed.grammar c.args.counts.now) c.in_err-read.field-0.0 c.loop.items c.args.count c.loop.counter c.loop.reader (entries c.args.count (g.L.Listed.grammar c.args.counts.now) c.args.reader.now) c.loop-test.true c.in_err-read.ensures c.loop.invariant.value)

pub loop-preserved : goal.loop-preserved
loop-preserved g c = record {
  value = rw c.in_ok-push.ensures.ok (goes_on (g.L.Listed.grammar c.args.counts.now) c.loop.items c.args.count c.loop.counter c.loop.reader c.in_ok-read.field-0 c.read.new.reader (entries c.args.count (g.L.Listed.grammar c.args.counts.now) c.args.reader.now) c.loop-test.true c.in_ok-read.ensures c.loop.invariant.value);
  len = rw c.in_ok-push.ensures.ok (grind (arith, common_steps));
}

pub returns-clause-value : goal.returns-clause-value
returns-clause-value g c = is_done (g.L.Listed.grammar c.args.counts.now) c.loop.items c.args.count c.loop.counter c.loop.reader (entries c.args.count (g.L.Listed.grammar c.args.counts.now) c.args.reader.now) c.loop-test.false c.loop.invariant.value
