use Rattle.std.proofs.Common.{false}
use Rattle.std.proofs.lemmas.Result.{err_from_is_err_and}
use Rattle.wasm_bytes.specs.Reading.{entries}
use Rattle.wasm_file.specs.Customs.{is_plus, with_any}
use Rattle.wasm_file.proofs.Marks.{marks_more, marks_end, marks_done}
use Rattle.wasm_file.proofs.customs.read_each_plus.Goals as goal
use Rattle.wasm_file.proofs.customs.read_each_plus.Goals.{then-found, else-found}

pub returns-in_err-is_wanted-clause-value : goal.returns-in_err-is_wanted-clause-value
returns-in_err-is_wanted-clause-value c =
    let p = err_from_is_err_and c.from_residual.result c.from_residual.ensures.1 in
    rw (p.1, p.2) (marks_end (is_plus c.args.wanted.now) c.in_err-is_wanted.field-0.0 c.loop.found c.args.count c.loop.counter c.loop.reader (with_any false (entries c.args.count (is_plus c.args.wanted.now) c.args.reader.now)) c.loop-test.true c.in_err-is_wanted.ensures.value c.loop.invariant)

pub loop-preserved : goal.loop-preserved
loop-preserved c =
    let step = marks_more (is_plus c.args.wanted.now) c.loop.found c.args.count c.loop.counter c.loop.reader c.in_ok-is_wanted.is_wanted c.read_plus.new.reader (with_any false (entries c.args.count (is_plus c.args.wanted.now) c.args.reader.now)) c.loop-test.true c.in_ok-is_wanted.ensures.value c.loop.invariant in
    elim c.if-found.branch [
      | then-found w ↦ rw (w.found-is, w.if-found.true) (rw w.if-found.true at step)
      | else-found w ↦ rw w.found-is (rw w.if-found.false at step)
    ]

pub returns-clause-value : goal.returns-clause-value
returns-clause-value c = marks_done (is_plus c.args.wanted.now) c.loop.found c.args.count c.loop.counter c.loop.reader (with_any false (entries c.args.count (is_plus c.args.wanted.now) c.args.reader.now)) c.loop-test.false c.loop.invariant
