use Rattle.std.proofs.Common.{arith}
use Rattle.std.proofs.lemmas.Grind.{common_steps}
use Rattle.std.proofs.lemmas.Result.{err_from_is_err_and}
use Rattle.wasm_bytes.proofs.Loop.{each_more, each_ends, each_done}
use Rattle.wasm_file.specs.Sections.{function_body}
use Rattle.wasm_file.proofs.lists.read_bodies.Goals as goal

pub returns-in_err-read_body_of-clause-value : goal.returns-in_err-read_body_of-clause-value
returns-in_err-read_body_of-clause-value c =
    let p = err_from_is_err_and c.from_residual.result c.from_residual.ensures.1 in
    rw (p.1, p.2) (each_ends (function_body c.args.counts.now c.args.types.now) c.args.functions.now c.loop-ty.ty-index _ c.in_err-read_body_of.field-0.0 c.loop-ty.found c.loop-ty.reader _ c.loop-ty-test.true c.in_err-read_body_of.ensures c.loop-ty.invariant.value)

pub loop-ty-preserved : goal.loop-ty-preserved
loop-ty-preserved c = record {
  value = rw c.in_ok-push.ensures.ok (each_more (function_body c.args.counts.now c.args.types.now) c.args.functions.now c.loop-ty.ty-index _ c.loop-ty.found c.loop-ty.reader c.in_ok-read_body_of.field-0 c.read_body_of.new.reader _ c.loop-ty-test.true c.in_ok-read_body_of.ensures c.loop-ty.invariant.value);
  len = rw c.in_ok-push.ensures.ok (grind (arith, common_steps));
}

pub returns-clause-value : goal.returns-clause-value
returns-clause-value c = each_done (function_body c.args.counts.now c.args.types.now) c.args.functions.now c.loop-ty.ty-index c.loop-ty.found c.loop-ty.reader _ c.loop-ty-test.false c.loop-ty.invariant.value
