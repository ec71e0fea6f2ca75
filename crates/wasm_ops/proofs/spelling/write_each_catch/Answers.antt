use Rattle.std.proofs.Common.{refl, sym, ap, ◌++◌, ◌∙◌}
use Rattle.std.proofs.lemmas.List.Folds.{flat_map-map}
use Rattle.wasm_ops.specs.Numbers.{renumbered_catch}
use Rattle.wasm_ops.specs.Spelling.{catch_bytes}
use Rattle.wasm_ops.proofs.Written.{written, all_written}
use Rattle.wasm_ops.proofs.spelling.write_each_catch.Goals as goal

pub loop-clause-preserved : goal.loop-clause-preserved
loop-clause-preserved c = written (λ x. catch_bytes (renumbered_catch c.args.numbers.now x)) c.args.clauses.now c.loop-clause.clause-index _ _ c.args.out.now.items c.loop-clause.out.items c.write_catch.new.out.items c.loop-clause-test.true refl c.in_ok-write_catch.ensures c.loop-clause.invariant

pub returns : goal.returns
returns c = all_written (λ x. catch_bytes (renumbered_catch c.args.numbers.now x)) c.args.clauses.now c.loop-clause.clause-index c.args.out.now.items c.loop-clause.out.items c.loop-clause-test.false c.loop-clause.invariant ∙ ap (λ l. c.args.out.now.items ++ l) (sym (flat_map-map catch_bytes (renumbered_catch c.args.numbers.now) c.args.clauses.now))
