use Rattle.std.proofs.Common.{◌++◌, ap, ◌∙◌, sym, arith}
use Rattle.wasm_code.proofs.RunSteps.{skips, begins, joins, parts}
use Rattle.wasm_code.proofs.locals.add_run.Goals as goal

pub returns-then-run-eq0 : goal.returns-then-run-eq0
returns-then-run-eq0 c = λ rs. ap (λ xs. c.args.done.now ++ xs) (skips c.args.last c.args.run rs c.if-run-eq0.true)

pub returns-in-None : goal.returns-in-None
returns-in-None c = λ rs. rw c.in-None.is (ap (λ xs. c.args.done.now ++ xs) (begins c.args.run rs (omega arith)))

pub returns-in-Some-joined_pair : goal.returns-in-Some-joined_pair
returns-in-Some-joined_pair c = λ rs. rw c.in-Some.is (ap (λ xs. c.args.done.now ++ xs) (joins c.in-Some.before c.args.run c.in-Some-joined_pair.both rs (omega arith) (sym c.joined_pair.ensures ∙ c.in-Some-joined_pair.is)))

pub returns-in_ok-push-in-None-joined_pair : goal.returns-in_ok-push-in-None-joined_pair
returns-in_ok-push-in-None-joined_pair c = λ rs. rw (c.in-Some.is, c.in_ok-push-in-None-joined_pair.ensures.ok) (parts c.args.done.now c.in-Some.before c.args.run rs (omega arith) (sym c.joined_pair.ensures ∙ c.in-None-joined_pair.is))
