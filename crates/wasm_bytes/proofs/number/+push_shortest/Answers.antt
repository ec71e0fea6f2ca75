use Rattle.std.proofs.Common.{◌++◌, sym, ap, ◌∙◌, arith}
use Rattle.wasm_bytes.proofs.NumberSteps.{shortest-last, shortest-more}
use Rattle.std.proofs.lemmas.Grind.{common_steps}
use Rattle.wasm_bytes.proofs.number.+push_shortest.Goals as goal

pub returns : goal.returns
returns t c = let e = shortest-more c.args.more c.args.value (omega arith) c.if-value-lt128.false in rw e (grind (arith, common_steps))

pub returns-then-more-eq0 : goal.returns-then-more-eq0
returns-then-more-eq0 t c = c.in_ok-push.ensures.items ∙ ap (λ xs. c.args.out.now.items ++ xs) (sym (shortest-last c.args.more c.args.value c.then-more-eq0.either))
