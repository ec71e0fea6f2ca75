use Rattle.std.proofs.Common.{length, sym, ap, arith}
use Rattle.wasm_bytes.proofs.NumberSteps.{shortest-last, shortest-more}
use Rattle.wasm_bytes.proofs.number.+shortest_len.Goals as goal

pub returns-then-more-eq0-clause-len : goal.returns-then-more-eq0-clause-len
returns-then-more-eq0-clause-len t c = ap (λ bytes. length bytes) (sym (shortest-last c.args.more c.args.value c.then-more-eq0.either))

pub returns-clause-len : goal.returns-clause-len
returns-clause-len t c = rw (shortest-more c.args.more c.args.value (omega arith) c.if-value-lt128.false) (omega (arith, c.shortest_len.ensures.len))
