use Rattle.std.proofs.Common.{arith, ◌-◌}
use Rattle.wasm_bytes.proofs.NumberSteps.{scaled, some_scaled, unsigned-end, unsigned-refused, unsigned-short, unsigned-last}
use Rattle.wasm_bytes.proofs.reader.Reader.+unsigned.Goals as goal

pub returns-then-byte-last-clause-value : goal.returns-then-byte-last-clause-value
returns-then-byte-last-clause-value t c = unsigned-end c.args.start c.args.more c.args.last _ _ _ c.if-more-eq0.true c.in_ok-byte.ensures.value c.if-byte-last.true

pub returns-then-more-eq0-clause-value : goal.returns-then-more-eq0-clause-value
returns-then-more-eq0-clause-value t c = unsigned-refused c.args.start c.args.more c.args.last _ _ _ c.if-more-eq0.true c.in_ok-byte.ensures.value c.if-byte-last.false

pub returns-then-byte-lt128-clause-value : goal.returns-then-byte-lt128-clause-value
returns-then-byte-lt128-clause-value t c = unsigned-short c.args.start c.args.more c.args.last _ _ _ (omega arith) c.in_ok-byte.ensures.value c.if-byte-lt128.true

pub returns-then-byte-lt128-clause-bound : goal.returns-then-byte-lt128-clause-bound
returns-then-byte-lt128-clause-bound t c = omega (arith, scaled c.args.last c.args.more (omega arith), some_scaled c.args.last (c.args.more - 1) c.requires.some)

pub unsigned-requires : goal.unsigned-requires
unsigned-requires t c =
    let e = scaled c.args.last c.args.more (omega arith) in
    (omega arith, (c.requires.some, omega (arith, e)))

pub overflow_mul-result : goal.overflow_mul-result
overflow_mul-result t c = omega (arith, scaled c.args.last c.args.more (omega arith), c.in_ok-high.ensures.bound)

pub overflow_add-result : goal.overflow_add-result
overflow_add-result t c = omega (arith, scaled c.args.last c.args.more (omega arith), c.in_ok-high.ensures.bound, c.in_ok-byte.ensures.bound)

pub returns-clause-value : goal.returns-clause-value
returns-clause-value t c = unsigned-last c.args.start c.args.more c.args.last _ _ _ _ _ (omega arith) c.in_ok-byte.ensures.value c.if-byte-lt128.false c.in_ok-high.ensures.value

pub returns-clause-bound : goal.returns-clause-bound
returns-clause-bound t c = omega (arith, scaled c.args.last c.args.more (omega arith), c.in_ok-high.ensures.bound)
