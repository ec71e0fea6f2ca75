use Rattle.std.proofs.Common.{◌<◌, ◌+◌, ℕ, drop, slice_index_or, subst, sym, ◌∙◌, arith}
use Rattle.std.specs.List.{fold}
use Rattle.std.proofs.lemmas.List.{at_drop_more}
use Rattle.demangle_core.specs.Reading.{digit_added}
use Rattle.demangle_core.proofs.Numbers.{grows}
use Rattle.demangle_core.proofs.reading.number.Goals as goal

pub returns-in-None : goal.returns-in-None
returns-in-None c =
    let base = c.args.base in
    let digits = c.args.digits.now in
    let place = c.loop-digit.digit-index in
    let sum = digit_added base c.loop-digit.number (slice_index_or digits place 0) in
    let step = at_drop_more (fold (digit_added base) c.loop-digit.number) digits place 0 c.loop-digit-test.true in
    let large = c.in-None.ensures.sum in
    let fits = c.ranges.most.fits in
    let more = grows base c.requires.base sum (drop (place + 1) digits) in
    record { number = subst (λ (n : ℕ). c.args.most < n) (sym step ∙ c.loop-digit.invariant) (omega (arith, large, fits, more)) }
