use Rattle.std.proofs.Common.{arith, ◌∙◌, sym}
use Rattle.std.specs.Int.{w64}
use Rattle.std.proofs.lemmas.Int.{to_z-of_z}
use Rattle.std.proofs.lemmas.Grind.{common_steps}
use Rattle.wasm_bytes.proofs.SignedSteps.{shortest_signed-more}
use Rattle.wasm_bytes.proofs.number.+push_signed.Goals as goal

pub returns : goal.returns
returns t c =
    let back = to_z-of_z w64 c.args.value c.ranges.value in
    let big = rw back at (sym c.is_digit.ensures ∙ c.if-is_digit.false) in
    let e = shortest_signed-more c.args.more c.args.value (omega arith) big in
    let low = rw back at c.low_bits-2.ensures.value in
    let is = rw back at c.high_bits.ensures in
    let after = rw (to_z-of_z w64 c.high_bits.result (record { sfits = c.high_bits.type_inv })) at c.push_signed.ensures in
    rw (e, ← low, ← is) (grind (arith, common_steps, after))
