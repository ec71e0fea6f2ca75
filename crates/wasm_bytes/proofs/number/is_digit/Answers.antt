use Rattle.std.proofs.Common.{refl}
use Rattle.std.specs.Int.{w64}
use Rattle.std.proofs.lemmas.Int.{to_z-of_z}
use Rattle.wasm_bytes.proofs.number.is_digit.Goals as goal

pub returns-then-value-geminus64 : goal.returns-then-value-geminus64
returns-then-value-geminus64 c =
    let back = to_z-of_z w64 c.args.value c.ranges.value in
    rw (back, rw back at c.if-value-geminus64.true) refl
