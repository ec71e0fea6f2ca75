use Rattle.std.proofs.Common.{length, arith, ◌∙◌, sym, ap, inl, inr}
use Rattle.std.specs.Int.{w64}
use Rattle.std.proofs.lemmas.Int.{to_z-of_z}
use Rattle.wasm_bytes.proofs.SignedSteps.{shortest_signed-last, shortest_signed-more}
use Rattle.wasm_bytes.proofs.number.+shortest_signed_len.Goals.{then-more-eq0-via-then-more-eq0, then-more-eq0-via-else-more-eq0+then-is_digit}
use Rattle.wasm_bytes.proofs.number.+shortest_signed_len.Goals as goal

pub returns-then-more-eq0-clause-len : goal.returns-then-more-eq0-clause-len
returns-then-more-eq0-clause-len t c =
    elim c.then-more-eq0.branch [
      | then-more-eq0-via-then-more-eq0 w ↦ ap (λ bytes. length bytes) (sym (shortest_signed-last c.args.more c.args.value (inl w.if-more-eq0.true)))
      | then-more-eq0-via-else-more-eq0+then-is_digit w ↦
          let back = to_z-of_z w64 c.args.value c.ranges.value in
          ap (λ bytes. length bytes) (sym (shortest_signed-last c.args.more c.args.value (inr (rw back at (sym w.is_digit.ensures ∙ w.if-is_digit.true)))))
    ]

pub returns-clause-len : goal.returns-clause-len
returns-clause-len t c =
    let back = to_z-of_z w64 c.args.value c.ranges.value in
    let big = rw back at (sym c.is_digit.ensures ∙ c.if-is_digit.false) in
    let is = rw back at c.high_bits.ensures in
    let after = rw (to_z-of_z w64 c.high_bits.result (record { sfits = c.high_bits.type_inv })) at c.shortest_signed_len.ensures.len in
    rw (shortest_signed-more c.args.more c.args.value (omega arith) big, ← is) (omega (arith, after))
