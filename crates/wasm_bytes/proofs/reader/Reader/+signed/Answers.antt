use Rattle.std.proofs.Common.{arith, ◌-◌, ◌*◌, ◌^◌, ◌≡◌, ◌∙◌, sym, inl, inr}
use Rattle.std.specs.Prelude.{pos, ◌+ℤ◌, ◌*ℤ◌}
use Rattle.std.specs.Int.{w64}
use Rattle.std.proofs.lemmas.Int.{to_z-of_z}
use Rattle.wasm_bytes.specs.Signed.{IsWithin}
use Rattle.wasm_bytes.proofs.NumberSteps.{scaled, digit_within, last_within, more_within, high_fits, within_fits, signed-end, signed-refused, signed-short, signed-last}
use Rattle.wasm_bytes.proofs.reader.Reader.+signed.Goals as goal
use Rattle.wasm_bytes.proofs.reader.Reader.+signed.Goals.{else-byte-lt128-via-then-byte-lt128+else-is_last, else-byte-lt128-via-else-byte-lt128}

pub returns-then-is_last-clause-value : goal.returns-then-is_last-clause-value
returns-then-is_last-clause-value t c =
    rw (to_z-of_z w64 c.digit.result (record { sfits = c.digit.type_inv }), c.digit.ensures)
    (signed-end c.args.start c.args.more c.args.room _ _ _ c.if-more-eq0.true c.in_ok-byte.ensures.value c.if-byte-lt128.true c.if-is_last.ensures.value)

pub returns-then-is_last-clause-bound : goal.returns-then-is_last-clause-bound
returns-then-is_last-clause-bound t c =
    let one : c.args.room * 128 ^ c.args.more ≡ c.args.room = rw c.if-more-eq0.true (grind arith) in
    rw (to_z-of_z w64 c.digit.result (record { sfits = c.digit.type_inv }), one)
    (last_within c.args.room c.in_ok-byte.byte _ c.requires.few c.if-byte-lt128.true (c.is_last.ensures.cases c.if-is_last.true) c.digit.ensures)

pub returns-then-more-eq0-clause-value : goal.returns-then-more-eq0-clause-value
returns-then-more-eq0-clause-value t c =
    let is_refused = signed-refused c.args.start c.args.more c.args.room _ _ _ c.if-more-eq0.true c.in_ok-byte.ensures.value in
    elim c.else-byte-lt128.branch [
      | else-byte-lt128-via-then-byte-lt128+else-is_last w ↦ is_refused (inr (sym w.is_last.ensures.value ∙ w.if-is_last.false))
      | else-byte-lt128-via-else-byte-lt128 w ↦ is_refused (inl w.if-byte-lt128.false)
    ]

pub returns-then-byte-lt128-2-clause-value : goal.returns-then-byte-lt128-2-clause-value
returns-then-byte-lt128-2-clause-value t c =
    let d = c.digit-then-byte-lt128-2 in
    rw (to_z-of_z w64 d.result (record { sfits = d.type_inv }), d.ensures)
    (signed-short c.args.start c.args.more c.args.room _ _ _ (omega arith) c.in_ok-byte.ensures.value c.if-byte-lt128-2.true)

pub returns-then-byte-lt128-2-clause-bound : goal.returns-then-byte-lt128-2-clause-bound
returns-then-byte-lt128-2-clause-bound t c =
    let is : IsWithin (c.args.room * 128 ^ c.args.more) c.digit-then-byte-lt128-2.result = digit_within c.args.room c.args.more c.in_ok-byte.byte _ (omega arith) c.requires.some c.if-byte-lt128-2.true c.digit-then-byte-lt128-2.ensures in
    rw (to_z-of_z w64 c.digit-then-byte-lt128-2.result (within_fits (c.args.room * 128 ^ c.args.more) c.digit-then-byte-lt128-2.result c.requires.fits is)) is

pub signed-requires : goal.signed-requires
signed-requires t c =
    let e = scaled c.args.room c.args.more (omega arith) in
    (omega arith, (c.requires.some, (c.requires.few, omega (arith, e))))

pub joined-requires : goal.joined-requires
joined-requires t c =
    let e = scaled c.args.room c.args.more (omega arith) in
    let n = c.args.room * 128 ^ (c.args.more - 1) in
    let high = c.in_ok-high.high in
    let fits = c.in_ok-high.ensures.bound in
    let back = to_z-of_z w64 high (within_fits n high (omega (arith, e)) fits) in
    record {
      more = c.if-byte-lt128-2.false;
      high = rw back (high_fits n high (omega (arith, e)) fits);
      fits = rw back (within_fits (c.args.room * 128 ^ c.args.more) _ c.requires.fits (more_within (c.args.room * 128 ^ c.args.more) n c.in_ok-byte.byte high e c.if-byte-lt128-2.false c.in_ok-byte.ensures.bound fits));
    }

pub returns-clause-value : goal.returns-clause-value
returns-clause-value t c =
    let e = scaled c.args.room c.args.more (omega arith) in
    let n = c.args.room * 128 ^ (c.args.more - 1) in
    let high = c.in_ok-high.high in
    let fits = c.in_ok-high.ensures.bound in
    let back = to_z-of_z w64 high (within_fits n high (omega (arith, e)) fits) in
    let is : c.joined.result ≡ pos (c.in_ok-byte.byte - 128) +ℤ (pos 128 *ℤ high) = rw back at c.joined.ensures in
    let all = within_fits (c.args.room * 128 ^ c.args.more) _ c.requires.fits (more_within (c.args.room * 128 ^ c.args.more) n c.in_ok-byte.byte high e c.if-byte-lt128-2.false c.in_ok-byte.ensures.bound fits) in
    rw (is, to_z-of_z w64 _ all) (signed-last c.args.start c.args.more c.args.room _ high _ _ _ (omega arith) c.in_ok-byte.ensures.value c.if-byte-lt128-2.false c.in_ok-high.ensures.value)

pub returns-clause-bound : goal.returns-clause-bound
returns-clause-bound t c =
    let e = scaled c.args.room c.args.more (omega arith) in
    let n = c.args.room * 128 ^ (c.args.more - 1) in
    let high = c.in_ok-high.high in
    let fits = c.in_ok-high.ensures.bound in
    let back = to_z-of_z w64 high (within_fits n high (omega (arith, e)) fits) in
    let is : c.joined.result ≡ pos (c.in_ok-byte.byte - 128) +ℤ (pos 128 *ℤ high) = rw back at c.joined.ensures in
    let within = more_within (c.args.room * 128 ^ c.args.more) n c.in_ok-byte.byte high e c.if-byte-lt128-2.false c.in_ok-byte.ensures.bound fits in
    rw (is, to_z-of_z w64 _ (within_fits (c.args.room * 128 ^ c.args.more) _ c.requires.fits within)) within
