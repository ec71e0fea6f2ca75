use Rattle.std.proofs.Common.{length, ap, ◌∙◌, arith, rules}
use Rattle.glue_ends.proofs.Pieces.{taken_more, taken_kept, room_kept}
use Rattle.glue_ends.proofs.Refusals.{same_error, told_error, ok_no_error, rose_after}
use Rattle.glue_ends.proofs.reading.read_whole.Goals as goal

pub returns : goal.returns
returns g c = record {
  whole = search rules;
  failed = search rules;
  too_long = λ is. record { bytes = c.reading.bytes.items; taken = c.reading.invariant.taken; long = omega (arith, c.len.ensures, c.reading-test.false) };
  later = omega (arith, c.reading.invariant.kept);
  kept = λ _. c.reading.invariant.kept;
}

pub reading-preserved : goal.reading-preserved
reading-preserved g c = record {
  room = room_kept _ _ _ _ c.reading.buf.ok.0 c.reading.invariant.room (c.read_piece.auto.buf ∙ ap length c.as_mut_slice.ensures.value);
  taken = taken_more _ _ _ _ _ c.reading.invariant.taken c.in_ok-read_piece.ensures.taken;
  kept = c.read_piece.ensures.kept (ok_no_error _ c.in_ok-read_piece.was) ∙ c.reading.invariant.kept;
}

pub returns-in_err-read_piece : goal.returns-in_err-read_piece
returns-in_err-read_piece g c = record {
  whole = search rules;
  failed = λ is.
      let refused = c.read_piece.ensures.failed (same_error _ _ c.in_err-read_piece.was c.from_residual-in_err-read_piece.ensures.1 is) in
      (rose_after _ _ _ (omega (arith, c.reading.invariant.kept)) refused.0, record { bytes = c.reading.bytes.items; taken = taken_kept _ _ _ _ c.reading.invariant.taken refused.1; short = omega (arith, c.len.ensures, c.reading-test.true) });
  too_long = λ is. absurd (c.read_piece.ensures.not_too_long (same_error _ _ c.in_err-read_piece.was c.from_residual-in_err-read_piece.ensures.1 is));
  later = omega (arith, c.reading.invariant.kept, c.read_piece.ensures.later);
  kept = λ other. c.read_piece.ensures.kept (λ is. other (told_error _ _ c.in_err-read_piece.was c.from_residual-in_err-read_piece.ensures.1 is)) ∙ c.reading.invariant.kept;
}
