use Rattle.std.proofs.Common.{◌≡◌, ◌<◌, ◌^◌, drop}
use Rattle.std.specs.Prelude.{Some}
use Rattle.std.specs.List.{fold}
use Rattle.glue_marked.specs.Marked.{digit_added}
use Rattle.glue_marked.proofs.mark_word.number_word.Given as goal

abbrev pub invariant-loop-digit : goal.invariant-loop-digit
invariant-loop-digit l = record {
  fits : l.number < 2 ^ 63;
  rest : fold digit_added (Some l.number) (drop l.digit-index l.digits) ≡ fold digit_added (Some 0) l.digits;
}
