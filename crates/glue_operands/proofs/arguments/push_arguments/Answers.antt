use Rattle.std.proofs.Common.{◌≡◌, ◌==◌, ◌+◌, ℕ, false, ap, ◌∙◌, arith}
use Rattle.std.proofs.lemmas.Bool.Decides.{nat_tests}
use Rattle.std.proofs.Common.{◌++◌, map, drop}
use Rattle.glue_operands.specs.Plainly.{plain_operand}
use Rattle.glue_operands.specs.Spelling.{arguments_words}
use Rattle.glue_operands.proofs.Written.{next_argument}
use Rattle.glue_operands.proofs.arguments.push_arguments.Goals as goal

not_first : (n : ℕ) → (n + 1 == 0) ≡ false
not_first n = grind (arith, nat_tests)

pub loop-place-preserved : goal.loop-place-preserved
loop-place-preserved c =
    let operands = c.args.operands.now in
    let place = c.loop-place.place in
    let spread = c.args.spread in
    ap (λ b. c.push_argument.new.words ++ arguments_words b spread (map plain_operand (drop (place + 1) operands))) (not_first place)
    ∙ next_argument operands place c.index-operands-place.result spread _ _ _ c.loop-place-test.true c.index-operands-place.is
    c.in_ok-push_comma_unless.ensures.words (rw c.is_spread.ensures.test at c.in_ok-push_argument.ensures.words)
    ∙ c.loop-place.invariant
