use Rattle.std.proofs.Common.{◌≡◌, ◌==◌, ◌+◌, ◌++◌, ℕ, false, ap, ◌∙◌, drop, arith}
use Rattle.std.proofs.lemmas.Bool.Decides.{nat_tests}
use Rattle.glue_operands.specs.Form.{printed_parameters}
use Rattle.glue_operands.proofs.Written.{next_parameter}
use Rattle.glue_operands.proofs.parameters.push_parameters.Goals as goal

not_first : (n : ℕ) → (n + 1 == 0) ≡ false
not_first n = grind (arith, nat_tests)

pub loop-place-preserved : goal.loop-place-preserved
loop-place-preserved c =
    let names = c.args.names.now in
    let place = c.loop-place.place in
    let gathers = c.args.gathers in
    ap (λ b. c.push_parameter.new.words ++ printed_parameters b gathers (drop (place + 1) names)) (not_first place)
    ∙ next_parameter names place c.index-names-place.result gathers _ _ _ c.loop-place-test.true c.index-names-place.is
    c.in_ok-push_comma_unless.ensures.words (rw c.is_spread.ensures.test at c.in_ok-push_parameter.ensures.words)
    ∙ c.loop-place.invariant
