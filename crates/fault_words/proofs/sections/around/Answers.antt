use Rattle.std.proofs.Common.{sym, ◌∙◌}
use Rattle.fault_words.proofs.Around.{around_goes_on, around_out, around_stops}
use Rattle.fault_words.proofs.sections.around.Goals.{else-loop-test, then-loop-test+then-is_there}
use Rattle.fault_words.proofs.sections.around.Goals as goal

pub loop-preserved : goal.loop-preserved
loop-preserved c =
    let h = sym c.is_there.ensures.test ∙ c.if-is_there.false in
    let g = around_goes_on _ c.loop.counter c.loop.left c.loop.before.now c.loop.rest.now c.loop-test.true h in
    rw (c.ended_at-before.ensures.ended, c.behind-rest.ensures.rest, c.saturating_sub-left.ensures, c.size_of-size.ensures.size) (sym g ∙ c.loop.invariant)

pub returns : goal.returns
returns c = record {
  around = elim c.loop-test.branch [
    | else-loop-test w ↦ sym (around_out _ c.loop.counter c.loop.left c.loop.before.now c.loop.rest.now w.loop-test.false) ∙ c.loop.invariant
    | then-loop-test+then-is_there w ↦ sym (around_stops _ c.loop.left c.loop.before.now c.loop.rest.now (sym w.is_there.ensures.test ∙ w.if-is_there.true)) ∙ c.loop.invariant
  ];
}
