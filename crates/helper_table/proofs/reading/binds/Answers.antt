use Rattle.std.proofs.Common.{true≢false, refl, sym, ◌∙◌}
use Rattle.helper_table.proofs.Steps.{declared_in, away_next}
use Rattle.helper_table.proofs.reading.binds.Goals as goal

pub returns-then-declares : goal.returns-then-declares
returns-then-declares c = record {
  test = (
    λ h. declared_in c.args.words.now c.loop-word.word-index c.word-item.result c.args.name.now c.loop-word-test.true c.word-item.is
        (c.declares.ensures.test.0 c.if-declares.true),
    λ h. refl,
  );
}

pub loop-word-preserved : goal.loop-word-preserved
loop-word-preserved c =
    away_next c.args.words.now c.loop-word.word-index c.word-item.result c.args.name.now c.loop-word-test.true c.word-item.is
    (λ e. true≢false (sym (c.declares.ensures.test.1 e) ∙ c.if-declares.false)) c.loop-word.invariant
