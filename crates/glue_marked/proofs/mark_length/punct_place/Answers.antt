use Rattle.std.proofs.Common.{◌∙◌, sym}
use Rattle.glue_words.specs.Tables.{punct_table, punct_text}
use Rattle.glue_marked.specs.Marked.{punct_place}
use Rattle.glue_marked.proofs.MarkedSteps.{place_hit, place_miss, place_end}
use Rattle.glue_marked.proofs.mark_length.punct_place.Goals as goal

pub returns-then-eq : goal.returns-then-eq
unfolding punct_text punct_place
returns-then-eq c =
    sym (place_hit c.args.text.now c.as_bytes.result.now punct_table c.loop-place.place c.loop-place-test.true
    (c.as_bytes.ensures.value ∙ c.punct_text.ensures.text) (sym c.eq.ensures ∙ c.if-eq.true))
    ∙ c.loop-place.invariant

pub loop-place-preserved : goal.loop-place-preserved
unfolding punct_text
loop-place-preserved c =
    sym (place_miss c.args.text.now c.as_bytes.result.now punct_table c.loop-place.place c.loop-place-test.true
    (c.as_bytes.ensures.value ∙ c.punct_text.ensures.text) (sym c.eq.ensures ∙ c.if-eq.false))
    ∙ c.loop-place.invariant

pub returns : goal.returns
unfolding punct_place
returns c =
    sym (place_end c.args.text.now punct_table c.loop-place.place c.loop-place-test.false) ∙ c.loop-place.invariant
