use Rattle.std.proofs.Common.{◌∙◌, sym}
use Rattle.glue_words.specs.Tables.{key_table, key_text}
use Rattle.glue_marked.specs.Marked.{key_place}
use Rattle.glue_marked.proofs.MarkedSteps.{place_hit, place_miss, place_end}
use Rattle.glue_marked.proofs.mark_length.key_place.Goals as goal

pub returns-then-eq : goal.returns-then-eq
unfolding key_text key_place
returns-then-eq c =
    sym (place_hit c.args.text.now c.as_bytes.result.now key_table c.loop-place.place c.loop-place-test.true
    (c.as_bytes.ensures.value ∙ c.key_text.ensures.text) (sym c.eq.ensures ∙ c.if-eq.true))
    ∙ c.loop-place.invariant

pub loop-place-preserved : goal.loop-place-preserved
unfolding key_text
loop-place-preserved c =
    sym (place_miss c.args.text.now c.as_bytes.result.now key_table c.loop-place.place c.loop-place-test.true
    (c.as_bytes.ensures.value ∙ c.key_text.ensures.text) (sym c.eq.ensures ∙ c.if-eq.false))
    ∙ c.loop-place.invariant

pub returns : goal.returns
unfolding key_place
returns c =
    sym (place_end c.args.text.now key_table c.loop-place.place c.loop-place-test.false) ∙ c.loop-place.invariant
