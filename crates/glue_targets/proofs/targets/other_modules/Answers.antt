use Rattle.std.proofs.Common.{List, ◌+◌, ◌++◌, drop, ap, sym, ◌∙◌, append_assoc}
use Rattle.glue_words.specs.declared.word.Word.{Word}
use Rattle.glue_targets.specs.Targets.{module_words, modules_words}
use Rattle.glue_targets.proofs.FrameEnd.{modules_next}
use Rattle.glue_targets.proofs.targets.other_modules.Goals as goal

pub loop-place-preserved : goal.loop-place-preserved
loop-place-preserved c =
    let i = c.loop-place.place in
    let path = c.index-modules-place.result in
    let rest = modules_words (i + 1 + 1) (drop (i + 1) c.args.modules.now) in
    ap (λ (words : List Word). words ++ rest)
    (c.in_ok-append.ensures.ok ∙ ap (λ (more : List Word). c.loop-place.words ++ more)
    (c.in_ok-module_words.ensures.words ∙ ap (module_words (i + 1)) c.in_ok-copy.ensures.equal))
    ∙ append_assoc c.loop-place.words (module_words (i + 1) path) rest
    ∙ ap (λ (more : List Word). c.loop-place.words ++ more)
    (sym (modules_next c.args.modules.now i (i + 1) path c.loop-place-test.true c.index-modules-place.is))
    ∙ c.loop-place.invariant
