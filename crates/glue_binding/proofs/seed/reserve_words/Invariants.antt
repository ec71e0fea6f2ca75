use Rattle.std.proofs.Common.{◌≡◌, take}
use Rattle.values.specs.TextSet.{with_texts}
use Rattle.glue_binding.specs.Outer.{outer_list}
use Rattle.glue_binding.proofs.seed.reserve_words.Given as goal

abbrev pub invariant-loop-word : goal.invariant-loop-word
invariant-loop-word g l = g.N.Names.bound l.scope ≡ with_texts (g.N.Names.bound l.initial.scope)
    (outer_list (take l.word-index l.words))
