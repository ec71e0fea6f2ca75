use Rattle.std.proofs.Common.{◌≡◌, map, drop}
use Rattle.values.specs.TextSet.{with_texts}
use Rattle.glue_names.proofs.taken.with_names.Given as goal

abbrev pub invariant-loop-word : goal.invariant-loop-word
invariant-loop-word g l =
    with_texts (g.N.Names.bound l.more) (map (λ w. w.now) (drop l.word-index l.words)) ≡ with_texts (g.N.Names.bound l.fn.scope) (map (λ w. w.now) l.words)
