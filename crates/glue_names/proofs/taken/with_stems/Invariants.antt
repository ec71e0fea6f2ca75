use Rattle.std.proofs.Common.{◌≡◌, map, drop}
use Rattle.values.specs.TextSet.{with_texts}
use Rattle.glue_names.specs.Taken.{numbered_by}
use Rattle.glue_names.proofs.taken.with_stems.Given as goal

abbrev pub invariant-loop-stem : goal.invariant-loop-stem
invariant-loop-stem g l =
    with_texts (g.N.Names.bound l.more) (numbered_by (map (λ w. w.now) (drop l.stem-index l.stems)) l.number)
    ≡ with_texts (g.N.Names.bound l.fn.scope) (numbered_by (map (λ w. w.now) l.stems) l.number)
