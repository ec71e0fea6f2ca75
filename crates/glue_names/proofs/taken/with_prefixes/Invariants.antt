use Rattle.std.proofs.Common.{◌≡◌, ◌++◌, map, drop}
use Rattle.values.specs.TextSet.{with_texts}
use Rattle.glue_names.proofs.taken.with_prefixes.Given as goal

abbrev pub invariant-loop-prefix : goal.invariant-loop-prefix
invariant-loop-prefix g l =
    with_texts (g.N.Names.bound l.more) (map (λ prefix. prefix ++ l.name) (drop l.prefix-index l.prefixes))
    ≡ with_texts (g.N.Names.bound l.fn.scope) (map (λ prefix. prefix ++ l.name) l.prefixes)
