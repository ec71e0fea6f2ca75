use Rattle.std.proofs.Common.{◌≡◌, drop}
use Rattle.std.specs.List.{flat_map}
use Rattle.values.specs.TextSet.{with_texts}
use Rattle.glue_names.specs.Taken.{brought}
use Rattle.glue_names.proofs.taken.with_imports.Given as goal

abbrev pub invariant-loop-import : goal.invariant-loop-import
invariant-loop-import g l =
    with_texts (g.N.Names.bound l.more) (flat_map (λ i. brought l.omitted i.1) (drop l.import-index l.imports))
    ≡ with_texts (g.N.Names.bound l.fn.scope) (flat_map (λ i. brought l.omitted i.1) l.imports)
