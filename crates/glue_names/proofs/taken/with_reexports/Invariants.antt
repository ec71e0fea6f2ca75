use Rattle.std.proofs.Common.{◌≡◌, drop}
use Rattle.std.specs.List.{flat_map}
use Rattle.values.specs.TextSet.{with_texts}
use Rattle.glue_shared.specs.Names.{described_hosts}
use Rattle.glue_names.proofs.taken.with_reexports.Given as goal

abbrev pub invariant-loop-reexport : goal.invariant-loop-reexport
invariant-loop-reexport g l =
    with_texts (g.N.Names.bound l.more) (flat_map (λ r. described_hosts l.omitted r.1.name) (drop l.reexport-index l.reexports))
    ≡ with_texts (g.N.Names.bound l.fn.scope) (flat_map (λ r. described_hosts l.omitted r.1.name) l.reexports)
