use Rattle.std.proofs.Common.{◌≡◌}
use Rattle.values.specs.TextSet.{with_texts}
use Rattle.glue_shared.specs.Names.{import_names}
use Rattle.glue_names.proofs.taken.with_import_names.Given as goal

abbrev pub invariant-loop-number : goal.invariant-loop-number
invariant-loop-number g l = with_texts (g.N.Names.bound l.more) (import_names l.number) ≡ with_texts (g.N.Names.bound l.fn.scope) (import_names l.last)

abbrev pub decreases-loop-number : goal.decreases-loop-number
decreases-loop-number g l = l.number
