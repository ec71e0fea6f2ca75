use Rattle.std.proofs.Common.{◌≡◌, [], take, drop}
use Rattle.glue_faults.specs.First.{first_after}
use Rattle.glue_published.specs.Reexports.{is_bad_reexport, AreSeen}
use Rattle.glue_published.specs.Sets.{holds}
use Rattle.glue_published.proofs.reexports.first_by_parents.Given as goal

abbrev pub invariant-loop-reexport : goal.invariant-loop-reexport
invariant-loop-reexport l =
    AreSeen l.seen.all l.seen.with_members (holds l.parents) (take l.reexport-index l.reexports)
    × (first_after (is_bad_reexport l.settings (holds l.parents)) (take l.reexport-index l.reexports) (drop l.reexport-index l.reexports)
    ≡ first_after (is_bad_reexport l.settings (holds l.parents)) [] l.reexports)
