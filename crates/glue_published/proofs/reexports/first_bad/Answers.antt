use Rattle.std.proofs.Common.{[], ◌∙◌}
use Rattle.glue_published.specs.Reexports.{has_members}
use Rattle.glue_published.specs.Sets.{holds}
use Rattle.glue_published.proofs.Seen.{bad_alike}
use Rattle.glue_published.proofs.reexports.first_bad.Goals as goal

pub returns : goal.returns
returns c = record {
  first = c.in_ok-found.ensures.first
      ∙ bad_alike c.args.settings.now (holds c.in_ok-parents.parents) (has_members c.args.things.now) c.in_ok-parents.ensures.parents [] c.args.reexports.now;
}
