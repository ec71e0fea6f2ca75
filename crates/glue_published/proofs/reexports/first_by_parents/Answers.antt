use Rattle.std.proofs.Common.{sym, ◌∙◌, take}
use Rattle.glue_published.specs.Sets.{holds}
use Rattle.glue_published.proofs.Seen.{bad_behind, seen_more, one_more, next_bad}
use Rattle.glue_published.proofs.reexports.first_by_parents.Goals as goal

pub returns-then-is_bad : goal.returns-then-is_bad
returns-then-is_bad c =
    let all = c.args.reexports.now in
    let place = c.loop-reexport.reexport-index in
    let one = c.reexport-item.result in
    let was = c.loop-reexport.invariant in record {
      first = sym (next_bad c.args.settings.now (holds c.args.parents.now) all place one _ c.loop-reexport-test.true c.reexport-item.is
          (bad_behind _ _ _ (take place all) was.0 c.args.settings.now one _ _ c.if-is_bad.ensures.test c.is_parent-has_members.ensures.test)) ∙ was.1;
    }

pub loop-reexport-preserved : goal.loop-reexport-preserved
loop-reexport-preserved c =
    let all = c.args.reexports.now in
    let place = c.loop-reexport.reexport-index in
    let one = c.reexport-item.result in
    let was = c.loop-reexport.invariant in (
      rw (c.in_ok-add.ensures.all, c.in_ok-add.ensures.with_members, c.is_parent-has_members.ensures.test, one_more all place one c.loop-reexport-test.true c.reexport-item.is)
          (seen_more _ _ _ (take place all) was.0 one),
      sym (next_bad c.args.settings.now (holds c.args.parents.now) all place one _ c.loop-reexport-test.true c.reexport-item.is
          (bad_behind _ _ _ (take place all) was.0 c.args.settings.now one _ _ c.if-is_bad.ensures.test c.is_parent-has_members.ensures.test)) ∙ was.1,
    )
