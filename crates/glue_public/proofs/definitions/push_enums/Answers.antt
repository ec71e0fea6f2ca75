use Rattle.glue_public.specs.Described.{enum_definition}
use Rattle.glue_public.proofs.Steps.{pushed_next}
use Rattle.glue_public.proofs.definitions.push_enums.Goals as goal

pub loop-one-preserved : goal.loop-one-preserved
loop-one-preserved c =
    pushed_next (enum_definition c.args.names.now) c.args.enums.now c.loop-one.one-index c.one-item.result c.in_ok-described_enum.field-0
    c.args.definitions.now c.loop-one.definitions c.push.new.self c.loop-one-test.true c.one-item.is
    c.in_ok-described_enum.ensures.definition c.loop-one.invariant c.in_ok-push.ensures.ok
