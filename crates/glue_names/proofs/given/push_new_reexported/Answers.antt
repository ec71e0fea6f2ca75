use Rattle.glue_names.specs.Omitted.{begun, reexported}
use Rattle.glue_names.specs.Once.{each_new}
use Rattle.glue_names.proofs.GivenNames.{none_pushed}
use Rattle.glue_names.proofs.given.push_new_reexported.Goals as goal

pub returns-then-not-omitted : goal.returns-then-not-omitted
returns-then-not-omitted c = record {
  pushed = none_pushed c.args.omitted (each_new (begun c.args.imports.now) (reexported c.args.reexports.now)) c.args.list.now c.if-not-omitted.true;
}
