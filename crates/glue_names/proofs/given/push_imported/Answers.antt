use Rattle.glue_names.specs.Omitted.{begun}
use Rattle.glue_names.specs.Once.{each_once}
use Rattle.glue_names.proofs.GivenNames.{none_pushed}
use Rattle.glue_names.proofs.given.push_imported.Goals as goal

pub returns-then-not-omitted : goal.returns-then-not-omitted
returns-then-not-omitted c = record { pushed = none_pushed c.args.omitted (each_once (begun c.args.imports.now)) c.args.list.now c.if-not-omitted.true }
