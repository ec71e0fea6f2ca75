use Rattle.glue_run.proofs.Outcomes.{made_from, refused_from}
use Rattle.glue_run.proofs.running.generate.Goals as goal

pub returns-clause-made : goal.returns-clause-made
returns-clause-made c = made_from c.args.bytes.items c.in_ok-generator.generator c.generate_output.result c.in_ok-generator.ensures.set c.generate_output.ensures.made

pub returns-clause-cause : goal.returns-clause-cause
returns-clause-cause c = refused_from c.args.bytes.items c.in_ok-generator.generator c.generate_output.result c.in_ok-generator.ensures.set c.generate_output.ensures.cause
