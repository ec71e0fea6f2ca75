use Rattle.std.proofs.Common.{rules}
use Rattle.cli_support.specs.Emission.{too_large}
use Rattle.glue_run.proofs.Outcomes.{unlisted}
use Rattle.glue_run.proofs.running.deliver.Goals as goal

pub returns-in-Ok : goal.returns-in-Ok
returns-in-Ok c = search rules

pub returns-in-Err-OutOfMemory : goal.returns-in-Err-OutOfMemory
returns-in-Err-OutOfMemory g c = record { answered = λ bytes is comes. unlisted bytes c.args.made.now (too_large c.args.made.now.«module») _ _ is comes }
