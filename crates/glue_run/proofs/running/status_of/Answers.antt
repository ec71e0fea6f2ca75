use Rattle.std.proofs.Common.{rules}
use Rattle.glue_run.proofs.running.status_of.Goals as goal

pub returns-in-Failed : goal.returns-in-Failed
returns-in-Failed c = search rules
