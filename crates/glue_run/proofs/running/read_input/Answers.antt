use Rattle.std.proofs.Common.{rules}
use Rattle.glue_run.proofs.running.read_input.Goals as goal

pub returns : goal.returns
returns c = search rules
