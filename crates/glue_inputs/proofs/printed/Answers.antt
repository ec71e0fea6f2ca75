use Rattle.std.proofs.Common.{rules}
use Rattle.glue_inputs.proofs.printed.Goals as goal

pub returns : goal.returns
returns c = search rules
