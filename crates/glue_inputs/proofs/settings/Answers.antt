use Rattle.std.proofs.Common.{rules}
use Rattle.glue_inputs.proofs.settings.Goals as goal

pub returns : goal.returns
returns c = search rules
