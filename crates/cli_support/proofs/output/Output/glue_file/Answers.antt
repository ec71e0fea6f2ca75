use Rattle.std.proofs.Common.{rules}
use Rattle.cli_support.proofs.output.Output.glue_file.Goals as goal

pub returns : goal.returns
returns c = record { file = search rules }
