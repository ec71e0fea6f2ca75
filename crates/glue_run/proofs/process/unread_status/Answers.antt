use Rattle.std.proofs.Common.{rules}
use Rattle.glue_run.proofs.process.unread_status.Goals as goal

pub returns-in-OutOfMemory : goal.returns-in-OutOfMemory
returns-in-OutOfMemory c = search rules
