use Rattle.std.proofs.Common.{arith}
use Rattle.glue_json.proofs.Lists.{list_of_items}
use Rattle.glue_json.proofs.kinds.SeqReads.read.Goals as goal

pub returns-in_ok-read_items-in-Some-clause-ok : goal.returns-in_ok-read_items-in-Some-clause-ok
returns-in_ok-read_items-in-Some-clause-ok g c = grind (arith, list_of_items)

pub returns-in_err-read_items-in-Some-clause-failed : goal.returns-in_err-read_items-in-Some-clause-failed
returns-in_err-read_items-in-Some-clause-failed g c = grind (arith, list_of_items)
