use Rattle.wasm_reach.specs.Marks.{is_marked}
use Rattle.wasm_collect.proofs.Collected.{left_is}
use Rattle.wasm_collect.proofs.collecting.collect.Goals as goal

pub returns-clause-left : goal.returns-clause-left
returns-clause-left c = left_is _ _ _ _ c.in_ok-marks.ensures c.keep.ensures

pub returns-clause-ok : goal.returns-clause-ok
returns-clause-ok c = record { kept = is_marked c.in_ok-marks.marks; reached = c.in_ok-marks.ensures; is_rest = c.keep.ensures }
