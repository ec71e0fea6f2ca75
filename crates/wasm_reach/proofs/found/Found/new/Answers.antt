use Rattle.wasm_reach.proofs.MarkSteps.{marked_none}
use Rattle.wasm_reach.proofs.found.Found.new.Goals as goal

pub invariant_of-result : goal.invariant_of-result
invariant_of-result c = rw (c.in_ok-new.ensures, c.new-2.ensures.items) (marked_none c.args.sizes.now)
