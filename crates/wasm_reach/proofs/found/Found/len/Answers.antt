use Rattle.std.proofs.Common.{arith, length, ◌≤◌}
use Rattle.std.proofs.lemmas.Grind.{common_steps}
use Rattle.wasm_reach.specs.Marks.{room}
use Rattle.wasm_reach.proofs.MarkSteps.{few_found}
use Rattle.wasm_reach.proofs.found.Found.len.Goals as goal

pub returns-clause-few : goal.returns-clause-few
returns-clause-few c = let h : length c.self.inside.list.items ≤ room c.self.inside.marks = few_found _ _ c.self.invariant in rw (← c.self.view_is) (grind (arith, common_steps))

pub returns-clause-told : goal.returns-clause-told
returns-clause-told c = rw (← c.self.view_is) c.self.invariant.told
