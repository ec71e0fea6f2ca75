use Rattle.std.proofs.Common.{◌≡◌, ◌≤◌, ◌++◌, drop}
use Rattle.glue_binding.specs.Spelling.{wanted_from, temporaries}
use Rattle.glue_binding.proofs.draw.temporaries_of.Given as goal

abbrev pub invariant-loop-step : goal.invariant-loop-step
invariant-loop-step l = record {
  wanted : l.wanted ++ wanted_from l.count (drop l.step-index l.steps) ≡ temporaries l.steps;
  few : l.count ≤ l.step-index;
}
