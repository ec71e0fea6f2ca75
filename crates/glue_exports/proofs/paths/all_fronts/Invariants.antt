use Rattle.std.proofs.Common.{◌≡◌, ◌++◌, map, drop}
use Rattle.glue_exports.specs.Fronts.{all_fronts}
use Rattle.glue_exports.proofs.paths.all_fronts.Given as goal

-- the fronts that are found, and those that the segments behind them still give
abbrev pub invariant-loop-segment : goal.invariant-loop-segment
invariant-loop-segment l = l.found.items ++ map (λ rest. l.front ++ rest) (all_fronts (drop l.segment-index l.segments)) ≡ all_fronts l.segments
