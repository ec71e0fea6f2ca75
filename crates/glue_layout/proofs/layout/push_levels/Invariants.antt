use Rattle.std.proofs.Common.{◌≡◌, ◌*◌, ◌++◌, replicate, string_bytes}
use Rattle.glue_layout.proofs.layout.push_levels.Given as goal

abbrev pub invariant-loop : goal.invariant-loop
invariant-loop l = string_bytes l.laid ≡ string_bytes l.initial.laid ++ replicate (4 * l.counter) 32
