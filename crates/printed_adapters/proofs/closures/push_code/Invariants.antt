use Rattle.std.proofs.Common.{◌≡◌, ◌++◌, take}
use Rattle.printed_adapters.proofs.Making.{made_places}
use Rattle.printed_adapters.proofs.closures.push_code.Given as goal

abbrev pub invariant-loop-instruction : goal.invariant-loop-instruction
invariant-loop-instruction l = l.out.items ≡ l.initial.out.items ++ made_places l.places (take l.instruction-index l.code)
