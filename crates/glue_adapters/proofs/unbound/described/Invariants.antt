use Rattle.std.proofs.Common.{◌≡◌, take, map}
use Rattle.glue_adapters.proofs.unbound.described.Given as goal

abbrev pub invariant-loop-entry : goal.invariant-loop-entry
invariant-loop-entry l = l.ids ≡ map (λ entry. entry.0) (take l.entry-index l.entries)
