use Rattle.std.proofs.Common.{◌≡◌, drop}
use Rattle.std.specs.List.{list_any}
use Rattle.claimed_modules.specs.Modules.{calls_from}
use Rattle.claimed_modules.proofs.modules.has_call_from.Given as goal

abbrev pub invariant-loop-instruction : goal.invariant-loop-instruction
invariant-loop-instruction l =
    list_any (calls_from l.entries l.name) (drop l.instruction-index l.code) ≡ list_any (calls_from l.entries l.name) l.code
