use Rattle.std.proofs.Common.{◌≡◌}
use Rattle.std.specs.List.{find}
use Rattle.glue_adapters.specs.Pairs.{is_bad_code}
use Rattle.glue_adapters.proofs.adapters.bad_code.Given as goal

abbrev pub invariant-loop-id : goal.invariant-loop-id
invariant-loop-id l = find (is_bad_code l.lowered l.environment l.pairs) l.id-iterator ≡ find (is_bad_code l.lowered l.environment l.pairs) l.lowered.wit.adapters
