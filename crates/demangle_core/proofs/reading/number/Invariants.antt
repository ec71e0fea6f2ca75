use Rattle.std.proofs.Common.{◌≡◌, drop}
use Rattle.std.specs.List.{fold}
use Rattle.demangle_core.specs.Reading.{digit_added, number}
use Rattle.demangle_core.proofs.reading.number.Given as goal

abbrev pub invariant-loop-digit : goal.invariant-loop-digit
invariant-loop-digit l = fold (digit_added l.base) l.number (drop l.digit-index l.digits) ≡ number l.base l.digits
