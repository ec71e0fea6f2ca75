use Rattle.std.proofs.Common.{◌≡◌, ◌+◌, drop}
use Rattle.std.specs.List.{prefix_len}
use Rattle.demangle_core.specs.Reading.{is_digit_of}
use Rattle.demangle_core.proofs.reading.leading_digits.Given as goal

abbrev pub invariant-loop-place : goal.invariant-loop-place
invariant-loop-place l = l.place + prefix_len (is_digit_of l.is_hex) (drop l.place l.bytes) ≡ prefix_len (is_digit_of l.is_hex) l.bytes
