use Rattle.std.proofs.Common.{◌≡◌, ◌++◌, drop, string_bytes}
use Rattle.demangle_core.specs.Shown.{shown_from}
use Rattle.demangle_core.proofs.shown.push_shown.Given as goal

abbrev pub invariant-loop-place : goal.invariant-loop-place
invariant-loop-place l = string_bytes l.out ++ shown_from l.read (drop l.place l.bytes) ≡ string_bytes l.fn.out ++ shown_from 0 l.bytes
