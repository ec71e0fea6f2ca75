use Rattle.std.proofs.Common.{◌≡◌, ◌++◌, drop, string_bytes}
use Rattle.demangle_core.specs.Shown.{as_it_is}
use Rattle.demangle_core.proofs.shown.push_bytes.Given as goal

abbrev pub invariant-loop-b : goal.invariant-loop-b
invariant-loop-b l = string_bytes l.out ++ as_it_is (drop l.b-index l.bytes) ≡ string_bytes l.fn.out ++ as_it_is l.bytes
