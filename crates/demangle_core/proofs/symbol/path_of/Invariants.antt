use Rattle.std.proofs.Common.{◌≡◌, ◌-◌, ◌++◌, length, string_bytes, option_map}
use Rattle.demangle_core.specs.Symbol.{path_of}
use Rattle.demangle_core.proofs.symbol.path_of.Given as goal

abbrev pub invariant-loop : goal.invariant-loop
invariant-loop l = option_map (λ more. string_bytes l.path ++ more) (path_of (length l.bytes - l.counter) l.rest) ≡ path_of (length l.bytes) l.bytes
