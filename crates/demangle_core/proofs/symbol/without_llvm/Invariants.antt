use Rattle.std.proofs.Common.{◌≡◌, ◌++◌, take, drop}
use Rattle.demangle_core.specs.Symbol.{without_llvm}
use Rattle.demangle_core.proofs.symbol.without_llvm.Given as goal

abbrev pub invariant-loop-place : goal.invariant-loop-place
invariant-loop-place l = take l.place l.name ++ without_llvm (drop l.place l.name) ≡ without_llvm l.name
