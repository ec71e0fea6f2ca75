use Rattle.std.proofs.Common.{◌≡◌, map, take}
use Rattle.glue_naming.proofs.reexported.imports_of.Given as goal

abbrev pub invariant-loop-reexport : goal.invariant-loop-reexport
invariant-loop-reexport l = l.names ≡ map (λ r. r.1.name) (map (λ r. r.now) (take l.reexport-index l.reexports))
