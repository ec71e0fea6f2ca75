use Rattle.std.proofs.Common.{◌≡◌, ◌++◌, take}
use Rattle.std.specs.List.{flat_map}
use Rattle.glue_shared.specs.Names.{described_hosts}
use Rattle.cli_support.proofs.hosts.push_reexported.Given as goal

abbrev pub invariant-loop-reexport : goal.invariant-loop-reexport
invariant-loop-reexport l = l.out.items ≡ l.fn.out.items ++ flat_map (λ r. described_hosts l.omitted r.1.name) (take l.reexport-index l.reexports)
