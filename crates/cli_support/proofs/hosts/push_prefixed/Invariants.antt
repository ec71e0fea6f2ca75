use Rattle.std.proofs.Common.{◌≡◌, ◌++◌, take, map}
use Rattle.cli_support.proofs.hosts.push_prefixed.Given as goal

abbrev pub invariant-loop-prefix : goal.invariant-loop-prefix
invariant-loop-prefix l = l.out.items ≡ l.fn.out.items ++ map (λ prefix. prefix ++ l.name) (take l.prefix-index l.prefixes)
