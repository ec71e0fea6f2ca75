use Rattle.std.proofs.Common.{◌≡◌, ◌++◌, map, take}
use Rattle.glue_names.proofs.brought.push_prefixed.Given as goal

abbrev pub invariant-loop-prefix : goal.invariant-loop-prefix
invariant-loop-prefix l = l.names ≡ l.initial.names ++ map (λ prefix. prefix ++ l.name) (take l.prefix-index l.prefixes)
