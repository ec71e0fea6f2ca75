use Rattle.std.proofs.Common.{◌≡◌, ◌++◌, take, map}
use Rattle.cli_support.proofs.hosts.push_names.Given as goal

abbrev pub invariant-loop-word : goal.invariant-loop-word
invariant-loop-word l = l.out.items ≡ l.fn.out.items ++ map (λ w. w.now) (take l.word-index l.words)
