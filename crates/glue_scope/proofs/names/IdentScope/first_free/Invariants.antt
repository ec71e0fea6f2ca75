use Rattle.std.proofs.Common.{◌≡◌, ℕ, ◌<◌, ◌≤◌, true}
use Rattle.std.specs.FinSet as set
use Rattle.glue_scope.specs.Scope.{key_set}
use Rattle.glue_words.specs.Ident.{numbered}
use Rattle.glue_scope.proofs.names.IdentScope.first_free.Given as goal

-- each number passed is taken
abbrev pub invariant-loop-number : goal.invariant-loop-number
invariant-loop-number l = (j : ℕ) → l.start ≤ j → j < l.number-counter → set.contains (key_set l.self) (numbered l.name j) ≡ true
