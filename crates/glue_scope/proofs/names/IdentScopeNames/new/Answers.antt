use Rattle.glue_scope.proofs.KeySets.{key_set-empty}
use Rattle.glue_scope.proofs.Scopes.{keeps_empty}
use Rattle.glue_scope.proofs.names.IdentScopeNames.new.Goals as goal

pub invariant_of-result : goal.invariant_of-result
invariant_of-result c = rw c.new.ensures keeps_empty

pub returns : goal.returns
returns c = record { empty = rw c.new.ensures key_set-empty }
