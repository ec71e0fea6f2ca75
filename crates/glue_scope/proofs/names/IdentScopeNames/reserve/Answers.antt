use Rattle.std.proofs.Common.{sym, ap, ◌∙◌}
use Rattle.std.specs.Prelude.{not}
use Rattle.glue_scope.specs.Scope.{key_set}
use Rattle.glue_scope.proofs.KeySets.{key_set-insert}
use Rattle.glue_scope.proofs.Scopes.{insert_present}
use Rattle.glue_scope.proofs.names.IdentScopeNames.reserve.Goals as goal

pub returns-then-has-clause-free : goal.returns-then-has-clause-free
returns-then-has-clause-free c = sym (ap not (sym c.has.ensures.has ∙ c.if-has.true))

pub returns-then-has-clause-binds : goal.returns-then-has-clause-binds
returns-then-has-clause-binds c = sym (insert_present _ _ (sym c.has.ensures.has ∙ c.if-has.true))

pub returns-clause-binds : goal.returns-clause-binds
returns-clause-binds c = ap key_set c.in_ok-bind.ensures.ok ∙ key_set-insert _ _ 2
