use Rattle.std.proofs.Common.{List, ℕ, subst}
use Rattle.std.specs.Prelude.{IfOk}
use Rattle.std.specs.String.{string_bytes}
use Rattle.glue_scope.specs.Scope.{IsFirstFree, key_set}
use Rattle.glue_scope.proofs.names.IdentScopeNames.generate.Goals as goal

pub returns-clause-first : goal.returns-clause-first
returns-clause-first c =
    subst (λ (q : List ℕ). IfOk c.bind_first.result (λ answer. IsFirstFree (key_set c.args.self.now) q (string_bytes answer))) c.in_ok-ident.ensures.value c.bind_first.ensures.first

pub returns-clause-ident : goal.returns-clause-ident
returns-clause-ident c = c.bind_first.ensures.ident

pub returns-clause-binds : goal.returns-clause-binds
returns-clause-binds c = c.bind_first.ensures.binds
