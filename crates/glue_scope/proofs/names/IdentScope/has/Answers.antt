use Rattle.std.proofs.Common.{sym, ap, ◌∙◌}
use Rattle.std.specs.Prelude.{is_some}
use Rattle.glue_scope.proofs.KeySets.{contains-key_set}
use Rattle.glue_scope.proofs.names.IdentScope.has.Goals as goal

pub returns : goal.returns
returns c = record { has = rw (← c.self.view_is) (c.is_some.ensures ∙ ap is_some c.get.ensures ∙ sym (contains-key_set c.self.inside.names c.args.name.now)) }
