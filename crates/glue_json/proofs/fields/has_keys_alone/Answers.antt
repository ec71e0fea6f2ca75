use Rattle.std.proofs.Common.{sym, ◌∙◌}
use Rattle.glue_json.proofs.Lists.{has_only_object}
use Rattle.glue_json.proofs.fields.has_keys_alone.Goals as goal

pub returns-in-Some : goal.returns-in-Some
returns-in-Some c = c.all_allowed.ensures ∙ sym (has_only_object _ _ c.in-Some.members.now.entries c.in-Some.ensures)
