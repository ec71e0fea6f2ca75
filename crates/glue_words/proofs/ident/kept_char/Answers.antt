use Rattle.std.proofs.Common.{◌∙◌, sym}
use Rattle.glue_words.proofs.ident.kept_char.Goals as goal

pub returns-else-is_rest : goal.returns-else-is_rest
returns-else-is_rest c = rw (sym c.is_rest.ensures ∙ c.if-is_rest.false)
