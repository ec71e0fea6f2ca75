use Rattle.std.specs.String.{string_bytes}
use Rattle.std.proofs.Common.{◌∙◌}
use Rattle.glue_naming.proofs.Kept.{name_kept}
use Rattle.glue_naming.proofs.drawing.draw.Goals as goal

pub returns-clause-kept : goal.returns-clause-kept
returns-clause-kept g c = λ ident free.
    c.new.ensures ∙ name_kept (g.N.Names.bound c.args.scope.now) c.args.name.now (string_bytes c.in_ok-generate.field-0) c.utf8.name c.in_ok-generate.ensures.first ident free
