use Rattle.std.proofs.Common.{◌∙◌, List, [], ap}
use Rattle.std.specs.Prelude.{Option, unwrap_or}
use Rattle.glue_lines.specs.Lines.{LineEntry}
use Rattle.glue_lines.specs.Grouped.{found_entries}
use Rattle.glue_lines.proofs.grouped.take_entries.Goals as goal

pub returns-clause-entries : goal.returns-clause-entries
returns-clause-entries c =
    c.unwrap_or.ensures ∙ ap (unwrap_or c.in_ok-found.found) c.new-2.ensures
    ∙ ap (λ (o : Option (List LineEntry)). unwrap_or o []) c.in_ok-found.ensures.old
    ∙ ap (found_entries c.args.lines.now) c.in_ok-copy.ensures.equal
