use Rattle.std.proofs.Common.{ℕ, ◌∙◌, List, [], sym, subst}
use Rattle.std.specs.Prelude.{Option, OnOk}
use Rattle.std.specs.List.{cons_option}
use Rattle.glue_lines.specs.Lines.{LineEntry}
use Rattle.glue_lines.specs.Grouped.{AddsEntries}
use Rattle.glue_lines.proofs.grouped.add_import.Goals as goal

pub returns-in-Some : goal.returns-in-Some
returns-in-Some c = record {
  added =
      subst (λ (o : Option (List ℕ × LineEntry)).
      OnOk c.put_entry.result (AddsEntries (cons_option o []) c.args.lines.now c.put_entry.new.lines))
      (sym c.in-Some.is ∙ c.in_ok-placed_entry.ensures.entry) c.put_entry.ensures.added;
}
