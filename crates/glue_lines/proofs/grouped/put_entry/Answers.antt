use Rattle.std.proofs.Common.{ℕ, ◌∙◌, List, [], ◌∷◌, ◌++◌, ap}
use Rattle.std.specs.BTreeMap.{insert_entry}
use Rattle.glue_lines.specs.Lines.{LineEntry}
use Rattle.glue_lines.specs.Grouped.{found_entries, text_order}
use Rattle.glue_lines.proofs.Grouping.{put_adds}
use Rattle.glue_lines.proofs.grouped.put_entry.Goals as goal

pub returns : goal.returns
returns c =
    let path = c.args.path in
    let more = found_entries c.args.lines.now path ++ c.args.entry ∷ [] in
    let entries = c.in_ok-push.ensures.ok
    ∙ ap (λ (es : List LineEntry). es ++ c.args.entry ∷ []) c.in_ok-entries.ensures.entries in
    let is = c.in_ok-insert.ensures.entries
    ∙ ap (insert_entry text_order c.take_entries.new.lines path) entries
    ∙ ap (λ (ls : List (List ℕ × List LineEntry)). insert_entry text_order ls path more) c.in_ok-entries.ensures.left in
    record { added = put_adds c.args.lines.now c.insert.new.self path c.args.entry is c.in_ok-insert.ensures.ordered }
