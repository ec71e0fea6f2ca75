use Rattle.std.proofs.Common.{sym, ap, ◌∙◌}
use Rattle.std.specs.Prelude.{is_some}
use Rattle.std.proofs.lemmas.Iterator.{YieldsList-from_chars}
use Rattle.std.proofs.lemmas.Iterator.Consumers.{nth_from_yields_List}
use Rattle.shown_names.proofs.Cut.{is_some_mapped}
use Rattle.shown_names.proofs.names.is_cut.Goals as goal

pub returns : goal.returns
returns c =
    let t = nth_from_yields_List c.nth.result c.nth.new.self 60 c.nth.ensures.ran (YieldsList-from_chars c.args.text.now c.utf8.text cc) in
    record { test = c.is_some.ensures ∙ sym (is_some_mapped c.nth.result) ∙ ap is_some t }
