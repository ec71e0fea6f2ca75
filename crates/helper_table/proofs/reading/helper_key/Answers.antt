use Rattle.std.proofs.Common.{◌++◌, List, ℕ, sym, ap, ◌∙◌}
use Rattle.std.specs.Fmt.{decimal}
use Rattle.helper_table.specs.Laws.{single_key, placed_key}
use Rattle.helper_table.proofs.Steps.{onto}
use Rattle.helper_table.proofs.reading.helper_key.Goals as goal
use Rattle.helper_table.specs.Made.{place_of}

pub returns-then-node-lt-SINGLES : goal.returns-then-node-lt-SINGLES
returns-then-node-lt-SINGLES c = record {
  key = onto c.from_str.result _ _ (c.text_at.ensures.text ∙ sym (single_key c.args.node c.if-node-lt-SINGLES.true)) c.from_str.ensures;
}

pub returns-in_ok-format : goal.returns-in_ok-format
returns-in_ok-format c = record {
  key =
      c.new.ensures ∙ c.in_ok-format.ensures.ok
      ∙ ap (λ (x : List ℕ). x ++ decimal (place_of c.args.node)) (c.in_ok-from_str.ensures ∙ c.text_at-else-node-lt-SINGLES.ensures.text)
      ∙ sym (placed_key c.args.node c.if-node-lt-SINGLES.false);
}
