use Rattle.cli_support.proofs.generating.planned_items.Goals as goal

pub returns : goal.returns
returns c = record {
  items = record {
    names = c.in_ok-names.names;
    drawn = c.in_ok-names.ensures.names;
    glue = rw (c.settings.ensures, c.lowered.ensures) at c.in_ok-items.ensures.items;
  };
}
