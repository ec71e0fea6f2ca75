use Rattle.values.proofs.text.Text.from_str.Goals as goal

pub returns : goal.returns
returns c = c.in_ok-from_str.ensures.ok
