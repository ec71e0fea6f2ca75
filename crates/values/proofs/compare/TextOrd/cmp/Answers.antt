use Rattle.values.proofs.compare.TextOrd.cmp.Goals as goal

pub returns : goal.returns
returns c = rw (← c.as_str.ensures, ← c.as_str-2.ensures) c.cmp.ensures
