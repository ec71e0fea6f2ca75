use Rattle.helper_table.proofs.Steps.{text_at}
use Rattle.helper_table.proofs.reading.text_at.Goals as goal

pub returns : goal.returns
returns c = record { text = text_at _ c.args.place _ c.requires.place }
