use Rattle.std.proofs.Common.{ap, ◌∙◌, length}
use Rattle.values.proofs.text.Text.len.Goals as goal

pub returns : goal.returns
returns c = c.len.ensures ∙ c.self.inside.string.bytes.ok.0 ∙ ap length c.self.view_is
