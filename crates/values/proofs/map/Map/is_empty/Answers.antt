use Rattle.std.proofs.Common.{ap, length}
use Rattle.std.proofs.lemmas.List.{nil_from_length}
use Rattle.values.proofs.map.Map.is_empty.Goals as goal

pub returns : goal.returns
returns g c = rw (← c.self.view_is) (λ t. nil_from_length _ (c.is_empty.ensures.0 t), λ e. c.is_empty.ensures.1 (ap length e))
