use Rattle.std.proofs.Common.{Some, sym, ap, ◌∙◌}
use Rattle.values.proofs.duplicate.OptionDuplicate.copy.Goals as goal

pub returns-in_ok-copy-in-Some : goal.returns-in_ok-copy-in-Some
returns-in_ok-copy-in-Some g c = record { equal = ap Some c.in_ok-copy-in-Some.ensures.equal ∙ sym c.in-Some.is }
