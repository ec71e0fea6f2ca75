use Rattle.std.proofs.Common.{[], ◌∙◌, arith}
use Rattle.glue_operands.proofs.Written.{name_found, name_missing}
use Rattle.glue_operands.proofs.import.local_name.Goals as goal

pub returns-in_ok-copy-in-Some : goal.returns-in_ok-copy-in-Some
returns-in_ok-copy-in-Some c =
    let h = c.in-Some.ensures.lookup in
    record { name = c.in_ok-copy-in-Some.ensures.equal ∙ h.3.1 [] ∙ name_found c.args.locals.now c.args.place h.3.0 }

pub returns-in-None : goal.returns-in-None
returns-in-None c = record {
  name = c.no_name.ensures.name ∙ name_missing c.args.locals.now c.args.place (grind (arith, c.in-None.ensures.lookup));
}
