use Rattle.helper_table.proofs.Steps.{behind_stem}
use Rattle.helper_table.proofs.reading.place_after.Goals as goal

pub returns-in-Some : goal.returns-in-Some
returns-in-Some c = record {
  place =
      behind_stem c.args.stem.now c.in-Some.rest.now c.args.name.now c.read_number.result c.in-Some.ensures.rest
      c.read_number.ensures.number;
}
