use Rattle.std.proofs.Common.{arith}
use Rattle.helper_table.specs.Laws.{keyed_single, keyed_family, not_keyed, kept_no_key}
use Rattle.helper_table.proofs.reading.find_key.Goals as goal

pub returns-in-Some : goal.returns-in-Some
returns-in-Some c = record { found = keyed_single c.args.key.now c.in-Some.place c.in-Some.ensures.place.0 c.in-Some.ensures.place.1 }

pub returns-in-Some-2 : goal.returns-in-Some-2
returns-in-Some-2 c =
    let told = rw c.in-Some-2.is at c.in_ok-place.ensures.placed in
    record { found = keyed_family c.args.key.now c.in-Some-2.place c.in-Some-2.number c.if-place-lt-FAMILIES.true told.1 told.2 }

pub returns-in_default-2 : goal.returns-in_default-2
returns-in_default-2 c =
    let told = rw c.in-Some-2.is at c.in_ok-place.ensures.placed in
    record {
      found =
          not_keyed c.args.key.now c.in_default.ensures.place
          (kept_no_key c.args.key.now c.in-Some-2.place c.in-Some-2.number c.if-place-lt-FAMILIES.false told.0 told.1 told.2);
    }

pub returns-in_default-2-2 : goal.returns-in_default-2-2
returns-in_default-2-2 c =
    let told = rw c.in_default-2.is at c.in_ok-place.ensures.placed in
    record { found = not_keyed c.args.key.now c.in_default.ensures.place (λ q n lt small. told q n (omega (arith, lt)) small) }
