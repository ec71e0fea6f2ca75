use Rattle.std.proofs.Common.{◌≡◌, ◌∙◌, Option, Some, None, refl, sym, ap}
use Rattle.std.specs.Option.{is_some}
use Rattle.std.proofs.lemmas.Option.{slice_get_read, slice_get_past}
use Rattle.glue_shared.specs.Roots.{is_entry}
use Rattle.glue_shared.proofs.kept.has_entry.Goals as goal

entry_is : {A : Type 0} (o : Option A) → is_some o ≡ is_entry (Some o)
entry_is None = refl
entry_is (Some x) = refl

pub returns-in-Some : goal.returns-in-Some
returns-in-Some g c =
    let there = c.in-Some.ensures.lookup in
    record {
      test = c.is_some.ensures ∙ entry_is c.in-Some.entry.now ∙ sym (ap is_entry (slice_get_read c.args.entries.now _ c.args.place c.in-Some.entry.now refl there.3.0 there.1));
    }

pub returns-in-None : goal.returns-in-None
returns-in-None g c = record { test = sym (ap is_entry (slice_get_past c.args.entries.now c.args.place c.in-None.ensures.lookup.3)) }
