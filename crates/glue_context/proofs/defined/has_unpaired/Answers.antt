use Rattle.glue_context.proofs.Common.{sym, ◌∙◌}
use Rattle.printed_adapters.proofs.OwnNames.{any_of_ids}
use Rattle.glue_context.specs.DefinedItems.{is_unpaired}
use Rattle.glue_context.proofs.defined.has_unpaired.Goals as goal

pub returns : goal.returns
returns c =
    let pairs = c.args.lowered.now.wit.implements in
    let places = c.args.places.now in record {
      test = (rw (c.in_ok-implementers.ensures.same, c.as_slice.ensures) at c.is_any_unpaired.ensures.test) ∙ sym (any_of_ids (is_unpaired pairs) places);
    }
