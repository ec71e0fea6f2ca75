use Rattle.glue_unpack.proofs.Refusals.{all_memory}
use Rattle.glue_unpack.proofs.unpacking.unpack.Goals as goal

pub returns-clause-complete : goal.returns-clause-complete
returns-clause-complete g c files listable is fine calm =
    all_memory _ files _ _ _ _ c.unpack_text.result listable is fine calm c.unpack_text.ensures.refused
