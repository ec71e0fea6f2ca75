use Rattle.std.proofs.Common.{◌∙◌}
use Rattle.printed_adapters.proofs.OwnNames.{any_own}
use Rattle.glue_check.specs.Unbuilt.{is_other_own}
use Rattle.glue_check.proofs.unbuilt.has_other_own.Goals as goal

pub returns : goal.returns
returns c = record {
  test = c.is_any_other.ensures.test ∙ any_own (is_other_own c.args.lowered.now.«module») c.args.settings.now c.args.lowered.now _ _ c.as_slice.ensures c.in_ok-own.ensures.ids;
}
