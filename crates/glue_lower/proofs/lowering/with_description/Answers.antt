use Rattle.std.proofs.Common.{ap}
use Rattle.wasm_core.specs.Contents.{Contents}
use Rattle.glue_lower.specs.Lowering.{lowered}
use Rattle.glue_lower.proofs.lowering.with_description.Goals as goal

pub returns : goal.returns
returns c = ap (λ (m : Contents). lowered m c.args.description) c.remove_custom.ensures.removed
