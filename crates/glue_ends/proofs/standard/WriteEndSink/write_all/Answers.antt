use Rattle.std.proofs.Common.{arith, refl}
use Rattle.glue_ends.proofs.standard.WriteEndSink.write_all.Goals as goal

pub returns-in-Ok : goal.returns-in-Ok
returns-in-Ok g c = record { ok = c.in-Ok.ensures.ok; prefix = c.in-Ok.ensures.prefix; later = omega arith; failed = λ is. cc; kept = refl }
