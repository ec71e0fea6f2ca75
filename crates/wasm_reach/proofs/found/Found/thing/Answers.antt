use Rattle.std.proofs.Common.{refl}
use Rattle.std.proofs.lemmas.Option.{slice_get_read}
use Rattle.wasm_reach.proofs.found.Found.thing.Goals as goal

pub returns : goal.returns
returns c = rw (← c.self.view_is) (slice_get_read _ _ c.args.place c.index.result.now refl (rw (← c.self.view_is) at c.requires) c.index.ensures)
