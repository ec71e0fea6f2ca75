use Rattle.std.proofs.Common.{refl, sym}
use Rattle.wasm_file.proofs.lists.Lists.counts_with_globals.Goals as goal

pub returns : goal.returns
returns c = rw (c.counts.ensures, c.self.invariant.counted.globals_counted, sym c.self.view_is) refl
