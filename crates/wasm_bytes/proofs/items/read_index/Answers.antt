use Rattle.std.proofs.Common.{refl}
use Rattle.std.proofs.lemmas.Bool.{lt-ltb}
use Rattle.wasm_bytes.specs.Items.{index}
use Rattle.wasm_bytes.proofs.items.read_index.Goals as goal

pub returns-then-found-count-clause-value : goal.returns-then-found-count-clause-value
unfolding index
returns-then-found-count-clause-value c = rw (c.in_ok-found.ensures.value, lt-ltb _ _ c.if-found-count.true) refl
