use Rattle.std.proofs.Common.{refl}
use Rattle.std.proofs.lemmas.List.{take_all}
use Rattle.wasm_bytes.proofs.reader.Reader.part.Goals as goal
use Rattle.wasm_bytes.proofs.reader.Reader.part.Goals.{then-len-self, else-len-self}

pub returns : goal.returns
returns c = elim c.if-len-self.branch [
  | then-len-self w ↦ rw (w.bytes-is, ← c.self.view_is) refl
  | else-len-self w ↦ rw (w.bytes-is, ← c.self.view_is, take_all _ _ w.if-len-self.false) refl
]
