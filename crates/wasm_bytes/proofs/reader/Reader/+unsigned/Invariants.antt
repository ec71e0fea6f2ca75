use Rattle.wasm_bytes.proofs.reader.Reader.+unsigned.Given as goal

abbrev pub decreases-unsigned : goal.decreases-unsigned
decreases-unsigned l = l.more
