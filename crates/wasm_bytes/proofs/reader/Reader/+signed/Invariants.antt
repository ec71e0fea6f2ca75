use Rattle.wasm_bytes.proofs.reader.Reader.+signed.Given as goal

abbrev pub decreases-signed : goal.decreases-signed
decreases-signed l = l.more
