use Rattle.wasm_bytes.proofs.number.+push_signed.Given as goal

abbrev pub decreases-push_signed : goal.decreases-push_signed
decreases-push_signed l = l.more
