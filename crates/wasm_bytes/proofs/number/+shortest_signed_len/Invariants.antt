use Rattle.wasm_bytes.proofs.number.+shortest_signed_len.Given as goal

abbrev pub decreases-shortest_signed_len : goal.decreases-shortest_signed_len
decreases-shortest_signed_len l = l.more
