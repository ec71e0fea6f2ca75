use Rattle.wasm_bytes.proofs.number.+shortest_len.Given as goal

abbrev pub decreases-shortest_len : goal.decreases-shortest_len
decreases-shortest_len l = l.more
