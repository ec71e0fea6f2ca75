use Rattle.wasm_bytes.proofs.number.+push_shortest.Given as goal

abbrev pub decreases-push_shortest : goal.decreases-push_shortest
decreases-push_shortest l = l.more
