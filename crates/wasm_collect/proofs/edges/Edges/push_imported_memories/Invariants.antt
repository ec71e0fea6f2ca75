use Rattle.std.proofs.Common.{◌≡◌, ◌++◌, take}
use Rattle.std.specs.List.{flat_map}
use Rattle.wasm_collect.specs.Reach.{places, memory_segments, is_imported_memory}
use Rattle.wasm_collect.proofs.edges.Edges.push_imported_memories.Given as goal

abbrev pub invariant-loop-place : goal.invariant-loop-place
invariant-loop-place l = l.out.items ≡ l.fn.out.items ++ flat_map (memory_segments l.self) (places is_imported_memory 0 (take l.place l.self.memories))
