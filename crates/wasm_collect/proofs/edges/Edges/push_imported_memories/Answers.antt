use Rattle.std.proofs.Common.{rules, ◌<◌, length, arith}
use Rattle.std.proofs.lemmas.Grind.{common_steps}
use Rattle.wasm_collect.specs.Reach.{memory_segments, is_imported_memory}
use Rattle.wasm_collect.proofs.Places.{imported_none, imported_more}
use Rattle.wasm_collect.proofs.edges.Edges.push_imported_memories.Goals as goal

pub loop-place-init : goal.loop-place-init
loop-place-init c = imported_none (memory_segments c.args.self.now) is_imported_memory c.args.out.now.items

pub loop-place-preserved : goal.loop-place-preserved
loop-place-preserved c =
    let lt : c.loop-place.place < length c.args.self.now.memories = search rules in
    imported_more (memory_segments c.args.self.now) is_imported_memory c.args.self.now.memories c.loop-place.place c.args.out.now.items c.loop-place.out.items c.push_imported_memory.new.out.items lt c.loop-place.invariant c.in_ok-push_imported_memory.ensures

pub returns : goal.returns
returns c = grind (arith, common_steps)
