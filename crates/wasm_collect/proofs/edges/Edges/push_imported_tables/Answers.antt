use Rattle.std.proofs.Common.{rules, ◌<◌, length, arith}
use Rattle.std.proofs.lemmas.Grind.{common_steps}
use Rattle.wasm_collect.specs.Reach.{table_segments, is_imported_table}
use Rattle.wasm_collect.proofs.Places.{imported_none, imported_more}
use Rattle.wasm_collect.proofs.edges.Edges.push_imported_tables.Goals as goal

pub loop-place-init : goal.loop-place-init
loop-place-init c = imported_none (table_segments c.args.self.now) is_imported_table c.args.out.now.items

pub loop-place-preserved : goal.loop-place-preserved
loop-place-preserved c =
    let lt : c.loop-place.place < length c.args.self.now.tables = search rules in
    imported_more (table_segments c.args.self.now) is_imported_table c.args.self.now.tables c.loop-place.place c.args.out.now.items c.loop-place.out.items c.push_imported_table.new.out.items lt c.loop-place.invariant c.in_ok-push_imported_table.ensures

pub returns : goal.returns
returns c = grind (arith, common_steps)
