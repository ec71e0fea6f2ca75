use Rattle.std.proofs.Common.{◌≡◌, ◌++◌, take}
use Rattle.std.specs.List.{flat_map}
use Rattle.wasm_collect.specs.Reach.{places, table_segments, is_imported_table}
use Rattle.wasm_collect.proofs.edges.Edges.push_imported_tables.Given as goal

abbrev pub invariant-loop-place : goal.invariant-loop-place
invariant-loop-place l = l.out.items ≡ l.fn.out.items ++ flat_map (table_segments l.self) (places is_imported_table 0 (take l.place l.self.tables))
