use Rattle.std.proofs.Common.{◌≡◌, ◌++◌, []}
use Rattle.std.specs.Vec.Iter.{into_iter_items}
use Rattle.wasm_core.specs.Parsing.{imports_behind, places_of}
use Rattle.wasm_core.proofs.assemble.add_imports.Given as goal

abbrev pub invariant-loop-import : goal.invariant-loop-import
invariant-loop-import l = goal.iterator-loop-import.can_next l.import-iterator
    × goal.iterator-loop-import.is_finite l.import-iterator
    × (l.entries.items ++ imports_behind l.yielded (into_iter_items l.import-iterator) ≡ l.fn.entries.items ++ imports_behind [] l.fn.imports)
    × (l.places ≡ places_of l.yielded)
