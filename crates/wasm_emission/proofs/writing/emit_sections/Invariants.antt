use Rattle.std.proofs.Common.{◌≡◌, ◌++◌}
use Rattle.std.specs.List.{flat_map}
use Rattle.std.specs.Vec.Iter.{into_iter_items}
use Rattle.wasm_file.specs.Spelling.{section_bytes}
use Rattle.wasm_emission.specs.Emission.{first_too_large}
use Rattle.wasm_emission.proofs.writing.emit_sections.Given as goal

abbrev pub invariant-loop-section : goal.invariant-loop-section
invariant-loop-section l = goal.iterator-loop-section.can_next l.section-iterator
    × goal.iterator-loop-section.is_finite l.section-iterator
    × (l.out.items ++ flat_map section_bytes (into_iter_items l.section-iterator) ≡ l.fn.out.items ++ flat_map section_bytes l.fn.sections)
    × (first_too_large l.longest (into_iter_items l.section-iterator) ≡ first_too_large l.longest l.fn.sections)
