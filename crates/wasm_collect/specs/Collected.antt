-- What is left of a module when nothing is kept but what can be reached.
use Rattle.std.specs.Prelude.{true, List, ◌++◌, map}
use Rattle.std.specs.List.{filter}
use Rattle.wasm_file.specs.declared.entries.ExportItem.{ExportItem}
use Rattle.wasm_reach.specs.declared.things.Thing.{Thing}
use Rattle.wasm_reach.specs.declared.things.Thing.TheVariants as things
use Rattle.wasm_reach.specs.Reached.{is_reached}
use Rattle.wasm_core.specs.Contents.{Contents}
use Rattle.wasm_core.specs.Remainder.{remainder}
use Rattle.wasm_collect.specs.Reach.{stands, places, refs, root_names}

-- the entries of a module that something can refer to
abbrev pub all_things : Contents → List Thing
all_things m =
    map things.Type (places (λ _. true) 0 m.types)
    ++ (map things.Func (places (λ _. true) 0 m.funcs)
    ++ (map things.Table (places (λ _. true) 0 m.tables)
    ++ (map things.Memory (places (λ _. true) 0 m.memories)
    ++ (map things.Global (places (λ _. true) 0 m.globals)
    ++ (map things.Tag (places (λ _. true) 0 m.tags)
    ++ (map things.Elem (places (λ _. true) 0 m.elems)
    ++ map things.Segment (places (λ _. true) 0 m.segments)))))))

-- The module with exactly what can be reached from the roots: an entry is kept where each set of entries that holds the roots and
-- what its members refer to holds it.
unfoldable pub collected : List ExportItem → Contents → Contents
collected roots m = remainder (is_reached (all_things m) (refs m) (filter (stands m) (root_names m roots))) m
