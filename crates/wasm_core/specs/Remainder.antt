-- What is left of a module where some entries are dropped.
use Rattle.std.specs.Prelude.{ℕ, ◌+◌, Bool, List, [], ◌∷◌, map, Option, Some, None, if◌then◌else◌}
use Rattle.wasm_reach.specs.declared.things.Thing.{Thing}
use Rattle.wasm_reach.specs.declared.things.Thing.TheVariants as things
use Rattle.wasm_core.specs.declared.types.Import.{Import}
use Rattle.wasm_core.specs.declared.types.ImportKind.{ImportKind}
use Rattle.wasm_core.specs.declared.types.ImportKind.TheVariants as kinds
use Rattle.wasm_core.specs.Contents.{Contents}

-- the entries whose places, counted from i, are kept; the other places are empty
unfoldable pub kept_places : {A : Type 0} → (ℕ → Bool) → ℕ → List (Option A) → List (Option A)
kept_places kept i [] = []
kept_places kept i (x ∷ xs) = (if kept i then x else None) ∷ kept_places kept (i + 1) xs

abbrev pub import_thing : ImportKind → Thing
import_thing (kinds.Func id) = things.Func id.0
import_thing (kinds.Table id) = things.Table id.0
import_thing (kinds.Memory id) = things.Memory id.0
import_thing (kinds.Global id) = things.Global id.0
import_thing (kinds.Tag id) = things.Tag id.0

-- an import, where what it brings in is kept
abbrev pub kept_import : (Thing → Bool) → Option Import → Option Import
kept_import kept (Some i) = if kept (import_thing i.kind) then Some i else None
kept_import kept None = None

-- The module with the entries that are kept, and the imports of those; all else is as it was.
unfoldable pub remainder : (Thing → Bool) → Contents → Contents
remainder kept m = record m {
  types = kept_places (λ i. kept (things.Type i)) 0 m.types;
  funcs = kept_places (λ i. kept (things.Func i)) 0 m.funcs;
  tables = kept_places (λ i. kept (things.Table i)) 0 m.tables;
  memories = kept_places (λ i. kept (things.Memory i)) 0 m.memories;
  globals = kept_places (λ i. kept (things.Global i)) 0 m.globals;
  tags = kept_places (λ i. kept (things.Tag i)) 0 m.tags;
  imports = map (kept_import kept) m.imports;
  elems = kept_places (λ i. kept (things.Elem i)) 0 m.elems;
  segments = kept_places (λ i. kept (things.Segment i)) 0 m.segments;
}
