-- Own imports, and imports with the adapters that stand for them, in the order in which they are gone through.
use Rattle.std.specs.Prelude.{ℕ, List, [], Option, Some, slice_get}
use Rattle.std.specs.Ordering.{nat_cmp, ordering_then}
use Rattle.std.specs.declared.cmp.Ordering.{Ordering}
use Rattle.wasm_core.specs.ids.ImportId.{ImportId}
use Rattle.wasm_core.specs.declared.types.Import.{Import}
use Rattle.glue_shared.specs.declared.description.Lowered.{Lowered}
pub use Rattle.glue_names.specs.Handed.{is_among, own_pairs}
use Rattle.glue_naming.specs.Arranged.{text_order}

-- the name of the import at a place, where one stands
abbrev pub place_name : Lowered → ℕ → List ℕ
place_name l place = name_of (slice_get l.«module».imports place)
  where
    name_of : Option (Option Import) → List ℕ
    name_of (Some (Some i)) = i.name
    name_of other = []

-- pairs by the import's name, and then by the adapter's id
abbrev pub pair_order : Lowered → ImportId × ℕ → ImportId × ℕ → Ordering
pair_order l a b = ordering_then (text_order (place_name l a.0.0) (place_name l b.0.0)) (nat_cmp a.1 b.1)

-- places by the import's name, and then by their numbers
abbrev pub place_order : Lowered → ℕ → ℕ → Ordering
place_order l a b = ordering_then (text_order (place_name l a) (place_name l b)) (nat_cmp a b)
