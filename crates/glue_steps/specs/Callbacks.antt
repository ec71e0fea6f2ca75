-- What an index of the exports tells after which functions of closures' adapters are named.
use Rattle.std.specs.Prelude.{◌≡◌, ℕ, List}
use Rattle.std.specs.Ordering.{nat_cmp}
use Rattle.values.specs.Map.{look_up}
use Rattle.wasm_core.specs.ids.ExportId.{ExportId}
use Rattle.glue_steps.specs.Resolving.{callback_of}

-- an index gives each adapter the export of its first entry
abbrev pub GivesExport : List (ℕ × ExportId) → List (ExportId × ℕ) → Type 0
GivesExport exports entries = (id : ℕ) → look_up nat_cmp exports id ≡ callback_of entries id
