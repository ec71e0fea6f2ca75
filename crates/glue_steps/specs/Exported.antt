-- The names under which a module exports.
use Rattle.std.specs.Prelude.{ℕ, List, Option, Some, None}
use Rattle.std.specs.List.{filter_map}
use Rattle.wasm_core.specs.Contents.{Contents}
use Rattle.wasm_core.specs.entries.Export.{Export}

-- the names of the live exports
abbrev pub export_name : Option Export → Option (List ℕ)
export_name None = None
export_name (Some e) = Some e.name

-- the names under which a module exports, in order
abbrev pub export_names : Contents → List (List ℕ)
export_names m = filter_map export_name m.exports
