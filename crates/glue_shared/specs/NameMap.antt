-- The names that are handed out.
use Rattle.std.specs.Prelude.{[]}
use Rattle.glue_shared.specs.declared.name_map.NameMap.{NameMap}

-- no name is handed out
abbrev pub no_names : NameMap
no_names = record { classes = []; registries = []; enums = []; functions = []; namespaces = []; imports = []; wasm = [] }
