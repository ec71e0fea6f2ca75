use Rattle.std.proofs.Common.{◌≡◌, ◌++◌, take}
use Rattle.std.specs.List.{filter, flat_map}
use Rattle.glue_words.specs.Limits.{is_computed}
use Rattle.glue_context.specs.Keys.{import_properties}
use Rattle.cli_support.proofs.keys.push_imports.Given as goal

abbrev pub invariant-loop-import : goal.invariant-loop-import
invariant-loop-import l = l.out.items ≡ l.fn.out.items ++ flat_map (λ e. filter is_computed (import_properties e.1)) (take l.import-index l.imports)
