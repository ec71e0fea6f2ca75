use Rattle.std.proofs.Common.{sym, ap}
use Rattle.std.specs.Prelude.{option_map}
use Rattle.wasm_core.specs.entries.ExportItem.TheVariants as items
use Rattle.glue_shared.proofs.kept.func_item.Goals as goal

pub returns-in-Some : goal.returns-in-Some
returns-in-Some c = record { item = sym (ap (option_map items.Func) c.in-Some.is) }
