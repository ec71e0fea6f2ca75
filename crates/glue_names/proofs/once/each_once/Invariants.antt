use Rattle.std.proofs.Common.{◌≡◌, take}
use Rattle.std.specs.Prelude.{is_some}
use Rattle.values.specs.Map.{look_up}
use Rattle.glue_shared.specs.declared.import.JsImportName.{JsImportName}
use Rattle.glue_published.specs.Reexports.{import_order}
use Rattle.glue_names.specs.Once.{has_name, each_once}
use Rattle.glue_names.proofs.once.each_once.Given as goal

abbrev pub invariant-loop-name : goal.invariant-loop-name
invariant-loop-name l = record {
  once : l.once ≡ each_once (take l.name-index l.list);
  seen : (q : JsImportName) → is_some (look_up import_order l.seen q) ≡ has_name q (take l.name-index l.list);
}
