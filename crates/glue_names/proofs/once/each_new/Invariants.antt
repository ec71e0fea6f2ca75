use Rattle.std.proofs.Common.{◌≡◌, ◌++◌, take}
use Rattle.std.specs.Prelude.{is_some}
use Rattle.values.specs.Map.{look_up}
use Rattle.glue_shared.specs.declared.import.JsImportName.{JsImportName}
use Rattle.glue_published.specs.Reexports.{import_order}
use Rattle.glue_names.specs.Once.{has_name, each_new}
use Rattle.glue_names.proofs.once.each_new.Given as goal

abbrev pub invariant-loop-name : goal.invariant-loop-name
invariant-loop-name l = record {
  new : l.new ≡ each_new l.before (take l.name-index l.list);
  seen : (q : JsImportName) → is_some (look_up import_order l.seen q) ≡ has_name q (l.before ++ take l.name-index l.list);
}
