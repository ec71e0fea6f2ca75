use Rattle.std.proofs.Common.{◌≡◌, ◌++◌, take, map}
use Rattle.glue_shared.specs.declared.import.JsImportName.{JsImportName}
use Rattle.glue_naming.proofs.handed.push_names.Given as goal

abbrev pub invariant-loop-name : goal.invariant-loop-name
invariant-loop-name l = l.list ≡ l.initial.list ++ map (λ (name : JsImportName). (l.place, name)) (take l.name-index l.names)
