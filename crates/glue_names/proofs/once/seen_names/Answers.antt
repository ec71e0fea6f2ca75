use Rattle.std.proofs.Common.{◌≡◌, ◌+◌, [], ◌∷◌, ◌++◌, take, ap, sym, ◌∙◌}
use Rattle.std.specs.BTreeMap.{insert_entry}
use Rattle.std.specs.Prelude.{is_some}
use Rattle.std.proofs.lemmas.List.{take_more}
use Rattle.values.specs.Map.{look_up}
use Rattle.glue_shared.specs.declared.import.JsImportName.{JsImportName}
use Rattle.glue_published.specs.Reexports.{import_order}
use Rattle.glue_names.specs.Once.{has_name}
use Rattle.glue_names.proofs.SeenNames.{seen-push}
use Rattle.glue_names.proofs.once.seen_names.Goals as goal

pub loop-name-preserved : goal.loop-name-preserved
loop-name-preserved c =
    let before = c.args.before.now in
    let i = c.loop-name.name-index in
    let x = c.name-item.result in
    let is : take (i + 1) before ≡ take i before ++ x ∷ [] =
    take_more before i x c.loop-name-test.true ∙ ap (λ (y : JsImportName). take i before ++ y ∷ []) (sym c.name-item.is) in
    λ q.
    ap (λ es. is_some (look_up import_order es q)) c.in_ok-insert.ensures.entries
    ∙ ap (λ (name : JsImportName). is_some (look_up import_order (insert_entry import_order c.loop-name.seen name tt) q)) c.in_ok-copied_import.ensures.equal
    ∙ seen-push c.loop-name.seen _ (take i before) x c.loop-name.invariant q
    ∙ ap (has_name q) (sym is)
