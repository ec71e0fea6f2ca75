use Rattle.std.proofs.Common.{◌≡◌, ◌+◌, List, [], ◌∷◌, ◌++◌, cond, take, ap, sym, ◌∙◌, append_assoc}
use Rattle.std.specs.Prelude.{is_some}
use Rattle.std.proofs.lemmas.List.{take_more}
use Rattle.values.specs.Map.{look_up}
use Rattle.glue_shared.specs.declared.import.JsImportName.{JsImportName}
use Rattle.glue_published.specs.Reexports.{import_order}
use Rattle.glue_names.specs.Once.{has_name, each_new}
use Rattle.glue_names.proofs.SeenNames.{new-push, seen-push}
use Rattle.glue_names.proofs.once.each_new.Goals as goal

pub loop-name-preserved : goal.loop-name-preserved
loop-name-preserved c =
    let before = c.args.before.now in
    let list = c.args.list.now in
    let i = c.loop-name.name-index in
    let x = c.name-item.result in
    let seen = c.loop-name.seen in
    let inv = c.loop-name.invariant in
    let is : take (i + 1) list ≡ take i list ++ x ∷ [] = take_more list i x c.loop-name-test.true ∙ ap (λ (y : JsImportName). take i list ++ y ∷ []) (sym c.name-item.is) in
    record {
      new = c.in_ok-push_new.ensures.pushed
          ∙ ap (λ (new : List JsImportName). new ++ cond (is_some (look_up import_order seen x)) [] (x ∷ [])) inv.new
          ∙ ap (λ b. each_new before (take i list) ++ cond b [] (x ∷ [])) (inv.seen x)
          ∙ sym (new-push before (take i list) x)
          ∙ ap (each_new before) (sym is);
      seen = λ q.
          ap (λ es. is_some (look_up import_order es q)) c.in_ok-push_new.ensures.seen
          ∙ seen-push seen _ (before ++ take i list) x inv.seen q
          ∙ ap (has_name q) (append_assoc before (take i list) (x ∷ []))
          ∙ ap (λ (xs : List JsImportName). has_name q (before ++ xs)) (sym is);
    }
