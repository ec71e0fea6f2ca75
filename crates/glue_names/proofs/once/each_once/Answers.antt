use Rattle.std.proofs.Common.{◌≡◌, ◌+◌, List, [], ◌∷◌, ◌++◌, cond, take, ap, sym, ◌∙◌}
use Rattle.std.specs.Prelude.{is_some}
use Rattle.std.proofs.lemmas.List.{take_more}
use Rattle.values.specs.Map.{look_up}
use Rattle.glue_shared.specs.declared.import.JsImportName.{JsImportName}
use Rattle.glue_published.specs.Reexports.{import_order}
use Rattle.glue_names.specs.Once.{has_name, each_once}
use Rattle.glue_names.proofs.SeenNames.{once-push, seen-push}
use Rattle.glue_names.proofs.once.each_once.Goals as goal

pub loop-name-preserved : goal.loop-name-preserved
loop-name-preserved c =
    let list = c.args.list.now in
    let i = c.loop-name.name-index in
    let x = c.name-item.result in
    let seen = c.loop-name.seen in
    let inv = c.loop-name.invariant in
    let is : take (i + 1) list ≡ take i list ++ x ∷ [] = take_more list i x c.loop-name-test.true ∙ ap (λ (y : JsImportName). take i list ++ y ∷ []) (sym c.name-item.is) in
    record {
      once = c.in_ok-push_new.ensures.pushed
          ∙ ap (λ (once : List JsImportName). once ++ cond (is_some (look_up import_order seen x)) [] (x ∷ [])) inv.once
          ∙ ap (λ b. each_once (take i list) ++ cond b [] (x ∷ [])) (inv.seen x)
          ∙ sym (once-push (take i list) x)
          ∙ ap each_once (sym is);
      seen = λ q.
          ap (λ es. is_some (look_up import_order es q)) c.in_ok-push_new.ensures.seen
          ∙ seen-push seen _ (take i list) x inv.seen q
          ∙ ap (has_name q) (sym is);
    }
