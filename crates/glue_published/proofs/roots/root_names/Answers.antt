use Rattle.std.proofs.Common.{◌∙◌, ap}
use Rattle.std.specs.List.{list_any}
use Rattle.std.specs.Str.{bytes_eq}
use Rattle.std.proofs.lemmas.Result.{IfOk-weaker}
use Rattle.glue_published.specs.Reexports.{has_members}
use Rattle.glue_published.proofs.RootNames.{are_roots}
use Rattle.glue_published.proofs.roots.root_names.Goals as goal

pub returns : goal.returns
returns c =
    let settings = c.args.settings.now in
    let aux = c.args.aux.now in record {
      roots = IfOk-weaker c.names_besides.result _ _
          (λ names are. are_roots settings aux c.in_ok-parents.parents c.in_ok-reexported.reexported names
          (λ name. c.in_ok-parents.ensures.parents name ∙ ap (λ things. has_members things name) (c.as_slice.ensures ∙ c.in_ok-things.ensures.things))
          (λ name. c.in_ok-reexported.ensures.names name ∙ ap (λ reexports. list_any (λ r. bytes_eq r.0 name) reexports) c.as_slice-2.ensures)
          c.names_besides.ensures.rises are)
          c.names_besides.ensures.names;
    }
