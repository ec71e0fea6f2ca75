use Rattle.glue_context.proofs.Common.{ℕ, List, Option, ap, ◌∙◌, list_any, own_imports, modules_from}
use Rattle.glue_context.specs.Foreign.{is_string_import}
use Rattle.glue_context.proofs.Paths.{written_are}
use Rattle.glue_context.proofs.foreign.handed_on.Goals as goal

pub returns : goal.returns
returns c =
    let s = c.args.settings.now in
    let l = c.args.lowered.now in record {
      modules = rw (c.in_ok-own.ensures.places, c.as_slice-2.ensures.value, c.in_ok-paths.ensures.written, c.imports.ensures, c.as_slice.ensures, c.in_ok-moves.ensures.moves) at (c.in_ok-modules.ensures.modules)
          ∙ ap (λ (paths : List (Option (List ℕ))). modules_from (own_imports s l.«module» l.wit l.aux) 0 paths) (written_are s l);
      strings = rw (c.as_slice-3.ensures.value, c.in_ok-paths.ensures.written, c.imports.ensures, c.as_slice.ensures, c.in_ok-moves.ensures.moves) at (c.has_string_import-strings.ensures.test)
          ∙ ap (list_any is_string_import) (written_are s l);
    }
