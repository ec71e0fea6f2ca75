use Rattle.std.proofs.Common.{◌++◌, ap, ◌∙◌}
use Rattle.glue_targets.proofs.targets.file_name_of.Goals as goal

pub returns : goal.returns
returns c = record {
  named =
      c.in_ok-push_str-2.ensures.ok
      ∙ ap (λ l. l ++ c.args.after.now) (c.in_ok-push_str.ensures.ok ∙ ap (λ l. l ++ c.args.stem.now) c.in_ok-name.ensures);
}
