use Rattle.std.proofs.Common.{true, sym, ap, ◌∙◌}
use Rattle.std.specs.Prelude.{◌||◌, is_some}
use Rattle.std.specs.List.{list_any}
use Rattle.values.specs.Map.{look_up}
use Rattle.glue_targets.specs.PublicTree.{same_path}
use Rattle.glue_exports.specs.Fronts.{path_order}
use Rattle.glue_exports.proofs.Keys.{is_key_added, or_moved}
use Rattle.glue_exports.proofs.paths.add_paths.Goals as goal

pub loop-path-preserved : goal.loop-path-preserved
loop-path-preserved c = λ path. rw (c.in_ok-insert.ensures.entries) (
    ap (λ b. b || list_any (same_path path) c.next.new.self.rest.items) (is_key_added c.loop-path.set path c.in-Some.path true)
    ∙ or_moved (is_some (look_up path_order c.loop-path.set path)) (same_path path c.in-Some.path) _
    ∙ ap (λ paths. is_some (look_up path_order c.loop-path.set path) || list_any (same_path path) paths) (sym c.in-Some.ensures.steps.0)
    ∙ c.loop-path.invariant path)
