use Rattle.std.proofs.Common.{◌≡◌}
use Rattle.std.specs.Prelude.{◌||◌, is_some}
use Rattle.std.specs.List.{list_any}
use Rattle.values.specs.Map.{look_up}
use Rattle.glue_shared.specs.Paths.{Path}
use Rattle.glue_targets.specs.PublicTree.{same_path}
use Rattle.glue_exports.specs.Fronts.{path_order}
use Rattle.glue_exports.proofs.paths.add_paths.Given as goal

-- what is added, with what is still to be, is what is added in all
abbrev pub invariant-loop-path : goal.invariant-loop-path
invariant-loop-path l = (path : Path) →
    (is_some (look_up path_order l.set path) || list_any (same_path path) l.path-iterator.rest.items)
    ≡ (is_some (look_up path_order l.fn.set path) || list_any (same_path path) l.fn.paths.items)
