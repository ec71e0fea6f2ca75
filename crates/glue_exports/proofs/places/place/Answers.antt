use Rattle.glue_targets.specs.PublicTree.{fronts}
use Rattle.glue_exports.proofs.Sets.{added_first}
use Rattle.glue_exports.proofs.places.place.Goals as goal

pub returns-clause-added : goal.returns-clause-added
returns-clause-added c =
    let e = c.args.entry.now in
    let added = c.in_ok-add_paths.ensures.added in
    let there = rw (c.in_ok-insert.ensures.entries, c.in_ok-copy.ensures.equal, c.path-2.ensures.path, c.in_ok-fronts.ensures.fronts, c.as_slice.ensures, c.path.ensures.path) at added in
    added_first c.args.placed.now c.add_paths.new.set e.0 _ (fronts e.0) there
