use Rattle.std.proofs.Common.{false, sym, ap, subst, ◌∙◌}
use Rattle.glue_targets.specs.PublicTree.{fronts}
use Rattle.values.specs.Map.{AreInOrder}
use Rattle.glue_exports.specs.Fronts.{path_order}
use Rattle.glue_exports.specs.Tree.{AreParts}
use Rattle.glue_exports.proofs.Growing.{parts_more}
use Rattle.glue_exports.proofs.tree.ExportTree.define.Goals as goal

pub invariant_of-self-2 : goal.invariant_of-self-2
invariant_of-self-2 c =
    let grown = sym c.in_ok-insert.ensures.entries in
    subst (AreParts false c.add_paths.new.set) grown (
    parts_more c.self.inside.definitions c.args.path c.args.definition (sym c.if-clashes.ensures.test)
    c.self.inside.fronts c.add_paths.new.set c.in_ok-fronts.fronts.items
    (c.self.invariant.counted c.if-self.false) c.self.invariant.are_tree
    (subst (AreInOrder path_order) c.in_ok-insert.ensures.entries c.in_ok-insert.ensures.ordered)
    c.requires.rooted (c.in_ok-fronts.ensures.fronts ∙ ap fronts c.as_slice.ensures) c.in_ok-add_paths.ensures.added)
