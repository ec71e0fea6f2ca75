use Rattle.std.proofs.Common.{◌-◌, sym, ap, ◌∙◌, arith}
use Rattle.std.proofs.Math.Nat.{mod-lt}
use Rattle.helper_table.specs.declared.kinds.Single.TheVariants as single
use Rattle.helper_table.specs.declared.kinds.TableHelper.TheVariants as table
use Rattle.helper_table.specs.declared.kinds.Family.TheVariants as family
use Rattle.helper_table.specs.declared.kinds.TheConstants.{SINGLES, SINGLE, FAMILIES, FAMILY}
use Rattle.helper_table.specs.Made.{single_item, family_item}
use Rattle.helper_table.specs.Numbers.{single_made, family_made, at_place}
use Rattle.helper_table.proofs.Steps.{onto}
use Rattle.helper_table.proofs.items.helper_item.Goals as goal
use Rattle.helper_table.specs.Made.{family_of, place_of}

pub returns-then-node-lt-SINGLES : goal.returns-then-node-lt-SINGLES
returns-then-node-lt-SINGLES c = record {
  item =
      onto c.single_item.result _ _
      (ap (single_item c.args.parts.now) (at_place SINGLE c.args.node _ single.HandleError c.if-node-lt-SINGLES.true) ∙ sym
      (single_made c.args.parts.now c.args.node c.if-node-lt-SINGLES.true))
      c.single_item.ensures.item;
}

pub returns-else-node-lt-SINGLES : goal.returns-else-node-lt-SINGLES
returns-else-node-lt-SINGLES c = record {
  item =
      onto c.family_item.result _ _
      (ap (λ f. family_item c.args.parts.now f (place_of c.args.node))
      (at_place FAMILY (family_of c.args.node) _ (family.Table table.Get) (mod-lt (c.args.node - SINGLES) {m = FAMILIES} (omega arith)))
      ∙ sym (family_made c.args.parts.now c.args.node c.if-node-lt-SINGLES.false))
      c.family_item.ensures.item;
}
