use Rattle.glue_public.proofs.Public.{public_items}
use Rattle.glue_public.proofs.items.described_items.Goals as goal

pub returns-clause-items : goal.returns-clause-items
returns-clause-items c = record {
  tree = c.in_ok-tree.tree;
  put = c.in_ok-tree.ensures.tree;
  are = c.in_ok-tree_items.ensures.items;
}

pub returns-clause-public : goal.returns-clause-public
returns-clause-public c = λ settings covered.
    public_items c.args.aux.now c.args.names.now c.args.functions c.in_ok-tree.tree c.in_ok-tree.ensures.tree settings covered
    c.in_ok-tree_items.field-0 c.in_ok-tree_items.ensures.published
