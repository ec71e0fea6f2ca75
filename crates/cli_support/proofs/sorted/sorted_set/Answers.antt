use Rattle.std.proofs.Common.{sym, subst}
use Rattle.cli_support.specs.Listed.{IsSortedSet}
use Rattle.cli_support.proofs.Listed.{sorted_is}
use Rattle.cli_support.proofs.sorted.sorted_set.Goals as goal

pub returns : goal.returns
returns c = record {
  set = subst (IsSortedSet c.args.texts.items) (sym c.from_vec.ensures)
      (sorted_is c.args.texts.items c.sort_unstable.new.self.items c.dedup.new.self.items c.sort_unstable.ensures.permutation c.sort_unstable.ensures.sorted c.dedup.ensures.filtered);
}
