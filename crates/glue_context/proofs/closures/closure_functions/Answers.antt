use Rattle.printed_adapters.proofs.Used.{used_in_order}
use Rattle.glue_context.proofs.closures.closure_functions.Goals as goal

pub returns : goal.returns
returns g c = record {
  items = record {
    by_id = used_in_order c.args.basis.now.settings.now c.args.indexed.now (rw c.lowered-lowered.ensures.same at c.len-count.ensures.ordered);
    are = rw (c.as_slice.ensures, c.in_ok-ids.ensures.used, c.lowered-lowered.ensures.same) at c.in_ok-items.ensures.items;
  };
}
