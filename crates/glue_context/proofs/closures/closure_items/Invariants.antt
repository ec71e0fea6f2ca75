use Rattle.glue_context.proofs.Common.{take, AllZip}
use Rattle.glue_context.specs.ClosureItems.{IsClosureItem}
use Rattle.glue_context.proofs.closures.closure_items.Given as goal

abbrev pub invariant-loop-id : goal.invariant-loop-id
invariant-loop-id g l = AllZip (IsClosureItem l.basis.settings.now l.basis.names.now l.indexed) (take l.id-index l.ids) l.items
