use Rattle.std.proofs.Common.{◌≡◌, ◌+◌, ◌<◌, ◌^◌, ◌++◌, length}
use Rattle.std.specs.FinSet as set
use Rattle.taken_items.specs.ItemNames.{named_items}
use Rattle.taken_items.proofs.named.named_items.Given as goal

abbrev pub invariant-loop-entry : goal.invariant-loop-entry
invariant-loop-entry g l =
    let bound = g.N.Names.bound in
    let rest = l.entry-iterator in record {
      few : 2 + set.len (bound l.scope) + length rest < 2 ^ 64;
      named : l.named ++ named_items l.«module» (bound l.scope) rest ≡ named_items l.«module» (bound l.fn.scope) l.items;
    }
