use Rattle.std.proofs.Common.{rules, ◌≡◌}
use Rattle.taken_items.specs.ItemNames.{named_items}
use Rattle.taken_items.proofs.ItemNames.{added_fresh}
use Rattle.taken_items.proofs.named.named_items.Goals as goal

pub returns-clause-fresh : goal.returns-clause-fresh
returns-clause-fresh g c =
    let named : c.loop-entry.named ≡ named_items c.args.«module».now (g.N.Names.bound c.args.scope) c.args.items.now = search rules in
    added_fresh c.args.«module».now (g.N.Names.bound c.args.scope) c.args.items.now c.loop-entry.named c.requires.few named
