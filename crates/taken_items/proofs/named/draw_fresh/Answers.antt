use Rattle.std.proofs.Common.{◌∙◌}
use Rattle.taken_items.proofs.ItemNames.{fresh_drawn}
use Rattle.taken_items.proofs.named.draw_fresh.Goals as goal

pub returns-clause-fresh : goal.returns-clause-fresh
returns-clause-fresh g c =
    c.new.ensures
    ∙ fresh_drawn (g.N.Names.bound c.args.scope.now) c.args.wanted.now _ c.requires.few c.in_ok-generate.ensures.first
