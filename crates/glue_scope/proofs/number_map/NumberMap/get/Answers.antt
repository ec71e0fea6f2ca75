use Rattle.std.proofs.Common.{sym, ◌∙◌}
use Rattle.glue_scope.proofs.NumberMaps.{get_number_map}
use Rattle.glue_scope.proofs.number_map.NumberMap.get.Goals as goal

pub returns : goal.returns
returns c = let e = get_number_map c.self.inside.tree.entries c.args.key.now in rw (← c.self.view_is) (c.copied.ensures ∙ c.get.ensures.value ∙ sym e)
