use Rattle.std.proofs.Common.{ap, ◌∙◌}
use Rattle.taken_items.specs.ItemNames.{item_map}
use Rattle.glue_naming.proofs.AllNames.{are_names}
use Rattle.glue_naming.proofs.naming.names_of.Goals as goal

pub returns : goal.returns
returns g c = record {
  names = are_names c.args.settings.now c.args.lowered.now c.in_ok-list.list (g.N.Names.bound c.in_ok-scope.scope) c.as_slice.result.now c.in_ok-map.map
      c.in_ok-map-2.field-0 c.in_ok-list.ensures.wanted c.in_ok-scope.ensures.bound c.as_slice.ensures c.in_ok-map.ensures.drawn
      c.in_ok-map.ensures.good (c.in_ok-map-2.ensures.map ∙ ap item_map (c.as_slice-2.ensures ∙ c.in_ok-items.ensures.named));
}
