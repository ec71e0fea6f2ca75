use Rattle.std.specs.String.{string_bytes}
use Rattle.glue_scope.proofs.NumberMaps.{number_map_insert}
use Rattle.glue_scope.proofs.number_map.NumberMap.insert.Goals as goal

pub returns-clause-ok : goal.returns-clause-ok
returns-clause-ok c =
    rw (← c.self.view_is) (number_map_insert (string_bytes c.args.key) c.self.inside.tree c.insert.new.self c.args.value c.in_ok-insert.ensures.updates)
