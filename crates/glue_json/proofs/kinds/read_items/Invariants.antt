use Rattle.std.proofs.Common.{◌≡◌, map, drop, ◌++◌, option_map}
use Rattle.serde_json.specs.View.{view}
use Rattle.glue_json.specs.Reading.{read_all}
use Rattle.glue_json.proofs.kinds.read_items.Given as goal

abbrev pub invariant-loop-value : goal.invariant-loop-value
invariant-loop-value g l =
    read_all (g.T.Reads.reads l.counts) (map view l.values)
    ≡ option_map (λ xs. l.list.items ++ xs) (read_all (g.T.Reads.reads l.counts) (map view (drop l.value-index l.values)))
