use Rattle.std.proofs.Common.{◌≡◌, drop}
use Rattle.std.specs.List.{filter_map}
use Rattle.values.specs.TextSet.{with_texts}
use Rattle.glue_steps.specs.Exported.{export_name}
use Rattle.taken_items.proofs.named.with_exports.Given as goal

abbrev pub invariant-loop-entry : goal.invariant-loop-entry
invariant-loop-entry g l =
    with_texts (g.N.Names.bound l.more) (filter_map export_name (drop l.entry-index l.exports))
    ≡ with_texts (g.N.Names.bound l.fn.scope) (filter_map export_name l.exports)
