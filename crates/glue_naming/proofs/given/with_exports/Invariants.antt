use Rattle.std.proofs.Common.{◌≡◌, drop}
use Rattle.std.specs.List.{flat_map}
use Rattle.values.specs.TextSet.{with_texts}
use Rattle.glue_naming.specs.Given.{closure_export}
use Rattle.glue_naming.proofs.given.with_exports.Given as goal

abbrev pub invariant-loop-entry : goal.invariant-loop-entry
invariant-loop-entry g l =
    with_texts (g.N.Names.bound l.more) (flat_map (closure_export l.«module») (drop l.entry-index l.entries))
    ≡ with_texts (g.N.Names.bound l.fn.scope) (flat_map (closure_export l.«module») l.entries)
