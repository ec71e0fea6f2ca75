use Rattle.std.proofs.Common.{◌≡◌, map, drop}
use Rattle.values.specs.TextSet.{with_texts}
use Rattle.glue_names.specs.Given.{values_name}
use Rattle.glue_naming.proofs.given.with_enums.Given as goal

abbrev pub invariant-loop-texts : goal.invariant-loop-texts
invariant-loop-texts g l =
    with_texts (g.N.Names.bound l.more) (map values_name (drop l.texts-index l.enums)) ≡ with_texts (g.N.Names.bound l.fn.scope) (map values_name l.enums)
