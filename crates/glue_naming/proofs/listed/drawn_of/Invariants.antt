use Rattle.std.proofs.Common.{◌≡◌, take}
use Rattle.std.specs.Prelude.{filter_map}
use Rattle.glue_naming.specs.Listed.{drawn_import}
use Rattle.glue_naming.proofs.listed.drawn_of.Given as goal

abbrev pub invariant-loop-import : goal.invariant-loop-import
invariant-loop-import l = l.list ≡ filter_map (drawn_import l.names) (take l.import-index l.imports)
