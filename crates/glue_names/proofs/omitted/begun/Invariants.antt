use Rattle.std.proofs.Common.{◌≡◌, take}
use Rattle.glue_names.specs.Omitted.{begun}
use Rattle.glue_names.proofs.omitted.begun.Given as goal

abbrev pub invariant-loop-import : goal.invariant-loop-import
invariant-loop-import l = l.list ≡ begun (take l.import-index l.imports)
