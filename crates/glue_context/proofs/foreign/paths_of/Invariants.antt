use Rattle.glue_context.proofs.Common.{◌≡◌, take, map}
use Rattle.glue_context.specs.Foreign.{path_of}
use Rattle.glue_context.proofs.foreign.paths_of.Given as goal

abbrev pub invariant-loop-import : goal.invariant-loop-import
invariant-loop-import l = l.paths.items ≡ map path_of (take l.import-index l.imports)
