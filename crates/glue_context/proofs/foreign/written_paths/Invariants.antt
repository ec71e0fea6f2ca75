use Rattle.glue_context.proofs.Common.{◌≡◌, take, map, fold}
use Rattle.glue_context.specs.Foreign.{path_of, with_move}
use Rattle.glue_context.proofs.foreign.written_paths.Given as goal

abbrev pub invariant-loop-entry : goal.invariant-loop-entry
invariant-loop-entry l = l.paths.items ≡ fold with_move (map path_of l.imports) (take l.entry-index l.moves)
