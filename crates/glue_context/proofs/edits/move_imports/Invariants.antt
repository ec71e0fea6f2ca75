use Rattle.glue_context.proofs.Common.{◌≡◌, take, map, filter_map, ImportId, move_of}
use Rattle.glue_context.proofs.edits.move_imports.Given as goal

abbrev pub invariant-loop-place : goal.invariant-loop-place
invariant-loop-place l = l.moves ≡ filter_map (move_of l.stem l.«module».imports) (map (λ (id : ImportId). id.0) (take l.place-index l.places))
