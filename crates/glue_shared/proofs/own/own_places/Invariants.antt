use Rattle.std.proofs.Common.{◌≡◌, ◌++◌, map, drop}
use Rattle.glue_shared.specs.Indexed.{is_own_by}
use Rattle.glue_shared.specs.Names.{own_places}
use Rattle.glue_shared.proofs.own.own_places.Given as goal

abbrev pub invariant-loop-place : goal.invariant-loop-place
invariant-loop-place l =
    map (λ id. id.0) l.places ++ own_places (is_own_by l.settings l.«module» l.implemented l.handed_on) l.place (drop l.place l.import-items)
    ≡ own_places (is_own_by l.settings l.«module» l.implemented l.handed_on) 0 l.import-items
