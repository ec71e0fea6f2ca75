use Rattle.std.proofs.Common.{◌≡◌, take, List, ℕ}
use Rattle.values.specs.Map.{look_up}
use Rattle.glue_order.specs.Order.{name_order}
use Rattle.glue_order.specs.Walks.{class_place}
use Rattle.glue_order.proofs.places.class_places.Given as goal

abbrev pub invariant-loop-place : goal.invariant-loop-place
invariant-loop-place l = (name : List ℕ) → look_up name_order l.places name ≡ class_place (take l.place l.level) name
