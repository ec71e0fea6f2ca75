-- Walks from entries along their parents, by the entries' places on a level.
use Rattle.std.specs.Prelude.{◌≡◌, ℕ, zero, suc, ◌+◌, Bool, true, false, List, [], ◌∷◌, map, Option, Some, None, slice_get}
use Rattle.std.specs.List.{position_from}
use Rattle.std.specs.Option.{option_and_then}
use Rattle.glue_order.specs.declared.walks.Walk.{Walk}
use Rattle.glue_order.specs.declared.ranks.Ranked.{Ranked}
use Rattle.std.specs.Ordering.{nat_cmp, ordering_then}
use Rattle.std.specs.declared.cmp.Ordering.{Ordering}
use Rattle.values.specs.Map.{look_up}
use Rattle.glue_order.specs.declared.entry.ExportEntry.{ExportEntry}
use Rattle.glue_order.specs.Order.{Entry, is_class, parent_name, name_order, rise, sweep}

-- ---- steps

-- the place of the class of this name, the first one
abbrev pub class_place : List Entry → List ℕ → Option ℕ
class_place level name = position_from (is_class name) 0 level

-- the place of an entry's parent
abbrev pub parent_place : List Entry → Entry → Option ℕ
parent_place level e = option_and_then (class_place level) (parent_name e.1)

-- the step from an entry to what stands at this place
abbrev pub step_to : Entry → Option ℕ → Option Entry → Walk
step_to e place None = record { end = None; sweep = 0 }
step_to e place (Some parent) = record { end = place; sweep = rise (name_order e.0 parent.0) }

-- the place of an entry's parent, by a map of places
abbrev pub parent_in : List (List ℕ × ℕ) → ExportEntry → Option ℕ
parent_in places entry = option_and_then (look_up name_order places) (parent_name entry)

-- a map of the places of a level's classes
abbrev pub ArePlaces : List Entry → List (List ℕ × ℕ) → Type 0
ArePlaces level places = (name : List ℕ) → look_up name_order places name ≡ class_place level name

-- the place that a name has, or where it has none and this passes, this place
abbrev pub first_of : Option ℕ → Bool → ℕ → Option ℕ
first_of (Some place) passes other = Some place
first_of None true other = Some other
first_of None false other = None

-- the step from an entry to its parent
abbrev pub first_step : List Entry → Entry → Walk
first_step level e = step_to e (parent_place level e) (option_and_then (slice_get level) (parent_place level e))

-- ---- walks

-- a walk of this sweep, and behind it this walk from its end
abbrev pub walk_on : ℕ → Option Walk → Walk
walk_on sweep None = record { end = None; sweep = sweep }
walk_on sweep (Some next) = record { end = next.end; sweep = sweep + next.sweep }

-- a walk, and behind it the one of these that begins at its end
abbrev pub then_walk : List Walk → Walk → Walk
then_walk walks walk = walk_on walk.sweep (option_and_then (slice_get walks) walk.end)

-- the walks of one step and so many more
abbrev pub walks : List Walk → ℕ → List Walk
walks steps zero = steps
walks steps (suc more) = map (then_walk (walks steps more)) steps

-- ---- ranks

-- the sweep of the walk at a place, or 0 past the last
abbrev pub sweep_in : Option Walk → ℕ
sweep_in None = 0
sweep_in (Some walk) = walk.sweep

abbrev pub sweep_at : List Walk → ℕ → ℕ
sweep_at walks place = sweep_in (slice_get walks place)

-- entries with the sweeps of the walks from this place on
abbrev pub sweeps_from : List Walk → ℕ → List Entry → List Ranked
sweeps_from walks place [] = []
sweeps_from walks place (e ∷ level) = record { sweep = sweep_at walks place; name = e.0; entry = e.1 } ∷ sweeps_from walks (place + 1) level

-- an entry with its name
abbrev pub ranked_entry : Ranked → Entry
ranked_entry r = (r.name, r.entry)

-- by sweep, and then by name
abbrev pub rank_order : Ranked → Ranked → Ordering
rank_order x y = ordering_then (nat_cmp x.sweep y.sweep) (name_order x.name y.name)
