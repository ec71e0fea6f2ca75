-- The places of adapters in the list of their ids.
use Rattle.std.specs.Prelude.{◌≡◌, ℕ, ◌+◌, ◌==◌, Bool, false, List, [], ◌∷◌, Option, Some, None, if◌then◌else◌, slice_index_or}
use Rattle.std.specs.List.{filter_map}
use Rattle.std.specs.Ordering.{nat_cmp}
use Rattle.values.specs.Map.{look_up}
use Rattle.least_set.specs.Least.{is_marked}

-- the first place of an id in a list, the first entry of which has this place
abbrev pub place_from : ℕ → List ℕ → ℕ → Option ℕ
place_from first [] id = None
place_from first (i ∷ ids) id = if i == id then Some first else place_from (first + 1) ids id

-- the first place of an id in a whole list
abbrev pub place_in : List ℕ → ℕ → Option ℕ
place_in ids id = place_from 0 ids id

-- an index gives each id its first place
abbrev pub GivesPlaces : List (ℕ × ℕ) → ℕ → List ℕ → Type 0
GivesPlaces index first ids = (id : ℕ) → look_up nat_cmp index id ≡ place_from first ids id

-- the id at a place
abbrev pub id_at : List ℕ → ℕ → ℕ
id_at ids place = slice_index_or ids place 0

-- there is a mark at the place, if there is one
abbrev pub is_marked_at : List Bool → Option ℕ → Bool
is_marked_at marks None = false
is_marked_at marks (Some place) = is_marked marks place

-- the place of an id has a mark
abbrev pub has_mark : List ℕ → List Bool → ℕ → Bool
has_mark ids marks id = is_marked_at marks (place_in ids id)

-- the places of these ids, as far as they are in the list
abbrev pub places_of : List ℕ → List ℕ → List ℕ
places_of ids some = filter_map (place_in ids) some
