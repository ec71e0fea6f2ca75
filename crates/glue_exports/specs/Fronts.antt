-- Paths, their order, and the paths that others run through.
use Rattle.std.specs.Prelude.{◌≡◌, Bool, ◌||◌, is_some, List, [], ◌∷◌, map}
use Rattle.std.specs.List.{list_any}
use Rattle.std.specs.Ordering.{nat_cmp}
use Rattle.std.specs.Cmp.Lexicographic.{slice_cmp}
use Rattle.std.specs.declared.cmp.Ordering.{Ordering}
use Rattle.values.specs.Map.{look_up}
use Rattle.glue_shared.specs.Paths.{Path}
use Rattle.glue_targets.specs.PublicTree.{fronts, same_path}

-- the order of paths: segment by segment, each by its bytes, so that a path stands before those that run through it
abbrev pub path_order : Path → Path → Ordering
path_order = slice_cmp (slice_cmp nat_cmp)

-- the fronts of a path that aren't empty, itself among them
abbrev pub all_fronts : Path → List Path
all_fronts [] = []
all_fronts (segment ∷ path) = (segment ∷ []) ∷ map (λ front. segment ∷ front) (all_fronts path)

-- a path runs through each of its proper fronts
abbrev pub runs_through : Path → Path → Bool
runs_through path front = list_any (same_path front) (fronts path)

-- one of these paths runs through this one
abbrev pub is_run_through : List Path → Path → Bool
is_run_through paths front = list_any (λ path. runs_through path front) paths

-- the keys are exactly the paths that pass a test
abbrev pub AreKeys : List (Path × Bool) → (Path → Bool) → Type 0
AreKeys entries test = (path : Path) → is_some (look_up path_order entries path) ≡ test path

-- a path is a key behind the addition where it was one, or is added
abbrev pub AreAdded : List (Path × Bool) → List Path → List (Path × Bool) → Type 0
AreAdded old paths new =
    (path : Path) → is_some (look_up path_order new path) ≡ (is_some (look_up path_order old path) || list_any (same_path path) paths)
