-- Which planned files may be written below a folder.
use Rattle.std.specs.Prelude.{ℕ, ◌+◌, ◌==◌, List, [], ◌∷◌, ◌++◌, codes, Bool, ◌&&◌, ◌||◌, not, Option, Some, None, nat_eq, if◌then◌else◌}
use Rattle.std.specs.List.{starts_with, list_any, list_all}
use Rattle.std.specs.Str.{bytes_eq}
use Rattle.glue_ends.specs.declared.plan.PlannedFile.{PlannedFile}
use Rattle.planned_paths.specs.declared.problem.PathProblem.{PathProblem}
use Rattle.planned_paths.specs.declared.problem.PathProblem.TheVariants.{Astray, Clash}

-- ---- which paths lead below a folder

-- these bytes stand somewhere in others
abbrev pub holds : List ℕ → List ℕ → Bool
holds needle [] = starts_with nat_eq [] needle
holds needle (b ∷ bytes) = starts_with nat_eq (b ∷ bytes) needle || holds needle bytes

-- a byte that a name may have: any but NUL
abbrev pub is_name_byte : ℕ → Bool
is_name_byte byte = not (byte == 0)

-- no byte is NUL
abbrev pub has_names_alone : List ℕ → Bool
has_names_alone path = list_all is_name_byte path

-- a step stands between two `/`
abbrev pub has_step : List ℕ → List ℕ → Bool
has_step step framed = holds (codes "/" ++ (step ++ codes "/")) framed

-- no step is empty, `.` or `..`
abbrev pub has_no_turn : List ℕ → Bool
has_no_turn framed = not (has_step [] framed || has_step (codes ".") framed || has_step (codes "..") framed)

-- the path leads below the folder that it is read from: framed by `/` no step is empty, as the first of an absolute path is, nor `.` nor `..`
abbrev pub is_below : List ℕ → Bool
is_below path = has_names_alone path && has_no_turn (codes "/" ++ (path ++ codes "/"))

-- the place of the first file whose path leads elsewhere, counted from a place
abbrev pub first_astray_from : ℕ → List PlannedFile → Option ℕ
first_astray_from place [] = None
first_astray_from place (file ∷ files) = if is_below file.path then first_astray_from (place + 1) files else Some place

-- the place of the first file whose path leads elsewhere
abbrev pub first_astray : List PlannedFile → Option ℕ
first_astray files = first_astray_from 0 files

-- ---- which paths clash

-- what stands before each `/` of what is left of a path, and the whole, where `front` stands before what is left
abbrev pub heads_after : List ℕ → List ℕ → List (List ℕ)
heads_after front [] = front ∷ []
heads_after front (b ∷ rest) =
    if b == 47 then front ∷ heads_after (front ++ b ∷ []) rest else heads_after (front ++ b ∷ []) rest

-- the folders that a path names, and then the path
abbrev pub heads : List ℕ → List (List ℕ)
heads path = heads_after [] path

-- the path is this one, or leads into it
abbrev pub covers : List ℕ → List ℕ → Bool
covers folder path = list_any (λ head. bytes_eq head folder) (heads path)

-- two paths are one, or one is a folder of the other
abbrev pub do_clash : List ℕ → List ℕ → Bool
do_clash path other = covers path other || covers other path

-- the place of the first file that clashes with one before it, where these are the paths before, counted from a place
abbrev pub first_clash_after : List (List ℕ) → ℕ → List PlannedFile → Option ℕ
first_clash_after before place [] = None
first_clash_after before place (file ∷ files) =
    if list_any (do_clash file.path) before then Some place else first_clash_after (before ++ file.path ∷ []) (place + 1) files

-- the place of the first file that clashes with an earlier one
abbrev pub first_clash : List PlannedFile → Option ℕ
first_clash files = first_clash_after [] 0 files

-- ---- the first problem

-- a path that leads elsewhere comes before a clash
abbrev pub problem_at : Option ℕ → Option ℕ → Option PathProblem
problem_at (Some place) clash = Some (Astray place)
problem_at None (Some place) = Some (Clash place)
problem_at None None = None

-- the first problem of a list of files
abbrev pub problem_in : List PlannedFile → Option PathProblem
problem_in files = problem_at (first_astray files) (first_clash files)

-- the place of the file that a problem is of
abbrev pub place_of : PathProblem → ℕ
place_of (Astray place) = place
place_of (Clash place) = place
