-- What unpacking a text comes to.
use Rattle.std.specs.Prelude.{◌≡◌, ◌⊎◌, ◌<◌, ℕ, List, [], length, map, take, slice_get, Option, Some, None, option_map}
use Rattle.values.specs.Count.{Rose}
use Rattle.glue_ends.specs.Listing.{listing}
use Rattle.glue_ends.specs.declared.plan.PlannedFile.{PlannedFile}
use Rattle.planned_paths.specs.Paths.{problem_in}
use Rattle.planned_paths.specs.declared.problem.PathProblem.TheVariants.{Astray as AstrayAt, Clash as ClashAt}
use Rattle.file_listing.specs.Reading.{AreListable, IsFault}
use Rattle.glue_unpack.specs.Putting.{put_of, Puts}
use Rattle.glue_unpack.specs.declared.file.PutFile.{PutFile}
use Rattle.glue_unpack.specs.declared.fault.UnpackFault.{UnpackFault}
use Rattle.glue_unpack.specs.declared.fault.UnpackFault.TheVariants.{Listing, Astray, Clash, Put, OutOfMemory}
use Rattle.glue_unpack.specs.declared.stop.Stop.{Stop}
use Rattle.glue_unpack.specs.declared.stop.Stop.TheVariants.{At, OutOfMemory as NoMemory}

-- the file at a place has this path
abbrev pub IsNamed : List PlannedFile → ℕ → List ℕ → Type 0
IsNamed files place path = option_map (λ file. file.path) (slice_get files place) ≡ Some path

-- the first problem is this path, which leads elsewhere
pub record IsAstray (files : List PlannedFile) (path : List ℕ) : Type 0 where
  pub place : ℕ
  pub first : problem_in files ≡ Some (AstrayAt place)
  pub named : IsNamed files place path

-- the first problem is this path, which clashes
pub record IsClash (files : List PlannedFile) (path : List ℕ) : Type 0 where
  pub place : ℕ
  pub first : problem_in files ≡ Some (ClashAt place)
  pub named : IsNamed files place path

-- the files were put, and there are so many
pub record IsAllPut (files : List PlannedFile) (old new : Option (List PutFile)) (count : ℕ) : Type 0 where
  pub fine : problem_in files ≡ None
  pub put : Puts old new (map put_of files)
  pub all : count ≡ length files

-- the files before this one were put, and it could not be
pub record IsCut (files : List PlannedFile) (old new : Option (List PutFile)) (before now : ℕ) (path : List ℕ) : Type 0 where
  pub fine : problem_in files ≡ None
  pub place : ℕ
  pub named : IsNamed files place path
  pub put : Puts old new (map put_of (take place files))
  pub rose : Rose before now

-- some of the first files were put, if any
pub record IsFront (files : List PlannedFile) (old new : Option (List PutFile)) : Type 0 where
  pub count : ℕ
  pub put : Puts old new (map put_of (take count files))

-- where the putting of files stopped
abbrev pub IsStop : List PlannedFile → Option (List PutFile) → Option (List PutFile) → ℕ → ℕ → Stop → Type 0
IsStop files old new before now (At place) = (place < length files) × Puts old new (map put_of (take place files)) × Rose before now
IsStop files old new before now NoMemory = IsFront files old new

-- why these files were not all put, and what was put
abbrev pub IsRefusal : List PlannedFile → Option (List PutFile) → Option (List PutFile) → ℕ → ℕ → UnpackFault → Type 0
IsRefusal files old new before now (Listing fault) = ⊥
IsRefusal files old new before now (Astray path) = IsAstray files path × Puts old new []
IsRefusal files old new before now (Clash path) = IsClash files path × Puts old new []
IsRefusal files old new before now (Put path) = IsCut files old new before now path
IsRefusal files old new before now OutOfMemory = IsFront files old new

-- the text is the listing of files of which this holds
pub record Lists (text : List ℕ) (holds : List PlannedFile → Type 0) : Type 0 where
  pub files : List PlannedFile
  pub listable : AreListable files
  pub whole : listing files ≡ text
  pub are : holds files

-- the text is the listing of files without a problem, so many, and exactly these were put
abbrev pub IsUnpacked : List ℕ → Option (List PutFile) → Option (List PutFile) → ℕ → Type 0
IsUnpacked text old new count = Lists text (λ files. IsAllPut files old new count)

-- why the files of a text were not all put, and what was put: nothing where the text is no listing or a path is no path below the folder,
-- the files before the one that failed, and where memory ran out some of the first
abbrev pub IsRefused : List ℕ → Option (List PutFile) → Option (List PutFile) → ℕ → ℕ → UnpackFault → Type 0
IsRefused text old new before now (Listing fault) = IsFault text fault.place × Puts old new []
IsRefused text old new before now (Astray path) = Lists text (λ files. IsAstray files path) × Puts old new []
IsRefused text old new before now (Clash path) = Lists text (λ files. IsClash files path) × Puts old new []
IsRefused text old new before now (Put path) = Lists text (λ files. IsCut files old new before now path)
IsRefused text old new before now OutOfMemory = Puts old new [] ⊎ Lists text (λ files. IsFront files old new)
