-- What a fault is told with.
use Rattle.std.specs.Prelude.{◌≡◌, ℕ, List, [], ◌++◌, codes, Option, Some, None}
use Rattle.std.specs.Fmt.{decimal}
use Rattle.glue_faults.specs.declared.fault.Fault.{Fault}
use Rattle.glue_faults.specs.declared.fault.Fault.TheVariants as faults
use Rattle.glue_faults.specs.Named.{fault_name}
use Rattle.fault_words.specs.Sections.{section_words}
use Rattle.shown_names.specs.Shown.{shown}

-- a text begins with another
pub record Begins (front whole : List ℕ) : Type 0 where
  pub rest : List ℕ
  pub is : whole ≡ front ++ rest

-- a fault's name, a colon and a space
abbrev pub head : Fault → List ℕ
head fault = fault_name fault ++ codes ": "

-- where a place lies, between commas, where the file's bytes are known
abbrev pub known_section : Option (List ℕ) → ℕ → List ℕ
known_section None place = []
known_section (Some bytes) place = section_words bytes place ++ codes ","

-- The numbers and names that a fault holds, as a text; nothing of a fault that holds none. The bytes are those of the module, where they
-- are known.
unfoldable pub held : Option (List ℕ) → Fault → List ℕ
held bytes (faults.Parse place) = codes "byte " ++ (decimal place ++ known_section bytes place)
held bytes (faults.NotBuilt what) = shown what
held bytes (faults.UnsupportedInstr adapter name) = codes "adapter " ++ (decimal adapter ++ (codes ": " ++ shown name))
held bytes (faults.BadAdapter adapter) = codes "adapter " ++ decimal adapter
held bytes (faults.UnboundImport id) = codes "import " ++ decimal id.0
held bytes (faults.BadName name) = shown name
held bytes (faults.GlobalTwice name) = shown name
held bytes (faults.NameClash name) = shown name
held bytes (faults.ModuleClash from) = shown from
held bytes (faults.UnknownClass name) = shown name
held bytes (faults.UnknownParent name) = shown name
held bytes (faults.FixedMember name) = shown name
held bytes (faults.DuplicateConstructor name) = shown name
held bytes (faults.DuplicateAccessor owner name) = shown owner ++ (codes ", " ++ shown name)
held bytes (faults.ExportClash name) = shown name
held bytes (faults.FixedExport name) = shown name
held bytes (faults.BadReexport name) = shown name
held bytes (faults.ParentLater name) = shown name
held bytes (faults.NoModulesImport from) = shown from
held bytes (faults.LinkNotEmbedded path) = shown path
held bytes (faults.MissingPart part) = shown part
held bytes other = []
