-- Links to files that can't be embedded.
use Rattle.std.specs.Prelude.{ℕ, Bool, true, false, List, Option, Some, None, option_map}
use Rattle.glue_shared.specs.declared.import.AuxImport.{AuxImport}
use Rattle.glue_shared.specs.declared.import.AuxImport.TheVariants as what
use Rattle.glue_shared.specs.declared.description.Lowered.{Lowered}
use Rattle.glue_shared.specs.declared.settings.Settings.{Settings}
use Rattle.glue_faults.specs.declared.fault.Fault.{Fault}
use Rattle.glue_faults.specs.declared.fault.Fault.TheVariants as faults
use Rattle.glue_faults.specs.First.{first_of}

-- the path of a link without content
abbrev pub bare_link : AuxImport → Option (List ℕ)
bare_link (what.LinkTo path None) = Some path
bare_link (what.LinkTo path (Some content)) = None
bare_link other = None

-- the path of a link without content, where linked modules aren't split off
abbrev pub unembedded : (split : Bool) → ℕ × AuxImport → Option (List ℕ)
unembedded true entry = None
unembedded false entry = bare_link entry.1

-- a link has no content, and linked modules aren't split off
abbrev pub link_not_embedded : Settings → Lowered → Option Fault
link_not_embedded settings l = option_map faults.LinkNotEmbedded (first_of (unembedded settings.split_linked_modules) l.aux.imports)
