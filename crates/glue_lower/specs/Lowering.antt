-- What is lowered from a module.
use Rattle.std.specs.Prelude.{ℕ, List, [], ◌∷◌, codes, Option, Some, None, option_map, option_and_then, if◌then◌else◌}
use Rattle.std.specs.List.{filter}
use Rattle.std.specs.Str.{is_utf8}
use Rattle.serde_json.specs.Read.{read}
use Rattle.wasm_core.specs.entries.Custom.{Custom}
use Rattle.wasm_core.specs.Contents.{Contents}
use Rattle.wasm_core.specs.Edits.{is_named, without_custom}
use Rattle.glue_shared.specs.declared.description.Description.{Description}
use Rattle.glue_shared.specs.declared.description.Lowered.{Lowered}
use Rattle.glue_shared.specs.declared.settings.Settings.{Settings}
use Rattle.glue_shared.specs.Description.{empty_description}
use Rattle.glue_json.specs.declared.counts.Counts.{Counts}
use Rattle.glue_json.specs.Reading.{counts_of}
use Rattle.glue_json.specs.Description.{description_of}

-- the name of the section that holds the description
abbrev pub section_name : List ℕ
section_name = codes "__wbg_glue"

-- the sections of that name
abbrev pub glue_sections : List Custom → List Custom
glue_sections customs = filter (is_named section_name) customs

-- the section, if there is one
abbrev pub listed : Option Custom → List Custom
listed None = []
listed (Some s) = s ∷ []

-- UTF-8 that is JSON, nested at most 127 deep, whose value is a description of a module with so many entries
abbrev pub description_in : Counts → List ℕ → Option Description
description_in c bytes = if is_utf8 bytes then option_and_then (description_of c) (read bytes) else None

-- what the sections describe: without one nothing is described, and two describe no module
abbrev pub described_by : Counts → List Custom → Option Description
described_by c [] = Some empty_description
described_by c (s ∷ []) = description_in c s.bytes
described_by c (s ∷ t ∷ more) = None

-- a module with its description
abbrev pub lowered : Contents → Description → Lowered
lowered m d = record { «module» = m; wit = d.wit; aux = d.aux }

-- the module without the section, and the description; or nothing
unfoldable pub lowered_of : Settings → Contents → Option Lowered
lowered_of settings m = option_map (lowered (without_custom section_name m)) (described_by (counts_of m) (glue_sections m.customs))
