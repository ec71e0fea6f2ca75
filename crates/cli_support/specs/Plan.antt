-- The planned files.
use Rattle.std.specs.Prelude.{List, [], ◌∷◌, ◌++◌, codes, true, false}
use Rattle.wasm_emission.specs.Emission.{bytes_of}
use Rattle.glue_ends.specs.declared.plan.PlannedFile.{PlannedFile}
use Rattle.glue_layout.specs.Layout.{indented}
use Rattle.cli_support.specs.Generating.{Made}

-- the module's bytes, and the glue file with its lines indented
abbrev pub plan_of : Made → List PlannedFile
plan_of o =
    record { path = o.settings.stem ++ codes "_bg.wasm"; bytes = bytes_of o.«module»; is_text = false }
    ∷ record { path = o.settings.stem ++ codes ".js"; bytes = indented o.js; is_text = true } ∷ []
