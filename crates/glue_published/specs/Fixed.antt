-- Names under which the glue file publishes something itself, or that stand already where it publishes.
use Rattle.std.specs.Prelude.{ℕ, Bool, true, false, not, ◌&&◌, ◌||◌, ◌==◌, List, [], ◌∷◌, length, Option, option_map, find}
use Rattle.glue_shared.specs.Names.{is_one_of, fixed_public_names}
use Rattle.glue_shared.specs.Paths.{Path}
use Rattle.glue_shared.specs.declared.aux.WasmBindgenAux.{WasmBindgenAux}
use Rattle.glue_shared.specs.declared.settings.Settings.{Settings}
use Rattle.glue_shared.specs.declared.settings.Target.{Target}
use Rattle.glue_shared.specs.declared.settings.Target.TheVariants as targets
use Rattle.glue_faults.specs.declared.fault.Fault.{Fault}
use Rattle.glue_faults.specs.declared.fault.Fault.TheVariants as faults
use Rattle.glue_published.specs.declared.things.PublishedThing.{PublishedThing}
use Rattle.glue_published.specs.Things.{published_things}

-- a bundler's glue file publishes the imports that it defines
abbrev pub publishes_imports : Target → Bool
publishes_imports (targets.Bundler browser_only) = true
publishes_imports other = false

-- A name that the glue file publishes beside the description: one of the target's, or on a bundler the name of an import that it
-- defines, for which `own` is the test.
abbrev pub is_fixed_name : Settings → (own : List ℕ → Bool) → List ℕ → Bool
is_fixed_name settings own name = is_one_of (fixed_public_names settings) name || (publishes_imports settings.target && own name)

-- a path begins with such a name
abbrev pub begins_fixed : Settings → (own : List ℕ → Bool) → Path → Bool
begins_fixed settings own [] = false
begins_fixed settings own (segment ∷ path) = is_fixed_name settings own segment

-- a thing is published: it isn't private, or stands in a namespace
abbrev pub is_shown : PublishedThing → Bool
is_shown t = not (t.is_private && length t.path == 1)

abbrev pub is_fixed_thing : Settings → (own : List ℕ → Bool) → PublishedThing → Bool
is_fixed_thing settings own t = is_shown t && begins_fixed settings own t.path

-- the first thing that is published under such a name; `own` are the names of the imports that the glue file defines
abbrev pub fixed_thing : Settings → (own : List (List ℕ)) → WasmBindgenAux → Option Fault
fixed_thing settings own aux =
    option_map (λ t. faults.FixedExport t.qualified) (find (is_fixed_thing settings (is_one_of own)) (published_things settings aux))
