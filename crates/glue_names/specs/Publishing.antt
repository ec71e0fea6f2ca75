-- What exports publish, and which target's glue file publishes imports too.
use Rattle.std.specs.Prelude.{ℕ, Bool, true, false, List}
use Rattle.glue_shared.specs.declared.aux.AuxExport.{AuxExport}
use Rattle.glue_shared.specs.declared.settings.Target.{Target}
use Rattle.glue_shared.specs.declared.settings.Target.TheVariants as targets
use Rattle.glue_shared.specs.Paths.{qualified_name}

-- the qualified name of an export
abbrev pub qualified : AuxExport → List ℕ
qualified e = qualified_name e.namespace e.name

abbrev pub is_bundler : Target → Bool
is_bundler (targets.Bundler browser_only) = true
is_bundler other = false
