-- What an output is, for a module's bytes.
use Rattle.std.specs.Prelude.{◌≡◌, ℕ, List, true, false, codes, Some, None, Ok}
use Rattle.cli_support.specs.Contents.{Contents}
use Rattle.cli_support.specs.Parsing.{module_of}
use Rattle.cli_support.specs.settings.Settings.{Settings}
use Rattle.cli_support.specs.description.Lowered.{Lowered}
use Rattle.cli_support.specs.Lowering.{lowered_of}
use Rattle.cli_support.specs.Configured.{Configured, settings_of, fresh, with_deno, reading, file_flags}
use Rattle.cli_support.specs.prepared.Prepared.{Prepared}
use Rattle.cli_support.specs.Prepared.{prepared}
use Rattle.cli_support.specs.Generating.{Made, collected_description, check_fault, IsMadeOf}

-- what the words `--target deno` set
abbrev pub deno : Configured
deno = with_deno true (fresh false false)

-- the settings of the program's call
abbrev pub deno_settings : Settings
deno_settings = settings_of deno (codes "out")

-- The output is made of the description in the module that the bytes are: its items are linked with its module, define each own
-- import once, by a function that means its adapter, and publish exactly the described tree; its text prints the items; and its
-- module is the one that was read, without debug sections, without its description and the marker of Emscripten, without the exports
-- that a linker makes for itself, with its own tag of C++ exceptions where it brought one in, with this program among its producers,
-- nothing kept but what can be reached from the exports and from what the description names, its own imports moved, and its start
-- function exported.
--
-- The settings are those of the program's call, with the features on that the module uses. Nothing is asked for that isn't built, and no
-- condition of a fault is met.
pub record IsOutputOf (bytes : List ℕ) (o : Made) : Type 0 where
  pub «module» : Contents
  pub read : module_of (reading deno.flags) bytes ≡ Ok «module»
  pub given : Prepared
  pub ready : prepared deno.flags.keep_lld_exports deno_settings «module» ≡ Ok given
  pub description : Lowered
  pub told : lowered_of given.settings given.«module» ≡ Some description
  pub passed : check_fault (file_flags deno.flags) given.settings (collected_description description) ≡ None
  pub made : IsMadeOf given.settings (collected_description description) o
  pub features : o.features_missing ≡ given.features_missing
