-- What is set for a call, its input, and what setters set.
use Rattle.std.specs.Prelude.{ℕ, Bool, true, false, not, ◌||◌, List, [], Option, Some, None}
use Rattle.wasm_core.specs.declared.types.ParseConfig.{ParseConfig}
use Rattle.glue_shared.specs.declared.settings.Settings.{Settings}
use Rattle.glue_shared.specs.declared.settings.Target.{Target}
use Rattle.glue_shared.specs.declared.settings.Target.TheVariants as target
use Rattle.glue_shared.specs.declared.settings.EncodeInto.{EncodeInto}
use Rattle.glue_shared.specs.declared.settings.EncodeInto.TheVariants as encode
use Rattle.glue_check.specs.declared.files.FileFlags.{FileFlags}
use Rattle.cli_support.specs.declared.bindgen.Flags.{Flags}
use Rattle.cli_support.specs.declared.bindgen.Handed.{Handed}

-- the name that the files begin with, and what was handed in under it: a module's bytes, a module, or none any more where a call took it
abbrev pub Input : Type 0
Input = List ℕ × Handed

-- what the setters have set, and the input
pub record Configured : Type 0 where
  pub target : Target
  pub flags : Flags
  pub encode_into : EncodeInto
  pub out_name : Option (List ℕ)
  pub debug_info_url : Option (List ℕ)
  pub input : Option Input

-- what is turned on at the start
abbrev pub first_flags : Bool → Bool → Flags
first_flags externref multi_value = record {
  externref = externref;
  multi_value = multi_value;
  debug = false;
  typescript = false;
  omit_imports = false;
  demangle = true;
  keep_lld_exports = false;
  export_wasm = false;
  keep_debug = false;
  split_debug_info = false;
  remove_name_section = false;
  remove_producers_section = false;
  emit_start = true;
  omit_default_module_path = true;
  ts_typed_array_buffers = false;
  split_linked_modules = false;
  js_string_builtins = false;
  reset_state = false;
  force_abort = false;
}

-- the settings at the start: the bundler's files, and no input
abbrev pub fresh : Bool → Bool → Configured
fresh externref multi_value = record {
  target = target.Bundler false;
  flags = first_flags externref multi_value;
  encode_into = encode.Test;
  out_name = None;
  debug_info_url = None;
  input = None;
}

-- the name of the input, where there is one
abbrev pub stem_of : Option Input → List ℕ
stem_of None = []
stem_of (Some input) = input.0

-- the settings of a call, for files that begin with this name
abbrev pub settings_of : Configured → List ℕ → Settings
settings_of c stem = record {
  stem = stem;
  target = c.target;
  debug = c.flags.debug;
  typescript = c.flags.typescript;
  omit_imports = c.flags.omit_imports;
  export_wasm = c.flags.export_wasm;
  externref = c.flags.externref;
  multi_value = c.flags.multi_value;
  encode_into = c.encode_into;
  omit_default_module_path = c.flags.omit_default_module_path;
  ts_typed_array_buffers = c.flags.ts_typed_array_buffers;
  split_linked_modules = c.flags.split_linked_modules;
  js_string_builtins = c.flags.js_string_builtins;
  reset_state = c.flags.reset_state;
  force_abort = c.flags.force_abort;
}

-- the settings of a call, for files that begin with the name of the input
abbrev pub call_settings : Configured → Settings
call_settings c = settings_of c (stem_of c.input)

-- what is set that decides on files
abbrev pub file_flags : Flags → FileFlags
file_flags flags = record { split_debug_info = flags.split_debug_info; demangle = flags.demangle }

-- how a byte input is read and written: debug sections where they are kept or split off, names and producers unless they are left out
abbrev pub reading : Flags → ParseConfig
reading flags = record {
  keep_debug = flags.keep_debug || flags.split_debug_info;
  names = not flags.remove_name_section;
  producers = not flags.remove_producers_section;
}

-- the bundler's target stands
abbrev pub is_bundler : Target → Bool
is_bundler (target.Bundler browser_only) = true
is_bundler target.Web = false
is_bundler (target.NoModules global) = false
is_bundler (target.Node is_module) = false
is_bundler target.Deno = false
is_bundler target.Module = false
is_bundler target.Emscripten = false

-- the bundler's target stands, or none is chosen now
abbrev pub is_free : Bool → Target → Bool
is_free false t = true
is_free true t = is_bundler t

-- files for Deno, where that is chosen: strings are encoded in place
abbrev pub with_deno : Bool → Configured → Configured
with_deno true c = record c { target = target.Deno; encode_into = encode.Always }
with_deno false c = c

-- files for a target, where that is chosen
abbrev pub with_target : Bool → Target → Configured → Configured
with_target true t c = record c { target = t }
with_target false t c = c
