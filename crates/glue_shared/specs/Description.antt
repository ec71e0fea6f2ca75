-- The description of a module of which nothing is described.
use Rattle.std.specs.Prelude.{[], false, None}
use Rattle.glue_shared.specs.declared.adapter.NonstandardWitSection.{NonstandardWitSection}
use Rattle.glue_shared.specs.declared.aux.WasmBindgenAux.{WasmBindgenAux}
use Rattle.glue_shared.specs.declared.description.Description.{Description}

-- no adapters
abbrev pub empty_wit : NonstandardWitSection
empty_wit = record { adapters = []; implements = []; exports = [] }

-- nothing beside the adapters
abbrev pub empty_aux : WasmBindgenAux
empty_aux = record {
  exports = [];
  imports = [];
  imports_with_catch = [];
  imports_with_variadic = [];
  structs = [];
  enums = [];
  string_enums = [];
  unions = [];
  reexports = [];
  snippets = [];
  local_modules = [];
  package_jsons = [];
  extra_typescript = [];
  static_slots = [];
  exn_store = None;
  externref_alloc = None;
  externref_drop = None;
  externref_drop_slice = None;
  destroy_closure = None;
  rethrow_critical = None;
  externref_table = None;
  function_table = None;
  stack_pointer = None;
  js_tag = None;
  wrapped_js_tag = None;
  uses_reinit = false;
  legacy_exception_handling = false;
}

-- nothing is described
abbrev pub empty_description : Description
empty_description = record { wit = empty_wit; aux = empty_aux }
