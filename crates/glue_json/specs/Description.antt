-- What a whole description is, as a JSON value.
use Rattle.std.specs.Prelude.{ℕ, ◌==◌, List, [], ◌∷◌, false, codes, Option, Some, None}
use Rattle.serde_json.specs.Data.{Data}
use Rattle.serde_json.specs.Find.{get, as_bool, as_str}
use Rattle.glue_shared.specs.declared.adapter.NonstandardWitSection.{NonstandardWitSection}
use Rattle.glue_shared.specs.declared.aux.WasmBindgenAux.{WasmBindgenAux}
use Rattle.glue_shared.specs.declared.description.Description.{Description}
use Rattle.glue_shared.specs.Description.{empty_aux}
use Rattle.glue_json.specs.declared.counts.Counts.{Counts}
use Rattle.glue_json.specs.Reading.{◌>>=◌, ◌>>◌, where_holds, only, field, field_or, list_at, maybe_at, list_of, map_of, pair_of, u32_of, import_of, wasm_export_of, func_of, table_of, global_of, tag_of}
use Rattle.glue_json.specs.Adapters.{adapters_of}
use Rattle.glue_json.specs.Imports.{described_import_of}
use Rattle.glue_json.specs.Members.{export_of, struct_of, enum_of, string_enum_of, union_of, reexport_of, slot_of}

-- the adapters, and what they stand for
unfoldable pub wit_of : Counts → Data → Option NonstandardWitSection
wit_of c d = do
  adapters ← adapters_of c d
  implements ← list_at (codes "implements") (pair_of (import_of c) u32_of) d
  exports ← list_at (codes "adapter_exports") (pair_of (wasm_export_of c) u32_of) d
  Some (record { adapters = adapters; implements = implements; exports = exports })

-- what is called from either side
unfoldable pub calls_of : Data → WasmBindgenAux → Option WasmBindgenAux
calls_of d aux = do
  exports ← list_at (codes "exports") export_of d
  imports ← list_at (codes "imports") described_import_of d
  imports_with_catch ← list_at (codes "catch") u32_of d
  imports_with_variadic ← list_at (codes "variadic") u32_of d
  Some (record aux { exports = exports; imports = imports; imports_with_catch = imports_with_catch; imports_with_variadic = imports_with_variadic })

-- what is declared
unfoldable pub types_of : Data → WasmBindgenAux → Option WasmBindgenAux
types_of d aux = do
  structs ← list_at (codes "structs") struct_of d
  enums ← list_at (codes "enums") enum_of d
  string_enums ← list_at (codes "string_enums") string_enum_of d
  unions ← list_at (codes "unions") union_of d
  reexports ← list_at (codes "reexports") reexport_of d
  Some (record aux { structs = structs; enums = enums; string_enums = string_enums; unions = unions; reexports = reexports })

-- texts that are handed on, and two truths
unfoldable pub texts_of : Data → WasmBindgenAux → Option WasmBindgenAux
texts_of d aux = do
  snippets ← field_or (codes "snippets") (map_of (list_of as_str)) [] d
  local_modules ← field_or (codes "local_modules") (map_of as_str) [] d
  package_jsons ← list_at (codes "package_jsons") as_str d
  extra_typescript ← list_at (codes "extra_typescript") as_str d
  static_slots ← list_at (codes "static_slots") slot_of d
  uses_reinit ← field_or (codes "uses_reinit") as_bool false d
  legacy_exception_handling ← field_or (codes "legacy_exception_handling") as_bool false d
  Some (record aux {
    snippets = snippets;
    local_modules = local_modules;
    package_jsons = package_jsons;
    extra_typescript = extra_typescript;
    static_slots = static_slots;
    uses_reinit = uses_reinit;
    legacy_exception_handling = legacy_exception_handling;
  })

-- the keys of `parts`
abbrev pub part_keys : List (List ℕ)
part_keys =
    codes "exn_store" ∷ codes "externref_alloc" ∷ codes "externref_drop" ∷ codes "externref_drop_slice" ∷ codes "destroy_closure" ∷ codes "rethrow_critical"
    ∷ codes "externref_table" ∷ codes "function_table" ∷ codes "stack_pointer" ∷ codes "js_tag" ∷ codes "wrapped_js_tag" ∷ []

-- the parts of the module that the glue file's own code needs
unfoldable pub parts_of : Counts → Data → WasmBindgenAux → Option WasmBindgenAux
parts_of c d aux = do
  only part_keys d
  exn_store ← maybe_at (codes "exn_store") (func_of c) d
  externref_alloc ← maybe_at (codes "externref_alloc") (func_of c) d
  externref_drop ← maybe_at (codes "externref_drop") (func_of c) d
  externref_drop_slice ← maybe_at (codes "externref_drop_slice") (func_of c) d
  destroy_closure ← maybe_at (codes "destroy_closure") (func_of c) d
  rethrow_critical ← maybe_at (codes "rethrow_critical") (func_of c) d
  externref_table ← maybe_at (codes "externref_table") (table_of c) d
  function_table ← maybe_at (codes "function_table") (table_of c) d
  stack_pointer ← maybe_at (codes "stack_pointer") (global_of c) d
  js_tag ← maybe_at (codes "js_tag") (tag_of c) d
  wrapped_js_tag ← maybe_at (codes "wrapped_js_tag") (tag_of c) d
  Some (record aux {
    exn_store = exn_store;
    externref_alloc = externref_alloc;
    externref_drop = externref_drop;
    externref_drop_slice = externref_drop_slice;
    destroy_closure = destroy_closure;
    rethrow_critical = rethrow_critical;
    externref_table = externref_table;
    function_table = function_table;
    stack_pointer = stack_pointer;
    js_tag = js_tag;
    wrapped_js_tag = wrapped_js_tag;
  })

-- parts where there are some
abbrev pub parts_or_none : Counts → Option Data → WasmBindgenAux → Option WasmBindgenAux
parts_or_none c None aux = Some aux
parts_or_none c (Some d) aux = parts_of c d aux

-- all that is said beside the adapters
unfoldable pub aux_of : Counts → Data → Option WasmBindgenAux
aux_of c d = do
  called ← calls_of d empty_aux
  declared ← types_of d called
  told ← texts_of d declared
  parts_or_none c (get (codes "parts") d) told

-- the keys of a description
abbrev pub description_keys : List (List ℕ)
description_keys =
    codes "version" ∷ codes "adapters" ∷ codes "implements" ∷ codes "adapter_exports" ∷ codes "exports" ∷ codes "imports" ∷ codes "catch" ∷ codes "variadic"
    ∷ codes "structs" ∷ codes "enums" ∷ codes "string_enums" ∷ codes "unions" ∷ codes "reexports" ∷ codes "snippets" ∷ codes "local_modules"
    ∷ codes "package_jsons" ∷ codes "extra_typescript" ∷ codes "static_slots" ∷ codes "parts" ∷ codes "uses_reinit" ∷ codes "legacy_exception_handling" ∷ []

-- a description of a module with so many entries, in version 1
unfoldable pub description_of : Counts → Data → Option Description
description_of c d = do
  only description_keys d
  version ← field (codes "version") u32_of d
  where_holds (version == 1)
  wit ← wit_of c d
  aux ← aux_of c d
  Some (record { wit = wit; aux = aux })
