-- The module that is read where a module was written: the same live entries, renumbered in the order of emission.
use Rattle.std.specs.Prelude.{◌≡◌, ℕ, ◌≤◌, Bool, not, List, [], ◌++◌, map, length, Option, Some, None, if◌then◌else◌}
use Rattle.std.specs.List.{filter}
use Rattle.wasm_ops_laws.specs.Fits.{joined_body}
use Rattle.wasm_ops.specs.Numbers.{number_at}
use Rattle.wasm_code.specs.Numbers.{renumbered_ops, renumbered_body}
use Rattle.wasm_types.specs.declared.ids.ImportId.{ImportId}
use Rattle.wasm_code.specs.declared.body.Body.{Body}
use Rattle.wasm_ops.specs.declared.ops.Numbering.{Numbering}
use Rattle.wasm_file_laws.specs.FileFits.{AreFewEntries}
use Rattle.wasm_core.specs.declared.types.Func.{Func}
use Rattle.wasm_core.specs.declared.types.GlobalVar.{GlobalVar}
use Rattle.wasm_core.specs.declared.types.Import.{Import}
use Rattle.wasm_core.specs.declared.types.ImportKind.{ImportKind}
use Rattle.wasm_core.specs.declared.types.ImportKind.TheVariants as kinds
use Rattle.wasm_core.specs.declared.types.Memory.{Memory}
use Rattle.wasm_core.specs.declared.types.ParseConfig.{ParseConfig}
use Rattle.wasm_core.specs.declared.types.Table.{Table}
use Rattle.wasm_core.specs.declared.types.Tag.{Tag}
use Rattle.wasm_core.specs.Contents.{Contents}
use Rattle.wasm_emission.specs.Emission.{live, file_type, file_export, file_elem, file_segment, file_start, filed, too_large, bytes_of}
use Rattle.wasm_core.specs.Parsing.{is_kept, longest}
use Rattle.wasm_emission.specs.Renumbering.{never, numbers, numbering}
use Rattle.wasm_core_laws.specs.ModuleFits.{func_imported, table_imported, memory_imported, global_imported, tag_imported}

-- the live entries in the order in which they are written: those that pass the test first
abbrev pub in_order : {A : Type 0} → (A → Bool) → List (Option A) → List A
in_order test xs = filter test (live xs) ++ filter (λ x. not (test x)) (live xs)

-- the number of each place of the imports
abbrev pub import_numbers : Contents → List ℕ
import_numbers m = numbers never m.imports

-- the number of an import, where there is one
abbrev pub renumbered_import : Contents → Option ImportId → Option ImportId
renumbered_import m (Some i) = Some (record { 0 = number_at (import_numbers m) i.0 })
renumbered_import m None = None

-- a body with new numbers, whose runs of locals are joined
abbrev pub renumbered_code : Numbering → Option Body → Option Body
renumbered_code n (Some b) = Some (joined_body (renumbered_body n b))
renumbered_code n None = None

-- what is there, where it is wanted
abbrev pub if_wanted : {A : Type 0} → Bool → Option A → Option A
if_wanted wanted x = if wanted then x else None

-- a function with new numbers, and with its name where names are written
abbrev pub func_again : Contents → Func → Func
func_again m f = record {
  ty = file_type (numbering m) f.ty;
  name = if_wanted m.config.names f.name;
  «import» = renumbered_import m f.«import»;
  body = renumbered_code (numbering m) f.body;
}

-- a table whose import has its new number, and so on for each kind
abbrev pub table_again : Contents → Table → Table
table_again m t = record t { «import» = renumbered_import m t.«import» }

abbrev pub memory_again : Contents → Memory → Memory
memory_again m x = record x { «import» = renumbered_import m x.«import» }

-- a global with new numbers in its initial expression
abbrev pub global_again : Contents → GlobalVar → GlobalVar
global_again m g = record g { «import» = renumbered_import m g.«import»; init = renumbered_ops (numbering m) g.init }

-- a tag with the new number of its type
abbrev pub tag_again : Contents → Tag → Tag
tag_again m t = record { ty = file_type (numbering m) t.ty; «import» = renumbered_import m t.«import» }

-- the item that an import brings in, by its new number
abbrev pub kind_again : Numbering → ImportKind → ImportKind
kind_again n (kinds.Func id) = kinds.Func (record { 0 = number_at n.funcs id.0 })
kind_again n (kinds.Table id) = kinds.Table (record { 0 = number_at n.tables id.0 })
kind_again n (kinds.Memory id) = kinds.Memory (record { 0 = number_at n.memories id.0 })
kind_again n (kinds.Global id) = kinds.Global (record { 0 = number_at n.globals id.0 })
kind_again n (kinds.Tag id) = kinds.Tag (record { 0 = number_at n.tags id.0 })

-- an import whose item has its new number
abbrev pub import_again : Contents → Import → Import
import_again m i = record i { kind = kind_again (numbering m) i.kind }

-- entries that are all there
abbrev pub all_there : {A B : Type 0} → (A → B) → List A → List (Option B)
all_there make xs = map Some (map make xs)

-- The module that is read under a config where this one was written under its own.
unfoldable pub again : ParseConfig → Contents → Contents
again config m = record {
  types = map Some (live m.types);
  funcs = all_there (func_again m) (in_order func_imported m.funcs);
  tables = all_there (table_again m) (in_order table_imported m.tables);
  memories = all_there (memory_again m) (in_order memory_imported m.memories);
  globals = all_there (global_again m) (in_order global_imported m.globals);
  tags = all_there (tag_again m) (in_order tag_imported m.tags);
  imports = all_there (import_again m) (live m.imports);
  exports = all_there (file_export (numbering m)) (live m.exports);
  elems = all_there (file_elem (numbering m)) (live m.elems);
  segments = all_there (file_segment (numbering m)) (live m.segments);
  customs = filter (is_kept config.keep_debug) m.customs;
  start = file_start (numbering m) m.start;
  name = if_wanted m.config.names m.name;
  producers = if m.config.producers then m.producers else [];
  config = config;
}

-- Its file is within the limits: of the entries of a kind, of the bytes of a section, and of the file.
pub record IsWithinLimits (m : Contents) : Type 0 where
  pub few : AreFewEntries (filed m)
  pub short : too_large m ≡ None
  pub small : length (bytes_of m) ≤ longest
