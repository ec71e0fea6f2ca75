-- The lists of a file's sections: their limits, and how many entries an index can name.
use Rattle.std.specs.Prelude.{◌≡◌, ℕ, ◌+◌, ◌≤◌, Bool, true, false, ◌&&◌, List, [], ◌++◌, length, Option, Some, None, ◌==◌, slice_get}
use Rattle.std.specs.List.{count_by, filter_map}
use Rattle.wasm_bytes.specs.declared.counts.Counts.{Counts}
use Rattle.wasm_ops.specs.Numbers.{or_zero}
use Rattle.wasm_types.specs.declared.ids.TypeId.{TypeId}
use Rattle.wasm_types.specs.declared.types.FuncType.{FuncType}
use Rattle.wasm_file.specs.declared.entries.FileImport.{FileImport}
use Rattle.wasm_file.specs.declared.entries.ImportType.{ImportType}
use Rattle.wasm_file.specs.declared.entries.ImportType.TheVariants as asked
use Rattle.wasm_file.specs.declared.entries.Parts.{Parts}
use Rattle.wasm_file.specs.declared.imported.Imported.{Imported}

-- the greatest number of entries of a kind
abbrev pub most : ℕ
most = 10000000

-- no list has more than the greatest number
pub record AreFew (p : Parts) : Type 0 where
  pub types_few : length p.types ≤ most
  pub imports_few : length p.imports ≤ most
  pub functions_few : length p.functions ≤ most
  pub tables_few : length p.tables ≤ most
  pub memories_few : length p.memories ≤ most
  pub tags_few : length p.tags ≤ most
  pub globals_few : length p.globals ≤ most
  pub exports_few : length p.exports ≤ most
  pub elems_few : length p.elems ≤ most
  pub bodies_few : length p.bodies ≤ most
  pub segments_few : length p.segments ≤ most

-- no entries
abbrev pub no_parts : Parts
no_parts = record {
  types = [];
  imports = [];
  functions = [];
  tables = [];
  memories = [];
  tags = [];
  globals = [];
  exports = [];
  start = None;
  elems = [];
  data_count = None;
  bodies = [];
  segments = [];
  customs = [];
}

-- ---- imported items

-- a function is asked for
abbrev pub is_func : ImportType → Bool
is_func (asked.Func ty) = true
is_func _ = false

-- a table is asked for
abbrev pub is_table : ImportType → Bool
is_table (asked.Table ty size) = true
is_table _ = false

-- a memory is asked for
abbrev pub is_memory : ImportType → Bool
is_memory (asked.Memory size) = true
is_memory _ = false

-- a global is asked for
abbrev pub is_global : ImportType → Bool
is_global (asked.Global ty mutable) = true
is_global _ = false

-- a tag is asked for
abbrev pub is_tag : ImportType → Bool
is_tag (asked.Tag ty) = true
is_tag _ = false

-- how many imports ask for a kind
unfoldable pub number_of : (ImportType → Bool) → List FileImport → ℕ
number_of kind imports = count_by (λ (i : FileImport). kind i.ty) imports

-- these are the numbers of imports of each kind
pub record AreNumbersOf (imports : List FileImport) (n : Imported) : Type 0 where
  pub funcs_counted : n.funcs ≡ number_of is_func imports
  pub tables_counted : n.tables ≡ number_of is_table imports
  pub memories_counted : n.memories ≡ number_of is_memory imports
  pub globals_counted : n.globals ≡ number_of is_global imports
  pub tags_counted : n.tags ≡ number_of is_tag imports

-- each number is at most the limit
pub record AreAtMost (limit : ℕ) (n : Imported) : Type 0 where
  pub funcs_below : n.funcs ≤ limit
  pub tables_below : n.tables ≤ limit
  pub memories_below : n.memories ≤ limit
  pub globals_below : n.globals ≤ limit
  pub tags_below : n.tags ≤ limit

-- these are the numbers of imported items, and no list is too long
pub record AreCounted (n : Imported) (p : Parts) : Type 0 where
  pub counted : AreNumbersOf p.imports n
  pub few : AreFew p
  pub imported_few : AreAtMost most n

-- ---- what an index can name

-- how many entries stand so far, imported ones among them
abbrev pub counts_of : Parts → Counts
counts_of p = record {
  types = length p.types;
  funcs = number_of is_func p.imports + length p.functions;
  tables = number_of is_table p.imports + length p.tables;
  memories = number_of is_memory p.imports + length p.memories;
  globals = number_of is_global p.imports + length p.globals;
  tags = number_of is_tag p.imports + length p.tags;
  elems = length p.elems;
  segments = or_zero p.data_count;
  locals = 0;
}

-- the type of a function that is imported
abbrev pub func_type_of : ImportType → Option TypeId
func_type_of (asked.Func ty) = Some ty
func_type_of _ = None

-- the types of imported functions
unfoldable pub imported_func_types : List FileImport → List TypeId
imported_func_types imports = filter_map (λ (i : FileImport). func_type_of i.ty) imports

-- the types of functions, imported ones first
unfoldable pub func_types : Parts → List TypeId
func_types p = imported_func_types p.imports ++ p.functions

-- the type that an index names
abbrev pub named_type : List FuncType → Option TypeId → Option FuncType
named_type types (Some ty) = slice_get types ty.0
named_type types None = None

-- a type that takes and gives nothing
abbrev pub is_plain : Option FuncType → Bool
is_plain (Some ty) = (length ty.params == 0) && (length ty.results == 0)
is_plain None = false

-- the number of parameters of a type
abbrev pub params_of : Option FuncType → ℕ
params_of (Some ty) = length ty.params
params_of None = 0
