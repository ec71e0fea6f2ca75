-- What a file's bytes mean.
use Rattle.std.specs.Prelude.{ℕ, ◌+◌, ◌==◌, Bool, true, false, not, ◌&&◌, ◌||◌, List, [], ◌∷◌, ◌++◌, length, map, fold, codes, count_by, Option, Some, None, Result, Ok, Err, nat_lt, nat_eq, slice_get, slice_set, if◌then◌else◌}
use Rattle.std.specs.List.{filter, filter_map, flat_map, enumerate_from, starts_with}
use Rattle.wasm_bytes.specs.declared.fault.ReadFault.{ReadFault}
use Rattle.wasm_bytes.specs.declared.fault.ReadFault.TheVariants as below
use Rattle.wasm_types.specs.declared.ids.FuncId.{FuncId}
use Rattle.wasm_types.specs.declared.ids.ImportId.{ImportId}
use Rattle.wasm_types.specs.declared.ids.TypeId.{TypeId}
use Rattle.wasm_code.specs.declared.body.Body.{Body}
use Rattle.wasm_types.specs.declared.types.Limits.{Limits}
use Rattle.wasm_file.specs.Customs.{names_of, producers_of}
use Rattle.wasm_file.specs.Grammar.{parts_of}
use Rattle.wasm_file.specs.declared.entries.Custom.{Custom}
use Rattle.wasm_file.specs.declared.entries.FileGlobal.{FileGlobal}
use Rattle.wasm_file.specs.declared.entries.FileImport.{FileImport}
use Rattle.wasm_file.specs.declared.entries.ImportType.{ImportType}
use Rattle.wasm_file.specs.declared.entries.ImportType.TheVariants as asked
use Rattle.wasm_file.specs.declared.entries.Names.{Names}
use Rattle.wasm_file.specs.declared.entries.Parts.{Parts}
use Rattle.wasm_file.specs.declared.entries.ProducerField.{ProducerField}
use Rattle.wasm_file.specs.declared.entries.TableType.{TableType}
use Rattle.wasm_core.specs.declared.assemble.Places.{Places}
use Rattle.wasm_core.specs.declared.types.Func.{Func}
use Rattle.wasm_core.specs.declared.types.GlobalVar.{GlobalVar}
use Rattle.wasm_core.specs.declared.types.Import.{Import}
use Rattle.wasm_core.specs.declared.types.ImportKind.{ImportKind}
use Rattle.wasm_core.specs.declared.types.ImportKind.TheVariants as kinds
use Rattle.wasm_core.specs.declared.types.Memory.{Memory}
use Rattle.wasm_core.specs.declared.types.ParseConfig.{ParseConfig}
use Rattle.wasm_core.specs.declared.types.Table.{Table}
use Rattle.wasm_core.specs.declared.types.Tag.{Tag}
use Rattle.wasm_core.specs.declared.faults.ParseFault.{ParseFault}
use Rattle.wasm_core.specs.declared.faults.ParseFault.TheVariants as faults
use Rattle.wasm_core.specs.Contents.{Contents}
use Rattle.wasm_core.specs.Edits.{is_named}

-- ---- faults

-- the fault that a reader's fault is told as
abbrev pub told : ReadFault → ParseFault
told (below.Parse place) = faults.Parse place
told below.OutOfMemory = faults.OutOfMemory

-- the greatest length of a file, in bytes
abbrev pub longest : ℕ
longest = 268435456

-- the fault of a reading that ends at a place
abbrev pub read_fault : {A : Type 0} → Result A ℕ → Option ParseFault
read_fault (Ok x) = None
read_fault (Err place) = Some (faults.Parse place)

-- ---- imports

abbrev pub asks_func : FileImport → Bool
asks_func i = is_func i.ty
  where
    is_func : ImportType → Bool
    is_func (asked.Func ty) = true
    is_func _ = false

abbrev pub asks_table : FileImport → Bool
asks_table i = is_table i.ty
  where
    is_table : ImportType → Bool
    is_table (asked.Table elem limits) = true
    is_table _ = false

abbrev pub asks_memory : FileImport → Bool
asks_memory i = is_memory i.ty
  where
    is_memory : ImportType → Bool
    is_memory (asked.Memory limits) = true
    is_memory _ = false

abbrev pub asks_global : FileImport → Bool
asks_global i = is_global i.ty
  where
    is_global : ImportType → Bool
    is_global (asked.Global ty mutable) = true
    is_global _ = false

abbrev pub asks_tag : FileImport → Bool
asks_tag i = is_tag i.ty
  where
    is_tag : ImportType → Bool
    is_tag (asked.Tag ty) = true
    is_tag _ = false

-- how many imports of each kind there are
abbrev pub places_of : List FileImport → Places
places_of imports = record {
  funcs = count_by asks_func imports;
  tables = count_by asks_table imports;
  memories = count_by asks_memory imports;
  globals = count_by asks_global imports;
  tags = count_by asks_tag imports;
}

-- the item that an import brings in, at the next place of its kind
abbrev pub kind_at : Places → ImportType → ImportKind
kind_at next (asked.Func ty) = kinds.Func (record { 0 = next.funcs })
kind_at next (asked.Table elem limits) = kinds.Table (record { 0 = next.tables })
kind_at next (asked.Memory limits) = kinds.Memory (record { 0 = next.memories })
kind_at next (asked.Global ty mutable) = kinds.Global (record { 0 = next.globals })
kind_at next (asked.Tag ty) = kinds.Tag (record { 0 = next.tags })

-- imports that stand behind others: the place of each one's item is how many of its kind stand before it
unfoldable pub imports_behind : List FileImport → List FileImport → List (Option Import)
imports_behind before [] = []
imports_behind before (i ∷ rest) = Some (record { «module» = i.«module»; name = i.name; kind = kind_at (places_of before) i.ty }) ∷ imports_behind (before ++ i ∷ []) rest

-- what imports bring in of one kind, each made of the import's place and type
abbrev pub brought : {A : Type 0} → (ImportId → ImportType → Option A) → List FileImport → List A
brought make imports = filter_map (λ p. make (record { 0 = p.0 }) p.1.ty) (enumerate_from 0 imports)

abbrev pub imported_func : ImportId → ImportType → Option Func
imported_func i (asked.Func ty) = Some (record { ty = ty; name = None; «import» = Some i; body = None })
imported_func i _ = None

abbrev pub imported_table : ImportId → ImportType → Option Table
imported_table i (asked.Table elem limits) = Some (record { elem = elem; limits = limits; «import» = Some i })
imported_table i _ = None

abbrev pub imported_memory : ImportId → ImportType → Option Memory
imported_memory i (asked.Memory limits) = Some (record { limits = limits; «import» = Some i })
imported_memory i _ = None

abbrev pub imported_global : ImportId → ImportType → Option GlobalVar
imported_global i (asked.Global ty mutable) = Some (record { ty = ty; mutable = mutable; «import» = Some i; init = [] })
imported_global i _ = None

abbrev pub imported_tag : ImportId → ImportType → Option Tag
imported_tag i (asked.Tag ty) = Some (record { ty = ty; «import» = Some i })
imported_tag i _ = None

-- ---- what isn't imported

-- a function for each type and body
unfoldable pub own_funcs : List TypeId → List Body → List Func
own_funcs [] bodies = []
own_funcs (ty ∷ types) [] = []
own_funcs (ty ∷ types) (b ∷ bodies) = record { ty = ty; name = None; «import» = None; body = Some b } ∷ own_funcs types bodies

abbrev pub table_of : TableType → Table
table_of t = record { elem = t.elem; limits = t.limits; «import» = None }

abbrev pub memory_of : Limits → Memory
memory_of limits = record { limits = limits; «import» = None }

abbrev pub global_of : FileGlobal → GlobalVar
global_of g = record { ty = g.ty; mutable = g.mutable; «import» = None; init = g.init }

abbrev pub tag_of : TypeId → Tag
tag_of ty = record { ty = ty; «import» = None }

-- all entries of a kind: the imported ones, and then the others
abbrev pub joined : {A : Type 0} → List A → List A → List (Option A)
joined imported own = map Some imported ++ map Some own

-- ---- custom sections

-- the names that a name section gives, where it is one and reads in a file of so many functions
abbrev pub names_in : ℕ → Custom → Option Names
names_in funcs c = if is_named (codes "name") c then names_of funcs c.bytes else None

-- the second, where it is there
abbrev pub later : {A : Type 0} → Option A → Option A → Option A
later x (Some y) = Some y
later x None = x

-- names, and behind them those of another section
abbrev pub merged : Names → Names → Names
merged n more = record { «module» = later n.«module» more.«module»; funcs = n.funcs ++ more.funcs }

abbrev pub no_names : Names
no_names = record { «module» = None; funcs = [] }

-- the names that all name sections give, in order
unfoldable pub all_names : ℕ → List Custom → Names
all_names funcs customs = fold merged no_names (filter_map (names_in funcs) customs)

-- the last name that is given to the function at a place
unfoldable pub last_name : List (FuncId × List ℕ) → ℕ → Option (List ℕ)
last_name [] place = None
last_name (n ∷ names) place = later (if n.0.0 == place then Some n.1 else None) (last_name names place)

-- a function with this name, as it was where none is given
abbrev pub with_name : Option (List ℕ) → Option Func → Option Func
with_name (Some name) (Some f) = Some (record f { name = Some name })
with_name _ f = f

-- each function with the last name that is given to it
unfoldable pub with_names : List (FuncId × List ℕ) → List (Option Func) → List (Option Func)
with_names names funcs = map (λ p. with_name (last_name names p.0) p.1) (enumerate_from 0 funcs)

-- the fields of a producers section, where it is one and reads
abbrev pub producers_in : Custom → Option (List ProducerField)
producers_in c = if is_named (codes "producers") c then producers_of c.bytes else None

-- the fields of all producers sections, in order
unfoldable pub all_producers : List Custom → List ProducerField
all_producers customs = flat_map (λ fields. fields) (filter_map producers_in customs)

-- a section that stays: its content isn't read, and it isn't one of debugging unless such are wanted
abbrev pub is_kept : Bool → Custom → Bool
is_kept keep_debug c = not (is_named (codes "name") c) && (not (is_named (codes "producers") c) && (keep_debug || not (starts_with nat_eq c.name (codes ".debug_"))))

-- ---- a module

-- all functions, without names
abbrev pub all_funcs : Parts → List (Option Func)
all_funcs p = joined (brought imported_func p.imports) (own_funcs p.functions p.bodies)

-- the module of a file's lists
unfoldable pub assembled : ParseConfig → Parts → Contents
assembled config p =
    let names : Names = all_names (length (all_funcs p)) p.customs in
    record {
      types = map Some p.types;
      funcs = with_names names.funcs (all_funcs p);
      tables = joined (brought imported_table p.imports) (map table_of p.tables);
      memories = joined (brought imported_memory p.imports) (map memory_of p.memories);
      globals = joined (brought imported_global p.imports) (map global_of p.globals);
      tags = joined (brought imported_tag p.imports) (map tag_of p.tags);
      imports = imports_behind [] p.imports;
      exports = map Some p.exports;
      elems = map Some p.elems;
      segments = map Some p.segments;
      customs = filter (is_kept config.keep_debug) p.customs;
      start = p.start;
      name = names.«module»;
      producers = all_producers p.customs;
      config = config;
    }

-- the module of the lists that are read
abbrev pub made : ParseConfig → Result Parts ℕ → Result Contents ParseFault
made config (Ok p) = Ok (assembled config p)
made config (Err place) = Err (faults.Parse place)

-- the module that bytes are, or why they are none
unfoldable pub module_of : ParseConfig → List ℕ → Result Contents ParseFault
module_of config bytes =
    if nat_lt longest (length bytes) then Err (faults.Parse longest) else made config (parts_of bytes)

-- ---- naming one function after another

abbrev pub renamed : List ℕ → Option (Option Func) → Option Func
renamed name (Some f) = with_name (Some name) f
renamed name None = None

-- functions, of which that at the place has the name
abbrev pub name_given : List (Option Func) → FuncId × List ℕ → List (Option Func)
name_given funcs n = slice_set funcs n.0.0 (renamed n.1 (slice_get funcs n.0.0))

-- ---- placing one import after another

-- the next places after an import of this type
abbrev pub after : Places → ImportType → Places
after next (asked.Func ty) = record next { funcs = next.funcs + 1 }
after next (asked.Table elem limits) = record next { tables = next.tables + 1 }
after next (asked.Memory limits) = record next { memories = next.memories + 1 }
after next (asked.Global ty mutable) = record next { globals = next.globals + 1 }
after next (asked.Tag ty) = record next { tags = next.tags + 1 }
