-- The sections of a file: their order and their content.
use Rattle.std.specs.Prelude.{ℕ, ◌+◌, ◌-◌, Bool, true, ◌&&◌, List, [], ◌∷◌, ◌++◌, length, Option, Some, None, Result, slice_get, nat_le, ◌==◌, if◌then◌else◌}
use Rattle.wasm_bytes.specs.declared.counts.Counts.{Counts}
use Rattle.wasm_bytes.specs.Reading.{Input, ◌>>=◌, pure, allowed, entries, for_each}
use Rattle.wasm_bytes.specs.Numbers.{number32}
use Rattle.wasm_bytes.specs.Items.{listed}
use Rattle.wasm_types.specs.Entries.{func_type, type_index, func_index}
use Rattle.wasm_code.specs.Code.{code_entry}
use Rattle.wasm_types.specs.declared.ids.FuncId.{FuncId}
use Rattle.wasm_types.specs.declared.ids.TypeId.{TypeId}
use Rattle.wasm_code.specs.declared.body.Body.{Body}
use Rattle.wasm_types.specs.declared.types.FuncType.{FuncType}
use Rattle.wasm_file.specs.Entries.{table_type, memory_type, tag_type, «import», «export», global_entry, elem, segment, custom}
use Rattle.wasm_file.specs.Parts.{most, number_of, is_func, is_table, is_memory, is_global, is_tag, counts_of, func_types, named_type, is_plain, params_of}
use Rattle.wasm_file.specs.declared.entries.Parts.{Parts}

-- Each section adds its list to those that stand so far.

-- custom sections are kept in their order
unfoldable pub custom_section : Parts → Input → Result (Parts × Input) ℕ
custom_section p = do
  x ← custom
  pure (record p { customs = p.customs ++ x ∷ [] })

-- the types of functions
unfoldable pub type_section : Parts → Input → Result (Parts × Input) ℕ
type_section p = do
  xs ← listed most (func_type (counts_of p))
  pure (record p { types = xs })

-- the imports
unfoldable pub import_section : Parts → Input → Result (Parts × Input) ℕ
import_section p = do
  xs ← listed most («import» (counts_of p))
  pure (record p { imports = xs })

-- the types of the functions that aren't imported
unfoldable pub function_section : Parts → Input → Result (Parts × Input) ℕ
function_section p = do
  xs ← listed (most - number_of is_func p.imports) (type_index (counts_of p))
  pure (record p { functions = xs })

-- the tables that aren't imported
unfoldable pub table_section : Parts → Input → Result (Parts × Input) ℕ
table_section p = do
  xs ← listed (most - number_of is_table p.imports) table_type
  pure (record p { tables = xs })

-- the memories that aren't imported
unfoldable pub memory_section : Parts → Input → Result (Parts × Input) ℕ
memory_section p = do
  xs ← listed (most - number_of is_memory p.imports) memory_type
  pure (record p { memories = xs })

-- the types of the tags that aren't imported
unfoldable pub tag_section : Parts → Input → Result (Parts × Input) ℕ
tag_section p = do
  xs ← listed (most - number_of is_tag p.imports) (tag_type (counts_of p))
  pure (record p { tags = xs })

-- the counts where the section of globals has so many
abbrev pub with_globals : ℕ → Parts → Counts
with_globals n p = record (counts_of p) { globals = number_of is_global p.imports + n }

-- the globals that aren't imported; an expression may name each global of the section
unfoldable pub global_section : Parts → Input → Result (Parts × Input) ℕ
global_section p = do
  n ← allowed (λ n. nat_le n (most - number_of is_global p.imports)) number32
  xs ← entries n (global_entry (with_globals n p))
  pure (record p { globals = xs })

-- the exports
unfoldable pub export_section : Parts → Input → Result (Parts × Input) ℕ
export_section p = do
  xs ← listed most («export» (counts_of p))
  pure (record p { exports = xs })

-- the type of a function
abbrev pub type_at : Parts → FuncId → Option FuncType
type_at p func = named_type p.types (slice_get (func_types p) func.0)

-- the start function, which takes and gives nothing
unfoldable pub start_section : Parts → Input → Result (Parts × Input) ℕ
start_section p = do
  func ← allowed (λ func. is_plain (type_at p func)) (func_index (counts_of p))
  pure (record p { start = Some func })

-- the element segments
unfoldable pub elem_section : Parts → Input → Result (Parts × Input) ℕ
elem_section p = do
  xs ← listed most (elem (counts_of p))
  pure (record p { elems = xs })

-- how many data segments there will be, no more than entries of a kind are allowed
unfoldable pub data_count_section : Parts → Input → Result (Parts × Input) ℕ
data_count_section p = do
  n ← allowed (λ n. nat_le n most) number32
  pure (record p { data_count = Some n })

-- the body of a function of this type
unfoldable pub function_body : Counts → List FuncType → TypeId → Input → Result (Body × Input) ℕ
function_body counts types ty = code_entry counts (params_of (slice_get types ty.0))

-- a body for each function that isn't imported, in order
unfoldable pub code_section : Parts → Input → Result (Parts × Input) ℕ
code_section p = do
  _ ← allowed (λ n. n == length p.functions) number32
  xs ← for_each p.functions (function_body (counts_of p) p.types)
  pure (record p { bodies = xs })

-- a number that is told, where one is
abbrev pub is_told : Option ℕ → ℕ → Bool
is_told (Some told) n = n == told
is_told None n = true

-- as many segments as the data count tells
unfoldable pub data_section : Parts → Input → Result (Parts × Input) ℕ
data_section p = do
  n ← allowed (λ n. nat_le n most && is_told p.data_count n) number32
  xs ← entries n (segment (counts_of p))
  pure (record p { segments = xs })

-- the lists with the content of a section
unfoldable pub content : ℕ → Parts → Input → Result (Parts × Input) ℕ
content id p =
    if id == 0 then custom_section p else
    if id == 1 then type_section p else
    if id == 2 then import_section p else
    if id == 3 then function_section p else
    if id == 4 then table_section p else
    if id == 5 then memory_section p else
    if id == 6 then global_section p else
    if id == 7 then export_section p else
    if id == 8 then start_section p else
    if id == 9 then elem_section p else
    if id == 10 then code_section p else
    if id == 11 then data_section p else
    if id == 12 then data_count_section p else tag_section p
