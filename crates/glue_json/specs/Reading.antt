-- Words for what a JSON value reads as.
use Rattle.std.specs.Prelude.{ℕ, ◌^◌, ℤ, List, [], ◌∷◌, length, Bool, false, nat_lt, if◌then◌else◌, Option, Some, None, option_map, option_and_then, bytes_eq}
use Rattle.std.specs.List.{list_any, list_all}
use Rattle.std.specs.Ordering.{nat_cmp}
use Rattle.std.specs.Cmp.Lexicographic.{slice_cmp}
use Rattle.std.specs.BTreeMap.{insert_entry}
use Rattle.serde_json.specs.Data.{Data, null, boolean, number, string, array, object, Items, no_items, item, Members, no_members, member}
use Rattle.serde_json.specs.Find.{get, as_number, as_array, as_object, as_u64, as_i64}
use Rattle.wasm_core.specs.ids.ImportId.{ImportId}
use Rattle.wasm_core.specs.ids.ExportId.{ExportId}
use Rattle.wasm_core.specs.ids.FuncId.{FuncId}
use Rattle.wasm_core.specs.ids.TableId.{TableId}
use Rattle.wasm_core.specs.ids.MemoryId.{MemoryId}
use Rattle.wasm_core.specs.ids.GlobalId.{GlobalId}
use Rattle.wasm_core.specs.ids.TagId.{TagId}
use Rattle.wasm_core.specs.Contents.{Contents}
use Rattle.glue_json.specs.declared.counts.Counts.{Counts}

-- steps that may each read nothing
infixl 10 ◌>>=◌
abbrev pub ◌>>=◌ : {A B : Type 0} → Option A → (A → Option B) → Option B
o >>= f = option_and_then f o

-- the next step takes nothing of this one
infixl 10 ◌>>◌
abbrev pub ◌>>◌ : {A B : Type 0} → Option A → Option B → Option B
o >> p = option_and_then (λ _. p) o

-- something where a test holds
abbrev pub where_holds : Bool → Option (Unit {0})
where_holds test = if test then Some tt else None

-- ---- numbers, lists and maps

-- an integer below 2 ^ 32, without fraction or exponent; `-0` is no integer to the JSON reader
abbrev pub u32_of : Data → Option ℕ
u32_of d = option_and_then (λ n. if nat_lt n (2 ^ 32) then Some n else None) (option_and_then as_u64 (as_number d))

-- an integer of 64 bits with a sign, without fraction or exponent, and not `-0`
abbrev pub i64_of : Data → Option ℤ
i64_of d = option_and_then as_i64 (as_number d)

-- f, or nothing for `null`
abbrev pub nullable : {B : Type 0} → (Data → Option B) → Data → Option (Option B)
nullable f null = Some None
nullable f (boolean b) = option_map Some (f (boolean b))
nullable f (number n) = option_map Some (f (number n))
nullable f (string s) = option_map Some (f (string s))
nullable f (array ds) = option_map Some (f (array ds))
nullable f (object ms) = option_map Some (f (object ms))

-- the items as a list
abbrev pub data_list : Items → List Data
data_list no_items = []
data_list (item d ds) = d ∷ data_list ds

-- each of a list, or nothing where one reads as nothing
abbrev pub read_all : {A B : Type 0} → (A → Option B) → List A → Option (List B)
read_all f [] = Some []
read_all f (x ∷ xs) = option_and_then (λ y. option_map (λ ys. y ∷ ys) (read_all f xs)) (f x)

-- a list of what f reads
abbrev pub list_of : {B : Type 0} → (Data → Option B) → Data → Option (List B)
list_of f d = option_and_then (λ items. read_all f (data_list items)) (as_array d)

-- the members by their keys, beside the entries that stand already
abbrev pub put_members : {B : Type 0} → (Data → Option B) → List (List ℕ × B) → Members → Option (List (List ℕ × B))
put_members f entries no_members = Some entries
put_members f entries (member k d ms) = option_and_then (λ x. put_members f (insert_entry (slice_cmp nat_cmp) entries k x) ms) (f d)

-- an object of what f reads, by key
abbrev pub map_of : {B : Type 0} → (Data → Option B) → Data → Option (List (List ℕ × B))
map_of f d = option_and_then (put_members f []) (as_object d)

-- ---- the parts of a list, which are exactly so many

-- no part, for x
abbrev pub no_part : {B : Type 0} → B → List Data → Option B
no_part x [] = Some x
no_part x (d ∷ ds) = None

-- one part
abbrev pub one_part : {A : Type 0} → (Data → Option A) → List Data → Option A
one_part f [] = None
one_part f (d ∷ []) = f d
one_part f (d ∷ e ∷ ds) = None

-- two parts
abbrev pub two_parts : {A B : Type 0} → (Data → Option A) → (Data → Option B) → List Data → Option (A × B)
two_parts f g [] = None
two_parts f g (d ∷ ds) = option_and_then (λ a. option_map (λ b. (a, b)) (one_part g ds)) (f d)

-- three parts
abbrev pub three_parts : {A B C : Type 0} → (Data → Option A) → (Data → Option B) → (Data → Option C) → List Data → Option (A × B × C)
three_parts f g h [] = None
three_parts f g h (d ∷ ds) = option_and_then (λ a. option_map (λ x. (a, x.0, x.1)) (two_parts g h ds)) (f d)

-- a list of what f reads and what g reads
abbrev pub pair_of : {A B : Type 0} → (Data → Option A) → (Data → Option B) → Data → Option (A × B)
pair_of f g d = option_and_then (λ items. two_parts f g (data_list items)) (as_array d)

-- a list of what f, g and h read
abbrev pub triple_of : {A B C : Type 0} → (Data → Option A) → (Data → Option B) → (Data → Option C) → Data → Option (A × B × C)
triple_of f g h d = option_and_then (λ items. three_parts f g h (data_list items)) (as_array d)

-- ---- the keys of an object

-- a key that must stand
abbrev pub field : {B : Type 0} → List ℕ → (Data → Option B) → Data → Option B
field k f d = option_and_then f (get k d)

-- what f reads, or x where there is nothing to read
abbrev pub or_default : {B : Type 0} → (Data → Option B) → B → Option Data → Option B
or_default f x None = Some x
or_default f x (Some d) = f d

-- a key that may be absent, for x
abbrev pub field_or : {B : Type 0} → List ℕ → (Data → Option B) → B → Data → Option B
field_or k f x d = or_default f x (get k d)

-- a list, whose key may be absent, for the empty one
abbrev pub list_at : {B : Type 0} → List ℕ → (Data → Option B) → Data → Option (List B)
list_at k f d = field_or k (list_of f) [] d

-- something or `null`, whose key may be absent, for nothing
abbrev pub maybe_at : {B : Type 0} → List ℕ → (Data → Option B) → Data → Option (Option B)
maybe_at k f d = field_or k (nullable f) None d

-- the keys of an object
abbrev pub keys_of : Members → List (List ℕ)
keys_of no_members = []
keys_of (member k d ms) = k ∷ keys_of ms

-- one of these names
abbrev pub is_one_of : List (List ℕ) → List ℕ → Bool
is_one_of names k = list_any (λ name. bytes_eq name k) names

-- an object whose keys all pass the test
abbrev pub has_only : (List ℕ → Bool) → Data → Bool
has_only allowed null = false
has_only allowed (boolean b) = false
has_only allowed (number n) = false
has_only allowed (string s) = false
has_only allowed (array ds) = false
has_only allowed (object ms) = list_all allowed (keys_of ms)

-- an object that has no other keys than these
abbrev pub only : List (List ℕ) → Data → Option (Unit {0})
only names d = where_holds (has_only (is_one_of names) d)

-- ---- indexes, which are in range below the number of their kind's entries

-- the numbers of a module's entries
abbrev pub counts_of : Contents → Counts
counts_of m = record {
  imports = length m.imports;
  exports = length m.exports;
  funcs = length m.funcs;
  tables = length m.tables;
  memories = length m.memories;
  globals = length m.globals;
  tags = length m.tags;
}

-- a place below a number
abbrev pub place_below : ℕ → Data → Option ℕ
place_below n d = option_and_then (λ place. if nat_lt place n then Some place else None) (u32_of d)

-- the place of an import of the module
abbrev pub import_of : Counts → Data → Option ImportId
import_of c d = option_map (λ n. record { 0 = n }) (place_below c.imports d)

-- of an export
abbrev pub wasm_export_of : Counts → Data → Option ExportId
wasm_export_of c d = option_map (λ n. record { 0 = n }) (place_below c.exports d)

-- of a function
abbrev pub func_of : Counts → Data → Option FuncId
func_of c d = option_map (λ n. record { 0 = n }) (place_below c.funcs d)

-- of a table
abbrev pub table_of : Counts → Data → Option TableId
table_of c d = option_map (λ n. record { 0 = n }) (place_below c.tables d)

-- of a memory
abbrev pub memory_of : Counts → Data → Option MemoryId
memory_of c d = option_map (λ n. record { 0 = n }) (place_below c.memories d)

-- of a global
abbrev pub global_of : Counts → Data → Option GlobalId
global_of c d = option_map (λ n. record { 0 = n }) (place_below c.globals d)

-- of a tag
abbrev pub tag_of : Counts → Data → Option TagId
tag_of c d = option_map (λ n. record { 0 = n }) (place_below c.tags d)
