-- What is known beforehand of a module: the segments of each table and memory, and what declares each function.
use Rattle.std.specs.Prelude.{◌≡◌, ℕ, ◌<◌, List, [], ◌∷◌, ◌++◌, length, Option, Some, None, slice_get, slice_index_or, slice_set, nat_lt, if◌then◌else◌}
use Rattle.std.specs.List.{list_any}
use Rattle.std.specs.Option.{option_map, option_to_list}
use Rattle.wasm_file.specs.declared.entries.Export.{Export}
use Rattle.wasm_reach.specs.declared.marks.Sizes.{Sizes}
use Rattle.wasm_reach.specs.declared.things.Thing.{Thing}
use Rattle.wasm_reach.specs.declared.things.Thing.TheVariants as things
use Rattle.wasm_core.specs.Contents.{Contents}
use Rattle.wasm_collect.specs.Reach.{places, passes, is_place, is_func, item_thing, gives_func, declarer, elem_target, segment_target}

-- an item behind the others of a row, where there is such a row
abbrev pub with_item : List (List ℕ) → ℕ → ℕ → List (List ℕ)
with_item rows row item = if nat_lt row (length rows) then slice_set rows row (slice_index_or rows row [] ++ item ∷ []) else rows

abbrev pub with_row : List (List ℕ) → Option ℕ → ℕ → List (List ℕ)
with_row rows (Some row) item = with_item rows row item
with_row rows None item = rows

-- the place of a segment in the row of what it goes into
abbrev pub with_target : {A : Type 0} → (A → Option ℕ) → List (List ℕ) → Option A → ℕ → List (List ℕ)
with_target target rows (Some x) place = with_row rows (target x) place
with_target target rows None place = rows

-- for each of so many tables or memories the places of the segments that go into it
pub record AreRows {A : Type 0} (target : A → Option ℕ) (segments : List (Option A)) (count : ℕ) (rows : List (List ℕ)) : Type 0 where
  pub counted : length rows ≡ count
  pub told : (i : ℕ) → i < count → slice_index_or rows i [] ≡ places (λ x. is_place i (target x)) 0 segments

-- ---- declarers of functions, by the functions' places

-- the first of two that is one
abbrev pub or_else : Option Thing → Option Thing → Option Thing
or_else (Some t) other = Some t
or_else None other = other

-- the thing in the place of a function, where nothing stands yet
abbrev pub noted : List (Option Thing) → ℕ → Thing → Option (Option Thing) → List (Option Thing)
noted ds f thing (Some None) = slice_set ds f (Some thing)
noted ds f thing (Some (Some t)) = ds
noted ds f thing None = ds

-- the thing declares the function of this name
abbrev pub with_declarer : List (Option Thing) → Thing → Thing → List (Option Thing)
with_declarer ds (things.Func f) thing = noted ds f thing (slice_get ds f)
with_declarer ds _ thing = ds

-- nothing declares the function of this name
abbrev pub without_declarer : List (Option Thing) → Thing → List (Option Thing)
without_declarer ds (things.Func f) = if nat_lt f (length ds) then slice_set ds f None else ds
without_declarer ds _ = ds

-- nothing declares the function that an export gives out
abbrev pub without_exported : List (Option Thing) → Option Export → List (Option Thing)
without_exported ds (Some e) = without_declarer ds (item_thing e.item)
without_exported ds None = ds

-- new is old, and where nothing stood there is what was added, if anything
pub record Fills (added : ℕ → Option Thing) (old new : List (Option Thing)) : Type 0 where
  pub same_len : length new ≡ length old
  pub told : (f : ℕ) → f < length old → slice_index_or new f None ≡ or_else (slice_index_or old f None) (added f)

-- the thing, where these names have the function
abbrev pub named_by : Thing → List Thing → ℕ → Option Thing
named_by thing found f = if list_any (is_func f) found then Some thing else None

-- the thing, where the entry names the function
abbrev pub declared_by : {A : Type 0} → (A → List Thing) → Thing → Option A → ℕ → Option Thing
declared_by named thing entry f = if passes (λ x. list_any (is_func f) (named x)) entry then Some thing else None

-- the first of the entries that names the function
abbrev pub first_declarer : {A : Type 0} → (A → List Thing) → (ℕ → Thing) → List (Option A) → ℕ → Option Thing
first_declarer named thing entries f = option_map thing (slice_get (places (λ x. list_any (is_func f) (named x)) 0 entries) 0)

-- new is old, without the functions that exports give out
pub record AreForgotten (exported : List (Option Export)) (old new : List (Option Thing)) : Type 0 where
  pub same_len : length new ≡ length old
  pub told : (f : ℕ) → f < length old → slice_index_or new f None ≡ (if list_any (gives_func f) exported then None else slice_index_or old f None)

-- what declares each function of the module
pub record AreDeclarers (m : Contents) (ds : List (Option Thing)) : Type 0 where
  pub counted : length ds ≡ length m.funcs
  pub told : (f : ℕ) → f < length m.funcs → option_to_list (slice_index_or ds f None) ≡ declarer m f

-- all that is known beforehand
pub record AreEdges (m : Contents) (tables memories : List (List ℕ)) (declarers : List (Option Thing)) : Type 0 where
  pub tables_told : AreRows elem_target m.elems (length m.tables) tables
  pub memories_told : AreRows segment_target m.segments (length m.memories) memories
  pub declarers_told : AreDeclarers m declarers

-- how many places each list has
abbrev pub sizes_of : Contents → Sizes
sizes_of m = record {
  types = length m.types;
  funcs = length m.funcs;
  tables = length m.tables;
  memories = length m.memories;
  globals = length m.globals;
  tags = length m.tags;
  elems = length m.elems;
  segments = length m.segments;
}
