-- What of a module can be reached, and what is left of it.
use Rattle.std.specs.Prelude.{◌≡◌, ℕ, ◌+◌, Bool, false, List, [], ◌∷◌, ◌++◌, map, take, length, Option, Some, None, is_some, slice_get, nat_lt, ◌==◌, if◌then◌else◌}
use Rattle.std.specs.List.{list_any, filter, flat_map}
use Rattle.wasm_types.specs.declared.ids.FuncId.{FuncId}
use Rattle.wasm_types.specs.declared.ids.MemoryId.{MemoryId}
use Rattle.wasm_ops.specs.declared.ops.BlockType.{BlockType}
use Rattle.wasm_ops.specs.declared.ops.BlockType.TheVariants as blocks
use Rattle.wasm_ops.specs.declared.ops.Catch.{Catch}
use Rattle.wasm_ops.specs.declared.ops.Catch.TheVariants as catches
use Rattle.wasm_ops.specs.declared.ops.Op.{Op}
use Rattle.wasm_ops.specs.declared.ops.Op.TheVariants as ops
use Rattle.wasm_code.specs.declared.body.Body.{Body}
use Rattle.wasm_file.specs.declared.entries.Elem.{Elem}
use Rattle.wasm_file.specs.declared.entries.ElemPlace.{ElemPlace}
use Rattle.wasm_file.specs.declared.entries.ElemPlace.TheVariants as elem_places
use Rattle.wasm_file.specs.declared.entries.Segment.{Segment}
use Rattle.wasm_file.specs.declared.entries.Export.{Export}
use Rattle.wasm_file.specs.declared.entries.ExportItem.{ExportItem}
use Rattle.wasm_file.specs.declared.entries.ExportItem.TheVariants as items
use Rattle.wasm_reach.specs.declared.things.Thing.{Thing}
use Rattle.wasm_reach.specs.declared.things.Thing.TheVariants as things
use Rattle.wasm_reach.specs.Reach.{IsLeast}
use Rattle.wasm_core.specs.declared.types.Func.{Func}
use Rattle.wasm_core.specs.declared.types.Table.{Table}
use Rattle.wasm_core.specs.declared.types.Memory.{Memory}
use Rattle.wasm_core.specs.declared.types.GlobalVar.{GlobalVar}
use Rattle.wasm_core.specs.declared.types.Tag.{Tag}
use Rattle.wasm_core.specs.Contents.{Contents}
use Rattle.wasm_core.specs.Remainder.{remainder}

-- ---- entries and their places

abbrev pub entry_of : {A : Type 0} → Option (Option A) → Option A
entry_of (Some x) = x
entry_of None = None

-- the entry at a place, where there is one
abbrev pub entry_at : {A : Type 0} → List (Option A) → ℕ → Option A
entry_at xs i = entry_of (slice_get xs i)

-- an entry stands in the thing's place
abbrev pub stands : Contents → Thing → Bool
stands m (things.Type i) = is_some (entry_at m.types i)
stands m (things.Func i) = is_some (entry_at m.funcs i)
stands m (things.Table i) = is_some (entry_at m.tables i)
stands m (things.Memory i) = is_some (entry_at m.memories i)
stands m (things.Global i) = is_some (entry_at m.globals i)
stands m (things.Tag i) = is_some (entry_at m.tags i)
stands m (things.Elem i) = is_some (entry_at m.elems i)
stands m (things.Segment i) = is_some (entry_at m.segments i)

-- there is an entry, and it passes a test
abbrev pub passes : {A : Type 0} → (A → Bool) → Option A → Bool
passes test (Some x) = test x
passes test None = false

-- the places, counted from i, of the entries that pass a test
unfoldable pub places : {A : Type 0} → (A → Bool) → ℕ → List (Option A) → List ℕ
places test i [] = []
places test i (x ∷ xs) = (if passes test x then i ∷ [] else []) ++ places test (i + 1) xs

-- ---- what operators and entries name

abbrev pub block_names : BlockType → List Thing
block_names blocks.Empty = []
block_names (blocks.Value ty) = []
block_names (blocks.Index id) = things.Type id.0 ∷ []

abbrev pub catch_names : Catch → List Thing
catch_names (catches.Tag form id label) = things.Tag id.0 ∷ []
catch_names (catches.All form label) = []

-- what an operator names: types, functions, tables, memories, globals, tags and segments
abbrev pub op_names : Op → List Thing
op_names (ops.Block code ty) = block_names ty
op_names (ops.Tag code id) = things.Tag id.0 ∷ []
op_names (ops.Func code id) = things.Func id.0 ∷ []
op_names (ops.Indirect code ty table) = things.Type ty.0 ∷ things.Table table.0 ∷ []
op_names (ops.TryTable ty clauses) = block_names ty ++ flat_map catch_names clauses
op_names (ops.Global code id) = things.Global id.0 ∷ []
op_names (ops.Table code id) = things.Table id.0 ∷ []
op_names (ops.Mem code arg) = things.Memory arg.memory.0 ∷ []
op_names (ops.Memory code id) = things.Memory id.0 ∷ []
op_names (ops.MemoryInit segment memory) = things.Segment segment.0 ∷ things.Memory memory.0 ∷ []
op_names (ops.DataDrop id) = things.Segment id.0 ∷ []
op_names (ops.MemoryCopy to from) = things.Memory to.0 ∷ things.Memory from.0 ∷ []
op_names (ops.MemoryFill id) = things.Memory id.0 ∷ []
op_names (ops.TableInit elem table) = things.Elem elem.0 ∷ things.Table table.0 ∷ []
op_names (ops.ElemDrop id) = things.Elem id.0 ∷ []
op_names (ops.TableCopy to from) = things.Table to.0 ∷ things.Table from.0 ∷ []
op_names (ops.FcTable code id) = things.Table id.0 ∷ []
op_names (ops.SimdMem code arg) = things.Memory arg.memory.0 ∷ []
op_names (ops.SimdMemLane code arg lane) = things.Memory arg.memory.0 ∷ []
op_names _ = []

abbrev pub ops_names : List Op → List Thing
ops_names = flat_map op_names

abbrev pub func_thing : FuncId → Thing
func_thing id = things.Func id.0

-- what the entries of an element segment name
abbrev pub content_names : Elem → List Thing
content_names e = map func_thing e.funcs ++ flat_map ops_names e.exprs

-- ---- segments of tables and memories, and what declares a function

-- the table that an active segment goes into
abbrev pub elem_target : Elem → Option ℕ
elem_target e = place_target e.place
  where
    place_target : ElemPlace → Option ℕ
    place_target (elem_places.Active id offset) = Some id.0
    place_target elem_places.Passive = None
    place_target elem_places.Declared = None

-- the memory that an active segment goes into
abbrev pub segment_target : Segment → Option ℕ
segment_target s = place_target s.place
  where
    place_target : Option (MemoryId × List Op) → Option ℕ
    place_target (Some p) = Some (p.0).0
    place_target None = None

abbrev pub is_place : ℕ → Option ℕ → Bool
is_place i (Some j) = j == i
is_place i None = false

-- the active segments of a table
abbrev pub table_segments : Contents → ℕ → List Thing
table_segments m i = map things.Elem (places (λ e. is_place i (elem_target e)) 0 m.elems)

-- the active segments of a memory
abbrev pub memory_segments : Contents → ℕ → List Thing
memory_segments m i = map things.Segment (places (λ s. is_place i (segment_target s)) 0 m.segments)

abbrev pub is_func : ℕ → Thing → Bool
is_func i (things.Func j) = j == i
is_func i _ = false

abbrev pub item_thing : ExportItem → Thing
item_thing (items.Func id) = things.Func id.0
item_thing (items.Table id) = things.Table id.0
item_thing (items.Memory id) = things.Memory id.0
item_thing (items.Global id) = things.Global id.0
item_thing (items.Tag id) = things.Tag id.0

-- the export gives out the function
abbrev pub gives_func : ℕ → Option Export → Bool
gives_func i (Some e) = is_func i (item_thing e.item)
gives_func i None = false

-- What declares a function for `ref.func`, where no export gives it out: the first element segment whose entries name it,
-- without one the first global whose initial expression does.
unfoldable pub declarer : Contents → ℕ → List Thing
declarer m i = if list_any (gives_func i) m.exports then [] else
    take 1 (map things.Elem (places (λ e. list_any (is_func i) (content_names e)) 0 m.elems)
    ++ map things.Global (places (λ (g : GlobalVar). list_any (is_func i) (ops_names g.init)) 0 m.globals))

-- the function that `ref.func` takes
abbrev pub taken_func : Op → Option FuncId
taken_func (ops.Func code id) = if code == 0xD2 then Some id else None
taken_func _ = None

-- what declares the function that is taken, where it has a place
abbrev pub taken_declarer : Contents → Option FuncId → List Thing
taken_declarer m (Some id) = if nat_lt id.0 (length m.funcs) then declarer m id.0 else []
taken_declarer m None = []

-- ---- what things refer to

-- what an operator of a body names, and what declares the function that it takes
abbrev pub body_op_names : Contents → Op → List Thing
body_op_names m op = op_names op ++ taken_declarer m (taken_func op)

abbrev pub body_names : Contents → Option Body → List Thing
body_names m (Some b) = flat_map (body_op_names m) b.ops
body_names m None = []

abbrev pub func_names : Contents → Option Func → List Thing
func_names m (Some f) = things.Type f.ty.0 ∷ body_names m f.body
func_names m None = []

abbrev pub table_names : Contents → ℕ → Option Table → List Thing
table_names m i (Some t) = table_segments m i
table_names m i None = []

abbrev pub memory_names : Contents → ℕ → Option Memory → List Thing
memory_names m i (Some x) = memory_segments m i
memory_names m i None = []

abbrev pub global_names : Option GlobalVar → List Thing
global_names (Some g) = ops_names g.init
global_names None = []

abbrev pub tag_names : Option Tag → List Thing
tag_names (Some t) = things.Type t.ty.0 ∷ []
tag_names None = []

abbrev pub elem_place_names : ElemPlace → List Thing
elem_place_names (elem_places.Active id offset) = things.Table id.0 ∷ ops_names offset
elem_place_names elem_places.Passive = []
elem_place_names elem_places.Declared = []

abbrev pub elem_names : Option Elem → List Thing
elem_names (Some e) = elem_place_names e.place ++ content_names e
elem_names None = []

abbrev pub segment_place_names : Option (MemoryId × List Op) → List Thing
segment_place_names (Some p) = things.Memory (p.0).0 ∷ ops_names p.1
segment_place_names None = []

abbrev pub segment_names : Option Segment → List Thing
segment_names (Some s) = segment_place_names s.place
segment_names None = []

-- What a thing names: a function its type and what its body names, a table or memory its active segments, a global what its
-- initial expression names, a tag its type, a segment its table or memory and what its expressions and functions name.
abbrev pub names : Contents → Thing → List Thing
names m (things.Type i) = []
names m (things.Func i) = func_names m (entry_at m.funcs i)
names m (things.Table i) = table_names m i (entry_at m.tables i)
names m (things.Memory i) = memory_names m i (entry_at m.memories i)
names m (things.Global i) = global_names (entry_at m.globals i)
names m (things.Tag i) = tag_names (entry_at m.tags i)
names m (things.Elem i) = elem_names (entry_at m.elems i)
names m (things.Segment i) = segment_names (entry_at m.segments i)

-- what a thing refers to: the entries that it names
abbrev pub refs : Contents → Thing → List Thing
refs m t = filter (stands m) (names m t)

-- ---- what is reached

abbrev pub export_things : Option Export → List Thing
export_things (Some e) = item_thing e.item ∷ []
export_things None = []

abbrev pub start_things : Option FuncId → List Thing
start_things (Some id) = things.Func id.0 ∷ []
start_things None = []

abbrev pub is_imported_table : Table → Bool
is_imported_table t = is_some t.«import»

abbrev pub is_imported_memory : Memory → Bool
is_imported_memory x = is_some x.«import»

-- the items of the exports, the start function, the roots handed in, and the active segments of imported tables and memories
abbrev pub root_names : Contents → List ExportItem → List Thing
root_names m roots = flat_map export_things m.exports ++ (start_things m.start ++ (map item_thing roots
    ++ (flat_map (table_segments m) (places is_imported_table 0 m.tables)
    ++ flat_map (memory_segments m) (places is_imported_memory 0 m.memories))))

-- The set of what can be reached: the least one that holds the roots and what each of its members refers to.
abbrev pub IsReached : Contents → List ExportItem → (Thing → Bool) → Type 0
IsReached m roots kept = IsLeast (refs m) (filter (stands m) (root_names m roots)) kept

-- ---- what is left

-- The second module is the first with exactly what can be reached from the roots.
pub record IsCollected (m : Contents) (roots : List ExportItem) (left : Contents) : Type 0 where
  pub kept : Thing → Bool
  pub reached : IsReached m roots kept
  pub is_rest : left ≡ remainder kept m
