-- Marks on things.
use Rattle.std.specs.Prelude.{ℕ, ◌+◌, ◌<◌, Bool, true, false, cond, List, length, replicate, slice_index_or, slice_set}
use Rattle.std.specs.List.{sum_by}
use Rattle.wasm_reach.specs.declared.marks.Sizes.{Sizes}
use Rattle.wasm_reach.specs.declared.things.Thing.{Thing}
use Rattle.wasm_reach.specs.declared.things.Thing.TheVariants as things

-- a mark or none for each place of a module's lists
pub record Rows : Type 0 where
  pub types : List Bool
  pub funcs : List Bool
  pub tables : List Bool
  pub memories : List Bool
  pub globals : List Bool
  pub tags : List Bool
  pub elems : List Bool
  pub segments : List Bool

-- there is a mark on the thing
abbrev pub is_marked : Rows → Thing → Bool
is_marked m (things.Type i) = slice_index_or m.types i false
is_marked m (things.Func i) = slice_index_or m.funcs i false
is_marked m (things.Table i) = slice_index_or m.tables i false
is_marked m (things.Memory i) = slice_index_or m.memories i false
is_marked m (things.Global i) = slice_index_or m.globals i false
is_marked m (things.Tag i) = slice_index_or m.tags i false
is_marked m (things.Elem i) = slice_index_or m.elems i false
is_marked m (things.Segment i) = slice_index_or m.segments i false

-- one mark more
abbrev pub with_mark : Rows → Thing → Rows
with_mark m (things.Type i) = record m { types = slice_set m.types i true }
with_mark m (things.Func i) = record m { funcs = slice_set m.funcs i true }
with_mark m (things.Table i) = record m { tables = slice_set m.tables i true }
with_mark m (things.Memory i) = record m { memories = slice_set m.memories i true }
with_mark m (things.Global i) = record m { globals = slice_set m.globals i true }
with_mark m (things.Tag i) = record m { tags = slice_set m.tags i true }
with_mark m (things.Elem i) = record m { elems = slice_set m.elems i true }
with_mark m (things.Segment i) = record m { segments = slice_set m.segments i true }

-- the thing has a place in its list
abbrev pub IsWithin : Rows → Thing → Type 0
IsWithin m (things.Type i) = i < length m.types
IsWithin m (things.Func i) = i < length m.funcs
IsWithin m (things.Table i) = i < length m.tables
IsWithin m (things.Memory i) = i < length m.memories
IsWithin m (things.Global i) = i < length m.globals
IsWithin m (things.Tag i) = i < length m.tags
IsWithin m (things.Elem i) = i < length m.elems
IsWithin m (things.Segment i) = i < length m.segments

-- the thing has a place in a list of that size
abbrev pub IsCounted : Sizes → Thing → Type 0
IsCounted s (things.Type i) = i < s.types
IsCounted s (things.Func i) = i < s.funcs
IsCounted s (things.Table i) = i < s.tables
IsCounted s (things.Memory i) = i < s.memories
IsCounted s (things.Global i) = i < s.globals
IsCounted s (things.Tag i) = i < s.tags
IsCounted s (things.Elem i) = i < s.elems
IsCounted s (things.Segment i) = i < s.segments

-- no marks on lists of these sizes
unfoldable pub unmarked : Sizes → Rows
unmarked s = record {
  types = replicate s.types false;
  funcs = replicate s.funcs false;
  tables = replicate s.tables false;
  memories = replicate s.memories false;
  globals = replicate s.globals false;
  tags = replicate s.tags false;
  elems = replicate s.elems false;
  segments = replicate s.segments false;
}

-- how many places there are
unfoldable pub room : Rows → ℕ
room m = length m.types + length m.funcs + length m.tables + length m.memories + length m.globals + length m.tags + length m.elems + length m.segments

abbrev pub one : Bool → ℕ
one b = cond b 1 0

-- how many places are marked
unfoldable pub marks_count : Rows → ℕ
marks_count m = sum_by one m.types + sum_by one m.funcs + sum_by one m.tables + sum_by one m.memories + sum_by one m.globals + sum_by one m.tags + sum_by one m.elems + sum_by one m.segments
