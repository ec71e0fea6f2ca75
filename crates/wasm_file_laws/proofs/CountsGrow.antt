-- What fits so many entries fits more of them.
use Rattle.std.proofs.Common.{ℕ, ◌+◌, ◌≤◌, Bool, false, List, [], ◌∷◌, length, Option, Some, None, arith, inl, inr}
use Rattle.std.specs.List.{sum_by}
use Rattle.std.proofs.lemmas.Bool.{cases_Bool}
use Rattle.wasm_bytes.specs.declared.counts.Counts.{Counts}
use Rattle.wasm_code.specs.Code.{labels_after}
use Rattle.wasm_types.specs.declared.ids.MemoryId.{MemoryId}
use Rattle.wasm_ops.specs.declared.ops.Op.{Op}
use Rattle.wasm_ops.specs.declared.ops.Op.TheVariants as ops
use Rattle.wasm_ops.specs.declared.ops.BlockType.{BlockType}
use Rattle.wasm_ops.specs.declared.ops.BlockType.TheVariants as block_types
use Rattle.wasm_ops.specs.declared.ops.Catch.{Catch}
use Rattle.wasm_ops.specs.declared.ops.Catch.TheVariants as catches
use Rattle.wasm_ops.specs.declared.ops.MemArg.{MemArg}
use Rattle.wasm_code.specs.declared.body.Body.{Body}
use Rattle.wasm_ops_laws.specs.Fits.{IsIndex, FitsBlockType, FitsCatch, FitsMemArg, FitsOp, FitsOps, FitsInitial, FitsBody}
use Rattle.wasm_file.specs.Spelling.{has_exprs}
use Rattle.wasm_file.specs.declared.entries.Elem.{Elem}
use Rattle.wasm_file.specs.declared.entries.ElemPlace.{ElemPlace}
use Rattle.wasm_file.specs.declared.entries.ElemPlace.TheVariants as places
use Rattle.wasm_file.specs.declared.entries.Export.{Export}
use Rattle.wasm_file.specs.declared.entries.ExportItem.{ExportItem}
use Rattle.wasm_file.specs.declared.entries.ExportItem.TheVariants as items
use Rattle.wasm_file.specs.declared.entries.FileImport.{FileImport}
use Rattle.wasm_file.specs.declared.entries.ImportType.{ImportType}
use Rattle.wasm_file.specs.declared.entries.ImportType.TheVariants as asked
use Rattle.wasm_file.specs.declared.entries.Segment.{Segment}
use Rattle.wasm_file_laws.specs.FileFits.{FitsImportType, FitsImport, FitsItem, FitsExport, FitsInitials, FitsFuncId, FitsElemPlace, FitsElemEntries, FitsElem, FitsSegmentPlace, FitsSegment}
use Rattle.wasm_file_laws.proofs.EachItem.{all_weaker}

-- of each kind there are at least as many
pub record AreAtMost (a b : Counts) : Type 0 where
  pub types : a.types ≤ b.types
  pub funcs : a.funcs ≤ b.funcs
  pub tables : a.tables ≤ b.tables
  pub memories : a.memories ≤ b.memories
  pub globals : a.globals ≤ b.globals
  pub tags : a.tags ≤ b.tags
  pub elems : a.elems ≤ b.elems
  pub segments : a.segments ≤ b.segments
  pub locals : a.locals ≤ b.locals

-- of each kind that initial expressions, exports and segments name there are at least as many
pub record AreNamedAtMost (a b : Counts) : Type 0 where
  pub funcs : a.funcs ≤ b.funcs
  pub tables : a.tables ≤ b.tables
  pub memories : a.memories ≤ b.memories
  pub globals : a.globals ≤ b.globals
  pub tags : a.tags ≤ b.tags

-- where of each kind there are at least as many
pub named_at_most : (a b : Counts) → AreAtMost a b → AreNamedAtMost a b
named_at_most a b le = record { funcs = le.funcs; tables = le.tables; memories = le.memories; globals = le.globals; tags = le.tags }

-- ---- indices

-- there are as many as there are
pub at_most_same : (c : Counts) → AreAtMost c c
at_most_same c = record {
  types = omega arith;
  funcs = omega arith;
  tables = omega arith;
  memories = omega arith;
  globals = omega arith;
  tags = omega arith;
  elems = omega arith;
  segments = omega arith;
  locals = omega arith;
}

pub index_grows : (m n i : ℕ) → m ≤ n → IsIndex m i → IsIndex n i
index_grows m n i le h = let low = h.0 in (omega (arith, low, le), h.1)

block_type_grows : (a b : Counts) → AreAtMost a b → (ty : BlockType) → FitsBlockType a ty → FitsBlockType b ty
block_type_grows a b le block_types.Empty h = tt
block_type_grows a b le (block_types.Value ty) h = tt
block_type_grows a b le (block_types.Index ty) h = index_grows a.types b.types ty.0 le.types h

catch_grows : (a b : Counts) → AreAtMost a b → (blocks : ℕ) (c : Catch) → FitsCatch a blocks c → FitsCatch b blocks c
catch_grows a b le blocks (catches.Tag code tag label) h = (h.0, index_grows a.tags b.tags tag.0 le.tags h.1, h.2)
catch_grows a b le blocks (catches.All code label) h = h

mem_arg_grows : (a b : Counts) → AreAtMost a b → (arg : MemArg) → FitsMemArg a arg → FitsMemArg b arg
mem_arg_grows a b le arg h = (h.0, h.1, index_grows a.memories b.memories arg.memory.0 le.memories h.2, h.3)

-- ---- operators

fits_op_grows : (a b : Counts) → AreAtMost a b → (labels : List Bool) (x : Op) → FitsOp a labels x → FitsOp b labels x
fits_op_grows a b le labels (ops.Plain code) h = h
fits_op_grows a b le labels (ops.Block code ty) h = (h.0, block_type_grows a b le ty h.1)
fits_op_grows a b le labels (ops.Tag code tag) h = (h.0, index_grows a.tags b.tags tag.0 le.tags h.1)
fits_op_grows a b le labels (ops.Label code label) h = h
fits_op_grows a b le labels (ops.BrTable table label) h = h
fits_op_grows a b le labels (ops.Func code func) h = (h.0, index_grows a.funcs b.funcs func.0 le.funcs h.1)
fits_op_grows a b le labels (ops.Indirect code ty table) h = (h.0, index_grows a.types b.types ty.0 le.types h.1, index_grows a.tables b.tables table.0 le.tables h.2)
fits_op_grows a b le labels (ops.Select types) h = h
fits_op_grows a b le labels (ops.TryTable ty clauses) h = (block_type_grows a b le ty h.0, h.1, all_weaker (FitsCatch a (length labels)) (FitsCatch b (length labels)) (catch_grows a b le (length labels)) clauses h.2)
fits_op_grows a b le labels (ops.Local code local) h = (h.0, index_grows a.locals b.locals local le.locals h.1)
fits_op_grows a b le labels (ops.Global code global) h = (h.0, index_grows a.globals b.globals global.0 le.globals h.1)
fits_op_grows a b le labels (ops.Table code table) h = (h.0, index_grows a.tables b.tables table.0 le.tables h.1)
fits_op_grows a b le labels (ops.Mem code arg) h = (h.0, mem_arg_grows a b le arg h.1)
fits_op_grows a b le labels (ops.Memory code memory) h = (h.0, index_grows a.memories b.memories memory.0 le.memories h.1)
fits_op_grows a b le labels (ops.Const32 n) h = h
fits_op_grows a b le labels (ops.Const64 n) h = h
fits_op_grows a b le labels (ops.Raw4 bytes) h = h
fits_op_grows a b le labels (ops.Raw8 bytes) h = h
fits_op_grows a b le labels (ops.RefNull ty) h = h
fits_op_grows a b le labels (ops.FcPlain code) h = h
fits_op_grows a b le labels (ops.MemoryInit segment memory) h = (index_grows a.segments b.segments segment.0 le.segments h.0, index_grows a.memories b.memories memory.0 le.memories h.1)
fits_op_grows a b le labels (ops.DataDrop segment) h = index_grows a.segments b.segments segment.0 le.segments h
fits_op_grows a b le labels (ops.MemoryCopy to from) h = (index_grows a.memories b.memories to.0 le.memories h.0, index_grows a.memories b.memories from.0 le.memories h.1)
fits_op_grows a b le labels (ops.MemoryFill memory) h = index_grows a.memories b.memories memory.0 le.memories h
fits_op_grows a b le labels (ops.TableInit elem table) h = (index_grows a.elems b.elems elem.0 le.elems h.0, index_grows a.tables b.tables table.0 le.tables h.1)
fits_op_grows a b le labels (ops.ElemDrop elem) h = index_grows a.elems b.elems elem.0 le.elems h
fits_op_grows a b le labels (ops.TableCopy to from) h = (index_grows a.tables b.tables to.0 le.tables h.0, index_grows a.tables b.tables from.0 le.tables h.1)
fits_op_grows a b le labels (ops.FcTable code table) h = (h.0, h.1, index_grows a.tables b.tables table.0 le.tables h.2)
fits_op_grows a b le labels (ops.Simd code) h = h
fits_op_grows a b le labels (ops.SimdMem code arg) h = (h.0, h.1, mem_arg_grows a b le arg h.2)
fits_op_grows a b le labels (ops.SimdMemLane code arg lane) h = (h.0, h.1, mem_arg_grows a b le arg h.2)
fits_op_grows a b le labels (ops.SimdBytes code bytes) h = h
fits_op_grows a b le labels (ops.SimdLane code lane) h = h

fits_ops_grow : (a b : Counts) → AreAtMost a b → (labels : List Bool) (xs : List Op) → FitsOps a labels xs → FitsOps b labels xs
fits_ops_grow a b le labels [] h = h
fits_ops_grow a b le labels (x ∷ xs) h = (fits_op_grows a b le labels x h.0, h.1, fits_ops_grow a b le (labels_after x labels) xs h.2)

-- the same with so many locals in either
with_locals : (a b : Counts) (n : ℕ) → AreAtMost a b → AreAtMost (record a { locals = n }) (record b { locals = n })
with_locals a b n le = record {
  types = le.types;
  funcs = le.funcs;
  tables = le.tables;
  memories = le.memories;
  globals = le.globals;
  tags = le.tags;
  elems = le.elems;
  segments = le.segments;
  locals = omega arith;
}

pub fits_body_grows : (a b : Counts) → AreAtMost a b → (params : ℕ) (x : Body) → FitsBody a params x → FitsBody b params x
fits_body_grows a b le params x h =
    let n : ℕ = params + sum_by (λ r. r.0) x.locals in
    record { few = h.few; code = fits_ops_grow (record a { locals = n }) (record b { locals = n }) (with_locals a b n le) (false ∷ []) x.ops h.code }

-- ---- initial expressions

fits_initial_grows : (a b : Counts) → AreNamedAtMost a b → (x : Op) → FitsInitial a x → FitsInitial b x
fits_initial_grows a b le (ops.Plain code) h = h
fits_initial_grows a b le (ops.Func code func) h = (h.0, index_grows a.funcs b.funcs func.0 le.funcs h.1)
fits_initial_grows a b le (ops.Global code global) h = (h.0, index_grows a.globals b.globals global.0 le.globals h.1)
fits_initial_grows a b le (ops.Const32 n) h = h
fits_initial_grows a b le (ops.Const64 n) h = h
fits_initial_grows a b le (ops.Raw4 bytes) h = h
fits_initial_grows a b le (ops.Raw8 bytes) h = h
fits_initial_grows a b le (ops.RefNull ty) h = h
fits_initial_grows a b le (ops.SimdBytes code bytes) h = h
fits_initial_grows a b le _ h = absurd h

pub fits_initials_grow : (a b : Counts) → AreNamedAtMost a b → (xs : List Op) → FitsInitials a xs → FitsInitials b xs
fits_initials_grow a b le xs h = all_weaker (FitsInitial a) (FitsInitial b) (fits_initial_grows a b le) xs h

-- ---- imports and exports

import_type_grows : (a b : Counts) → a.types ≤ b.types → (ty : ImportType) → FitsImportType a ty → FitsImportType b ty
import_type_grows a b le (asked.Func ty) h = index_grows a.types b.types ty.0 le h
import_type_grows a b le (asked.Table elem limits) h = h
import_type_grows a b le (asked.Memory limits) h = h
import_type_grows a b le (asked.Global ty mutable) h = h
import_type_grows a b le (asked.Tag ty) h = index_grows a.types b.types ty.0 le h

pub fits_import_grows : (a b : Counts) → a.types ≤ b.types → (i : FileImport) → FitsImport a i → FitsImport b i
fits_import_grows a b le i h = record { module_fits = h.module_fits; name_fits = h.name_fits; ty_fits = import_type_grows a b le i.ty h.ty_fits }

item_grows : (a b : Counts) → AreNamedAtMost a b → (item : ExportItem) → FitsItem a item → FitsItem b item
item_grows a b le (items.Func id) h = index_grows a.funcs b.funcs id.0 le.funcs h
item_grows a b le (items.Table id) h = index_grows a.tables b.tables id.0 le.tables h
item_grows a b le (items.Memory id) h = index_grows a.memories b.memories id.0 le.memories h
item_grows a b le (items.Global id) h = index_grows a.globals b.globals id.0 le.globals h
item_grows a b le (items.Tag id) h = index_grows a.tags b.tags id.0 le.tags h

pub fits_export_grows : (a b : Counts) → AreNamedAtMost a b → (e : Export) → FitsExport a e → FitsExport b e
fits_export_grows a b le e h = record { name_fits = h.name_fits; item_fits = item_grows a b le e.item h.item_fits }

-- ---- segments

elem_place_grows : (a b : Counts) → AreNamedAtMost a b → (place : ElemPlace) → FitsElemPlace a place → FitsElemPlace b place
elem_place_grows a b le (places.Active table init) h = (index_grows a.tables b.tables table.0 le.tables h.0, fits_initials_grow a b le init h.1)
elem_place_grows a b le places.Passive h = tt
elem_place_grows a b le places.Declared h = tt

elem_entries_grow : (a b : Counts) → AreNamedAtMost a b → (e : Elem) → FitsElemEntries a e → FitsElemEntries b e
elem_entries_grow a b le e h = elim (cases_Bool (has_exprs e)) [
  | inl is ↦
      let kept = (rw is at h) in
      rw is (kept.0, kept.1, kept.2, all_weaker (FitsInitials a) (FitsInitials b) (fits_initials_grow a b le) e.exprs kept.3)
  | inr not ↦
      let kept = (rw not at h) in
      rw not (kept.0, all_weaker (FitsFuncId a) (FitsFuncId b) (λ f g. index_grows a.funcs b.funcs f.0 le.funcs g) e.funcs kept.1)
]

pub fits_elem_grows : (a b : Counts) → AreNamedAtMost a b → (e : Elem) → FitsElem a e → FitsElem b e
fits_elem_grows a b le e h = record { place_fits = elem_place_grows a b le e.place h.place_fits; entries_fit = elem_entries_grow a b le e h.entries_fit }

segment_place_grows : (a b : Counts) → AreNamedAtMost a b → (place : Option (MemoryId × List Op)) → FitsSegmentPlace a place → FitsSegmentPlace b place
segment_place_grows a b le (Some p) h = (index_grows a.memories b.memories p.0.0 le.memories h.0, fits_initials_grow a b le p.1 h.1)
segment_place_grows a b le None h = tt

pub fits_segment_grows : (a b : Counts) → AreNamedAtMost a b → (s : Segment) → FitsSegment a s → FitsSegment b s
fits_segment_grows a b le s h = record { place_fits = segment_place_grows a b le s.place h.place_fits; bytes_few = h.bytes_few }
