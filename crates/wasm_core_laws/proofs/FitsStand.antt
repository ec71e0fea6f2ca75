-- What fits counts names what stands, where an entry stands below each count.
use Rattle.std.proofs.Common.{ℕ, ◌<◌, Bool, false, List, [], ◌∷◌, map, length, Option, Some, None, inl, inr}
use Rattle.std.specs.List.{AllByRecursion, flat_map}
use Rattle.std.proofs.lemmas.Bool.{cases_Bool}
use Rattle.wasm_bytes.specs.declared.counts.Counts.{Counts}
use Rattle.wasm_code.specs.Code.{labels_after}
use Rattle.wasm_types.specs.declared.ids.FuncId.{FuncId}
use Rattle.wasm_types.specs.declared.ids.MemoryId.{MemoryId}
use Rattle.wasm_ops.specs.declared.ops.BlockType.{BlockType}
use Rattle.wasm_ops.specs.declared.ops.BlockType.TheVariants as blocks
use Rattle.wasm_code.specs.declared.body.Body.{Body}
use Rattle.wasm_ops.specs.declared.ops.Catch.{Catch}
use Rattle.wasm_ops.specs.declared.ops.Catch.TheVariants as catches
use Rattle.wasm_ops.specs.declared.ops.Op.{Op}
use Rattle.wasm_ops.specs.declared.ops.Op.TheVariants as ops
use Rattle.wasm_ops_laws.specs.Fits.{FitsBlockType, FitsCatch, FitsOp, FitsOps, FitsInitial, FitsBody}
use Rattle.wasm_file.specs.Spelling.{has_exprs}
use Rattle.wasm_file.specs.declared.entries.Elem.{Elem}
use Rattle.wasm_file.specs.declared.entries.ElemPlace.{ElemPlace}
use Rattle.wasm_file.specs.declared.entries.ElemPlace.TheVariants as places
use Rattle.wasm_file.specs.declared.entries.ExportItem.{ExportItem}
use Rattle.wasm_file.specs.declared.entries.ExportItem.TheVariants as items
use Rattle.wasm_file.specs.declared.entries.Segment.{Segment}
use Rattle.wasm_file_laws.specs.FileFits.{FitsInitials, FitsItem, FitsFuncId, FitsElemPlace, FitsElemEntries, FitsElem, FitsSegmentPlace, FitsSegment}
use Rattle.wasm_file_laws.proofs.EntriesAgain.{no_exprs}
use Rattle.wasm_file_laws.proofs.EachItem.{all_weaker, all_both}
use Rattle.wasm_reach.specs.declared.things.Thing.TheVariants as things
use Rattle.wasm_core.specs.Contents.{Contents}
use Rattle.wasm_collect.specs.Reach.{block_names, catch_names, op_names, ops_names, func_thing, content_names, elem_place_names, elem_names, segment_place_names, segment_names, item_thing}
use Rattle.wasm_core_laws.specs.ModuleFits.{Stands, AllStand}
use Rattle.wasm_core_laws.proofs.Everywhere.{all_flat, all_map}

-- an entry stands at each place below these counts
pub record HasCounted (m : Contents) (counts : Counts) : Type 0 where
  pub types : (i : ℕ) → i < counts.types → Stands m (things.Type i)
  pub funcs : (i : ℕ) → i < counts.funcs → Stands m (things.Func i)
  pub tables : (i : ℕ) → i < counts.tables → Stands m (things.Table i)
  pub memories : (i : ℕ) → i < counts.memories → Stands m (things.Memory i)
  pub globals : (i : ℕ) → i < counts.globals → Stands m (things.Global i)
  pub tags : (i : ℕ) → i < counts.tags → Stands m (things.Tag i)
  pub elems : (i : ℕ) → i < counts.elems → Stands m (things.Elem i)
  pub segments : (i : ℕ) → i < counts.segments → Stands m (things.Segment i)

module _ (m : Contents) where
  -- ---- operators

  -- the type of a block
  block_stands : (counts : Counts) → HasCounted m counts → (ty : BlockType) → FitsBlockType counts ty → AllStand m (block_names ty)
  block_stands counts c blocks.Empty h = tt
  block_stands counts c (blocks.Value ty) h = tt
  block_stands counts c (blocks.Index ty) h = (c.types ty.0 h.0, tt)

  -- what a catch clause names
  catch_stands : (counts : Counts) → HasCounted m counts → (labels : ℕ) (x : Catch) → FitsCatch counts labels x → AllStand m (catch_names x)
  catch_stands counts c labels (catches.Tag code tag label) h = (c.tags tag.0 h.1.0, tt)
  catch_stands counts c labels (catches.All code label) h = tt

  -- what an operator names
  op_stands : (counts : Counts) → HasCounted m counts → (labels : List Bool) (x : Op) → FitsOp counts labels x → AllStand m (op_names x)
  op_stands counts c labels (ops.Block code ty) h = block_stands counts c ty h.1
  op_stands counts c labels (ops.Tag code tag) h = (c.tags tag.0 h.1.0, tt)
  op_stands counts c labels (ops.Func code func) h = (c.funcs func.0 h.1.0, tt)
  op_stands counts c labels (ops.Indirect code ty table) h = (c.types ty.0 h.1.0, (c.tables table.0 h.2.0, tt))
  op_stands counts c labels (ops.TryTable ty clauses) h =
      all_both (Stands m) (block_names ty) (flat_map catch_names clauses) (block_stands counts c ty h.0)
      (all_flat (Stands m) catch_names clauses (all_weaker (FitsCatch counts (length labels)) (λ x. AllStand m (catch_names x)) (catch_stands counts c (length labels)) clauses h.2))
  op_stands counts c labels (ops.Global code global) h = (c.globals global.0 h.1.0, tt)
  op_stands counts c labels (ops.Table code table) h = (c.tables table.0 h.1.0, tt)
  op_stands counts c labels (ops.Mem code arg) h = (c.memories arg.memory.0 h.1.2.0, tt)
  op_stands counts c labels (ops.Memory code memory) h = (c.memories memory.0 h.1.0, tt)
  op_stands counts c labels (ops.MemoryInit segment memory) h = (c.segments segment.0 h.0.0, (c.memories memory.0 h.1.0, tt))
  op_stands counts c labels (ops.DataDrop segment) h = (c.segments segment.0 h.0, tt)
  op_stands counts c labels (ops.MemoryCopy to from) h = (c.memories to.0 h.0.0, (c.memories from.0 h.1.0, tt))
  op_stands counts c labels (ops.MemoryFill memory) h = (c.memories memory.0 h.0, tt)
  op_stands counts c labels (ops.TableInit elem table) h = (c.elems elem.0 h.0.0, (c.tables table.0 h.1.0, tt))
  op_stands counts c labels (ops.ElemDrop elem) h = (c.elems elem.0 h.0, tt)
  op_stands counts c labels (ops.TableCopy to from) h = (c.tables to.0 h.0.0, (c.tables from.0 h.1.0, tt))
  op_stands counts c labels (ops.FcTable code table) h = (c.tables table.0 h.2.0, tt)
  op_stands counts c labels (ops.SimdMem code arg) h = (c.memories arg.memory.0 h.2.2.0, tt)
  op_stands counts c labels (ops.SimdMemLane code arg lane) h = (c.memories arg.memory.0 h.2.2.0, tt)
  op_stands counts c labels _ h = tt

  -- what the operators of a body name
  ops_stand : (counts : Counts) → HasCounted m counts → (labels : List Bool) (xs : List Op) → FitsOps counts labels xs → AllStand m (ops_names xs)
  ops_stand counts c labels [] h = tt
  ops_stand counts c labels (x ∷ xs) h = all_both (Stands m) (op_names x) (ops_names xs) (op_stands counts c labels x h.0) (ops_stand counts c (labels_after x labels) xs h.2)

  -- what an operator of an initial expression names
  initial_stands : (counts : Counts) → HasCounted m counts → (x : Op) → FitsInitial counts x → AllStand m (op_names x)
  initial_stands counts c (ops.Func code func) h = (c.funcs func.0 h.1.0, tt)
  initial_stands counts c (ops.Global code global) h = (c.globals global.0 h.1.0, tt)
  initial_stands counts c (ops.Plain code) h = tt
  initial_stands counts c (ops.Const32 n) h = tt
  initial_stands counts c (ops.Const64 n) h = tt
  initial_stands counts c (ops.Raw4 bytes) h = tt
  initial_stands counts c (ops.Raw8 bytes) h = tt
  initial_stands counts c (ops.RefNull ty) h = tt
  initial_stands counts c (ops.SimdBytes code bytes) h = tt
  initial_stands counts c _ h = absurd h

  -- what an initial expression names
  pub initials_stand : (counts : Counts) → HasCounted m counts → (xs : List Op) → FitsInitials counts xs → AllStand m (ops_names xs)
  initials_stand counts c xs h = all_flat (Stands m) op_names xs (all_weaker (FitsInitial counts) (λ x. AllStand m (op_names x)) (initial_stands counts c) xs h)

  -- what a body names
  pub body_stands : (counts : Counts) → HasCounted m counts → (params : ℕ) (b : Body) → FitsBody counts params b → AllStand m (ops_names b.ops)
  body_stands counts c params b h = ops_stand _ (record {
    types = c.types;
    funcs = c.funcs;
    tables = c.tables;
    memories = c.memories;
    globals = c.globals;
    tags = c.tags;
    elems = c.elems;
    segments = c.segments;
  }) (false ∷ []) b.ops h.code

  -- ---- exports and segments

  -- what is exported
  pub item_stands : (counts : Counts) → HasCounted m counts → (x : ExportItem) → FitsItem counts x → Stands m (item_thing x)
  item_stands counts c (items.Func id) h = c.funcs id.0 h.0
  item_stands counts c (items.Table id) h = c.tables id.0 h.0
  item_stands counts c (items.Memory id) h = c.memories id.0 h.0
  item_stands counts c (items.Global id) h = c.globals id.0 h.0
  item_stands counts c (items.Tag id) h = c.tags id.0 h.0

  -- what the place of an element segment names
  place_stands : (counts : Counts) → HasCounted m counts → (x : ElemPlace) → FitsElemPlace counts x → AllStand m (elem_place_names x)
  place_stands counts c (places.Active table init) h = (c.tables table.0 h.0.0, initials_stand counts c init h.1)
  place_stands counts c places.Passive h = tt
  place_stands counts c places.Declared h = tt

  -- functions of an element segment
  funcs_stand : (counts : Counts) → HasCounted m counts → (xs : List FuncId) → AllByRecursion (FitsFuncId counts) xs → AllStand m (map func_thing xs)
  funcs_stand counts c xs h = all_map (Stands m) func_thing xs (all_weaker (FitsFuncId counts) (λ x. Stands m (func_thing x)) (λ x f. c.funcs x.0 f.0) xs h)

  -- what expressions of an element segment name
  exprs_stand : (counts : Counts) → HasCounted m counts → (xs : List (List Op)) → AllByRecursion (FitsInitials counts) xs → AllStand m (flat_map ops_names xs)
  exprs_stand counts c xs h = all_flat (Stands m) ops_names xs (all_weaker (FitsInitials counts) (λ x. AllStand m (ops_names x)) (initials_stand counts c) xs h)

  -- what the entries of an element segment name
  content_stands : (counts : Counts) → HasCounted m counts → (e : Elem) → FitsElemEntries counts e → AllStand m (content_names e)
  content_stands counts c e h = elim (cases_Bool (has_exprs e)) [
    | inl is ↦
        let fits = rw is at h in
        all_both (Stands m) (map func_thing e.funcs) (flat_map ops_names e.exprs) (rw (fits.1) tt) (exprs_stand counts c e.exprs fits.3)
    | inr not ↦
        let fits = rw not at h in
        all_both (Stands m) (map func_thing e.funcs) (flat_map ops_names e.exprs) (funcs_stand counts c e.funcs fits.1) (rw ((no_exprs e not).1) tt)
  ]

  -- what an element segment names
  pub elem_stands : (counts : Counts) → HasCounted m counts → (e : Elem) → FitsElem counts e → AllStand m (elem_names (Some e))
  elem_stands counts c e h = all_both (Stands m) (elem_place_names e.place) (content_names e) (place_stands counts c e.place h.place_fits) (content_stands counts c e h.entries_fit)

  -- what the place of a data segment names
  segment_place_stands : (counts : Counts) → HasCounted m counts → (p : Option (MemoryId × List Op)) → FitsSegmentPlace counts p → AllStand m (segment_place_names p)
  segment_place_stands counts c (Some p) h = (c.memories p.0.0 h.0.0, initials_stand counts c p.1 h.1)
  segment_place_stands counts c None h = tt

  -- what a data segment names
  pub segment_stands : (counts : Counts) → HasCounted m counts → (s : Segment) → FitsSegment counts s → AllStand m (segment_names (Some s))
  segment_stands counts c s h = segment_place_stands counts c s.place h.place_fits
