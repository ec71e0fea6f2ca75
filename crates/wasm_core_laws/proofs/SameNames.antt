-- What names things whose numbers are their places is the same with new numbers.
use Rattle.std.proofs.Common.{◌≡◌, List, [], ◌∷◌, map, Option, Some, None, refl, ap, ◌∙◌}
use Rattle.std.specs.List.{AllByRecursion, flat_map}
use Rattle.wasm_ops.specs.Numbers.{number_at, renumbered_block_type, renumbered_catch, renumbered_table, renumbered_memory, renumbered_op}
use Rattle.wasm_code.specs.Numbers.{renumbered_ops}
use Rattle.wasm_types.specs.declared.ids.FuncId.{FuncId}
use Rattle.wasm_types.specs.declared.ids.MemoryId.{MemoryId}
use Rattle.wasm_ops.specs.declared.ops.BlockType.{BlockType}
use Rattle.wasm_ops.specs.declared.ops.BlockType.TheVariants as blocks
use Rattle.wasm_ops.specs.declared.ops.Catch.{Catch}
use Rattle.wasm_ops.specs.declared.ops.Catch.TheVariants as catches
use Rattle.wasm_ops.specs.declared.ops.Numbering.{Numbering}
use Rattle.wasm_ops.specs.declared.ops.Op.{Op}
use Rattle.wasm_ops.specs.declared.ops.Op.TheVariants as ops
use Rattle.wasm_file.specs.declared.entries.Elem.{Elem}
use Rattle.wasm_file.specs.declared.entries.ElemPlace.{ElemPlace}
use Rattle.wasm_file.specs.declared.entries.ElemPlace.TheVariants as places
use Rattle.wasm_file.specs.declared.entries.Export.{Export}
use Rattle.wasm_file.specs.declared.entries.ExportItem.{ExportItem}
use Rattle.wasm_file.specs.declared.entries.ExportItem.TheVariants as items
use Rattle.wasm_file.specs.declared.entries.Segment.{Segment}
use Rattle.wasm_file_laws.proofs.EachItem.{all_weaker, all_apart}
use Rattle.wasm_reach.specs.declared.things.Thing.{Thing}
use Rattle.wasm_reach.specs.declared.things.Thing.TheVariants as things
use Rattle.wasm_core.specs.declared.types.ImportKind.{ImportKind}
use Rattle.wasm_core.specs.declared.types.ImportKind.TheVariants as kinds
use Rattle.wasm_emission.specs.Emission.{file_func, file_item, file_export, file_place, file_elem, file_segment_place, file_segment}
use Rattle.wasm_core.specs.Remainder.{import_thing}
use Rattle.wasm_collect.specs.Reach.{block_names, catch_names, op_names, ops_names, func_thing, content_names, elem_place_names, elem_names, segment_place_names, segment_names, item_thing}
use Rattle.wasm_core_laws.specs.Again.{kind_again}
use Rattle.wasm_core_laws.proofs.Everywhere.{all_flattened, all_same}

-- the thing's number is its place
abbrev pub IsSame : Numbering → Thing → Type 0
IsSame n (things.Type i) = number_at n.types i ≡ i
IsSame n (things.Func i) = number_at n.funcs i ≡ i
IsSame n (things.Table i) = number_at n.tables i ≡ i
IsSame n (things.Memory i) = number_at n.memories i ≡ i
IsSame n (things.Global i) = number_at n.globals i ≡ i
IsSame n (things.Tag i) = number_at n.tags i ≡ i
IsSame n (things.Elem i) = number_at n.elems i ≡ i
IsSame n (things.Segment i) = number_at n.segments i ≡ i

module _ (n : Numbering) where
  -- the number of each is its place
  abbrev pub AllSame : List Thing → Type 0
  AllSame ts = AllByRecursion (IsSame n) ts

  -- ---- operators

  -- the type of a block
  block_same : (ty : BlockType) → AllSame (block_names ty) → renumbered_block_type n ty ≡ ty
  block_same blocks.Empty h = refl
  block_same (blocks.Value ty) h = refl
  block_same (blocks.Index ty) h = ap (λ k. blocks.Index (record { 0 = k })) h.0

  -- a catch clause
  catch_same : (x : Catch) → AllSame (catch_names x) → renumbered_catch n x ≡ x
  catch_same (catches.Tag code tag label) h = ap (λ k. catches.Tag code (record { 0 = k }) label) h.0
  catch_same (catches.All code label) h = refl

  -- an operator
  op_same : (x : Op) → AllSame (op_names x) → renumbered_op n x ≡ x
  unfolding renumbered_op
  op_same (ops.Block code ty) h = ap (ops.Block code) (block_same ty h)
  op_same (ops.Tag code tag) h = ap (λ k. ops.Tag code (record { 0 = k })) h.0
  op_same (ops.Func code func) h = ap (λ k. ops.Func code (record { 0 = k })) h.0
  op_same (ops.Indirect code ty table) h = ap (λ k. ops.Indirect code (record { 0 = k }) (renumbered_table n table)) h.0 ∙ ap (λ k. ops.Indirect code ty (record { 0 = k })) h.1.0
  op_same (ops.TryTable ty clauses) h =
      let p = all_apart (IsSame n) (block_names ty) (flat_map catch_names clauses) h in
      ap (λ t. ops.TryTable t (map (renumbered_catch n) clauses)) (block_same ty p.0)
      ∙ ap (ops.TryTable ty) (all_same (renumbered_catch n) clauses (all_weaker (λ x. AllSame (catch_names x)) (λ x. renumbered_catch n x ≡ x) catch_same clauses (all_flattened (IsSame n) catch_names clauses p.1)))
  op_same (ops.Global code global) h = ap (λ k. ops.Global code (record { 0 = k })) h.0
  op_same (ops.Table code table) h = ap (λ k. ops.Table code (record { 0 = k })) h.0
  op_same (ops.Mem code arg) h = ap (λ k. ops.Mem code (record arg { memory = record { 0 = k } })) h.0
  op_same (ops.Memory code memory) h = ap (λ k. ops.Memory code (record { 0 = k })) h.0
  op_same (ops.MemoryInit segment memory) h = ap (λ k. ops.MemoryInit (record { 0 = k }) (renumbered_memory n memory)) h.0 ∙ ap (λ k. ops.MemoryInit segment (record { 0 = k })) h.1.0
  op_same (ops.DataDrop segment) h = ap (λ k. ops.DataDrop (record { 0 = k })) h.0
  op_same (ops.MemoryCopy to from) h = ap (λ k. ops.MemoryCopy (record { 0 = k }) (renumbered_memory n from)) h.0 ∙ ap (λ k. ops.MemoryCopy to (record { 0 = k })) h.1.0
  op_same (ops.MemoryFill memory) h = ap (λ k. ops.MemoryFill (record { 0 = k })) h.0
  op_same (ops.TableInit elem table) h = ap (λ k. ops.TableInit (record { 0 = k }) (renumbered_table n table)) h.0 ∙ ap (λ k. ops.TableInit elem (record { 0 = k })) h.1.0
  op_same (ops.ElemDrop elem) h = ap (λ k. ops.ElemDrop (record { 0 = k })) h.0
  op_same (ops.TableCopy to from) h = ap (λ k. ops.TableCopy (record { 0 = k }) (renumbered_table n from)) h.0 ∙ ap (λ k. ops.TableCopy to (record { 0 = k })) h.1.0
  op_same (ops.FcTable code table) h = ap (λ k. ops.FcTable code (record { 0 = k })) h.0
  op_same (ops.SimdMem code arg) h = ap (λ k. ops.SimdMem code (record arg { memory = record { 0 = k } })) h.0
  op_same (ops.SimdMemLane code arg lane) h = ap (λ k. ops.SimdMemLane code (record arg { memory = record { 0 = k } }) lane) h.0
  op_same _ h = refl

  -- operators
  pub ops_same : (xs : List Op) → AllSame (ops_names xs) → renumbered_ops n xs ≡ xs
  ops_same xs h = all_same (renumbered_op n) xs (all_weaker (λ x. AllSame (op_names x)) (λ x. renumbered_op n x ≡ x) op_same xs (all_flattened (IsSame n) op_names xs h))

  -- ---- exports, imports and segments

  -- an export
  pub export_same : (e : Export) → IsSame n (item_thing e.item) → file_export n e ≡ e
  export_same e h = ap (λ x. record { name = e.name; item = x }) (item_same e.item h)
    where
      item_same : (x : ExportItem) → IsSame n (item_thing x) → file_item n x ≡ x
      item_same (items.Func id) h = ap (λ k. items.Func (record { 0 = k })) h
      item_same (items.Table id) h = ap (λ k. items.Table (record { 0 = k })) h
      item_same (items.Memory id) h = ap (λ k. items.Memory (record { 0 = k })) h
      item_same (items.Global id) h = ap (λ k. items.Global (record { 0 = k })) h
      item_same (items.Tag id) h = ap (λ k. items.Tag (record { 0 = k })) h

  -- what an import brings in
  pub kind_same : (x : ImportKind) → IsSame n (import_thing x) → kind_again n x ≡ x
  kind_same (kinds.Func id) h = ap (λ k. kinds.Func (record { 0 = k })) h
  kind_same (kinds.Table id) h = ap (λ k. kinds.Table (record { 0 = k })) h
  kind_same (kinds.Memory id) h = ap (λ k. kinds.Memory (record { 0 = k })) h
  kind_same (kinds.Global id) h = ap (λ k. kinds.Global (record { 0 = k })) h
  kind_same (kinds.Tag id) h = ap (λ k. kinds.Tag (record { 0 = k })) h

  -- the place of an element segment
  place_same : (x : ElemPlace) → AllSame (elem_place_names x) → file_place n x ≡ x
  place_same (places.Active table init) h = ap (λ k. places.Active (record { 0 = k }) (renumbered_ops n init)) h.0 ∙ ap (places.Active table) (ops_same init h.1)
  place_same places.Passive h = refl
  place_same places.Declared h = refl

  -- functions of an element segment
  funcs_same : (xs : List FuncId) → AllSame (map func_thing xs) → map (file_func n) xs ≡ xs
  funcs_same [] h = refl
  funcs_same (x ∷ xs) h = ap (λ k. record { 0 = k } ∷ map (file_func n) xs) h.0 ∙ ap (λ ys. x ∷ ys) (funcs_same xs h.1)

  -- expressions of an element segment
  exprs_same : (xs : List (List Op)) → AllSame (flat_map ops_names xs) → map (renumbered_ops n) xs ≡ xs
  exprs_same xs h = all_same (renumbered_ops n) xs (all_weaker (λ x. AllSame (ops_names x)) (λ x. renumbered_ops n x ≡ x) ops_same xs (all_flattened (IsSame n) ops_names xs h))

  -- an element segment
  pub elem_same : (e : Elem) → AllSame (elem_names (Some e)) → file_elem n e ≡ e
  elem_same e h =
      let p = all_apart (IsSame n) (elem_place_names e.place) (content_names e) h in
      let q = all_apart (IsSame n) (map func_thing e.funcs) (flat_map ops_names e.exprs) p.1 in
      let place : file_place n e.place ≡ e.place = place_same e.place p.0 in
      let funcs : map (file_func n) e.funcs ≡ e.funcs = funcs_same e.funcs q.0 in
      let exprs : map (renumbered_ops n) e.exprs ≡ e.exprs = exprs_same e.exprs q.1 in
      λ i. record { place = place i; ty = e.ty; funcs = funcs i; exprs = exprs i }

  -- the place of a data segment
  segment_place_same : (p : Option (MemoryId × List Op)) → AllSame (segment_place_names p) → file_segment_place n p ≡ p
  segment_place_same (Some p) h = ap (λ k. Some (record { 0 = k }, renumbered_ops n p.1)) h.0 ∙ ap (λ xs. Some (p.0, xs)) (ops_same p.1 h.1)
  segment_place_same None h = refl

  -- a data segment
  pub segment_same : (s : Segment) → AllSame (segment_names (Some s)) → file_segment n s ≡ s
  segment_same s h = ap (λ p. record { place = p; bytes = s.bytes }) (segment_place_same s.place h)
