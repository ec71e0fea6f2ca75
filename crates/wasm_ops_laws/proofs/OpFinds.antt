-- An operator that is read fits what it names.
use Rattle.std.proofs.Common.{◌≡◌, ℕ, ◌-◌, ◌/◌, ◌%◌, ◌^◌, ◌<◌, ◌≤◌, Bool, true, false, ◌||◌, List, length, Option, Some, None, Result, Ok, Err, refl, ap, subst, arith, inl, inr, ltb, eqb}
use Rattle.std.specs.Prelude.{ℤ, pos, negsuc, ⊤}
use Rattle.std.specs.Option.{option_map}
use Rattle.std.specs.List.{AllByRecursion}
use Rattle.std.proofs.lemmas.Bool.{le-leb, ltb-true, ltb-false, eqb-true, eqb-false, ne_eqb, cases_Bool}
use Rattle.std.proofs.lemmas.Int.{ints}
use Rattle.wasm_bytes.specs.declared.counts.Counts.{Counts}
use Rattle.wasm_bytes.specs.Reading.{Input, byte, value_of}
use Rattle.wasm_bytes.specs.Signed.{IsWithin}
use Rattle.wasm_bytes.specs.Reads.{AreBytes, Finds}
use Rattle.wasm_bytes.proofs.ReadFinds.{steps_of, finds_pure, finds_fault, finds_bind, finds_if, finds_weaker, finds_byte, finds_allowed, finds_meant, finds_raw, finds_entries, finds_number32, finds_number64, finds_index, finds_signed32, finds_signed33, finds_signed64}
use Rattle.wasm_types.specs.Types.{val_type_of, is_reference}
use Rattle.wasm_types.specs.declared.types.ValType.{ValType}
use Rattle.wasm_types.specs.Entries.{val_type, ref_type, type_index, func_index, table_index, memory_index, global_index, tag_index, elem_index, data_index}
use Rattle.wasm_ops.specs.Shapes.{shape_within, named_blocks, simd_shape}
use Rattle.wasm_ops.specs.Operands.{asked_by, by_first, short_block_type, numbered_type, block_type_from, block_type, labels, catch_after, catch_clause, names_memory, align_field, mem_arg, bulk_after, bulk, simd_after, simd, br_table, indirect, select, try_table, const128, operands}
use Rattle.wasm_code.specs.Code.{known, op}
use Rattle.wasm_ops_laws.specs.Fits.{IsIndex, FitsBlockType, FitsCatch, FitsMemArg, FitsOp}
use Rattle.wasm_ops.specs.declared.shapes.Shape.{Shape}
use Rattle.wasm_ops.specs.declared.shapes.Shape.TheVariants as shapes
use Rattle.wasm_ops.specs.declared.shapes.SimdShape.{SimdShape}
use Rattle.wasm_ops.specs.declared.shapes.SimdShape.TheVariants as simds
use Rattle.wasm_ops.specs.declared.ops.Op.TheVariants as ops
use Rattle.wasm_ops.specs.declared.ops.BlockType.{BlockType}
use Rattle.wasm_ops.specs.declared.ops.BlockType.TheVariants as block_types
use Rattle.wasm_ops.specs.declared.ops.Catch.TheVariants as catches

-- ---- indices and types

pub type_found : (counts : Counts) → Finds (type_index counts) (λ id. IsIndex counts.types id.0)
unfolding type_index
type_found counts = finds_bind (finds_index counts.types) (λ i h. finds_pure (record { 0 = i }) h)

pub func_found : (counts : Counts) → Finds (func_index counts) (λ id. IsIndex counts.funcs id.0)
unfolding func_index
func_found counts = finds_bind (finds_index counts.funcs) (λ i h. finds_pure (record { 0 = i }) h)

pub table_found : (counts : Counts) → Finds (table_index counts) (λ id. IsIndex counts.tables id.0)
unfolding table_index
table_found counts = finds_bind (finds_index counts.tables) (λ i h. finds_pure (record { 0 = i }) h)

pub memory_found : (counts : Counts) → Finds (memory_index counts) (λ id. IsIndex counts.memories id.0)
unfolding memory_index
memory_found counts = finds_bind (finds_index counts.memories) (λ i h. finds_pure (record { 0 = i }) h)

pub global_found : (counts : Counts) → Finds (global_index counts) (λ id. IsIndex counts.globals id.0)
unfolding global_index
global_found counts = finds_bind (finds_index counts.globals) (λ i h. finds_pure (record { 0 = i }) h)

pub tag_found : (counts : Counts) → Finds (tag_index counts) (λ id. IsIndex counts.tags id.0)
unfolding tag_index
tag_found counts = finds_bind (finds_index counts.tags) (λ i h. finds_pure (record { 0 = i }) h)

pub elem_found : (counts : Counts) → Finds (elem_index counts) (λ id. IsIndex counts.elems id.0)
unfolding elem_index
elem_found counts = finds_bind (finds_index counts.elems) (λ i h. finds_pure (record { 0 = i }) h)

pub data_found : (counts : Counts) → Finds (data_index counts) (λ id. IsIndex counts.segments id.0)
unfolding data_index
data_found counts = finds_bind (finds_index counts.segments) (λ i h. finds_pure (record { 0 = i }) h)

pub val_type_found : Finds val_type (λ _. Unit {0})
unfolding val_type
val_type_found = finds_weaker (finds_meant val_type_of finds_byte) (λ _ _. tt)

pub ref_type_found : Finds ref_type (λ ty. is_reference ty ≡ true)
unfolding ref_type
ref_type_found = finds_weaker (finds_allowed is_reference val_type_found) (λ _ h. h.1)

-- ---- block types

asked_at : {A : Type 0} (P : A → Type 0) (r : Result ℕ ℕ) (f : ℕ → Input → Result (A × Input) ℕ) (s t : Input) (x : A) → ((b : ℕ) → Finds (f b) P) → AreBytes s.bytes → asked_by r f s ≡ Ok (x, t) → P x × AreBytes t.bytes
asked_at P (Ok b) f s t x h bytes is = (h b).found s t x bytes is
asked_at P (Err place) f s t x h bytes is = absurd (grind (arith, is))

finds_first : {A : Type 0} (P : A → Type 0) (f : ℕ → Input → Result (A × Input) ℕ) → ((b : ℕ) → Finds (f b) P) → Finds (by_first f) P
finds_first P f h = record { found = λ s t x bytes is. asked_at P (value_of (byte s)) f s t x h bytes is }

abbrev FitsShort : Counts → Option BlockType → Type 0
FitsShort counts None = ⊤
FitsShort counts (Some ty) = FitsBlockType counts ty

value_fits : (counts : Counts) (ty : Option ValType) → FitsShort counts (option_map block_types.Value ty)
value_fits counts None = tt
value_fits counts (Some ty) = tt

short_fits : (counts : Counts) (b : ℕ) → FitsShort counts (short_block_type b)
short_fits counts b = elim (cases_Bool (eqb b 0x40)) [
  | inl is ↦ rw is tt
  | inr is ↦ rw is (value_fits counts (val_type_of b))
]

numbered_fits : (counts : Counts) (ty : BlockType) (z : ℤ) → IsWithin (2 ^ 32) z → numbered_type counts.types z ≡ Some ty → FitsBlockType counts ty
numbered_fits counts ty (pos n) h is = elim (cases_Bool (ltb n counts.types)) [
  | inl below ↦
      let kept : ◌≡◌ {A = Option BlockType} (Some (block_types.Index (record { 0 = n }))) (Some ty) = rw (le-leb 0 n (omega arith), below) at is in
      let high = h.1 in
      subst (λ o. FitsShort counts o) kept (ltb-true n counts.types below, omega (arith, ints))
  | inr past ↦ let lost : ◌≡◌ {A = Option BlockType} None (Some ty) = rw (le-leb 0 n (omega arith), past) at is in absurd (grind (arith, lost))
]
numbered_fits counts ty (negsuc n) h is = absurd (grind (arith, is))

from_found : (counts : Counts) (short : Option BlockType) → FitsShort counts short → Finds (block_type_from counts short) (FitsBlockType counts)
unfolding block_type_from
from_found counts (Some ty) h = finds_bind finds_byte (λ _ _. finds_pure ty h)
from_found counts None h = finds_weaker (finds_meant (numbered_type counts.types) finds_signed33) (λ ty h. numbered_fits counts ty h.0 h.1 h.2)

pub block_type_found : (counts : Counts) → Finds (block_type counts) (FitsBlockType counts)
unfolding block_type
block_type_found counts = finds_first (FitsBlockType counts) (λ b. block_type_from counts (short_block_type b)) (λ b. from_found counts (short_block_type b) (short_fits counts b))

-- ---- labels and catch clauses

labels_found : (blocks : ℕ) → Finds (labels blocks) (λ xs. (length xs < 2 ^ 32) × AllByRecursion (IsIndex blocks) xs)
unfolding labels
labels_found blocks = finds_bind finds_number32 (λ n few. finds_weaker (finds_entries n (finds_index blocks)) (λ xs h. (omega (arith, h.0, few), h.1)))

pub catch_found : (counts : Counts) (blocks : ℕ) → Finds (catch_clause counts blocks) (FitsCatch counts blocks)
unfolding catch_clause catch_after
catch_found counts blocks = finds_bind (finds_allowed (λ b. ltb b 4) finds_byte) (λ code h. finds_if (ltb code 2)
    (λ is. finds_bind (tag_found counts) (λ tag t. finds_bind (finds_index blocks) (λ label l. finds_pure (catches.Tag code tag label) (ltb-true code 2 is, t, l))))
    (λ is. finds_bind (finds_index blocks) (λ label l. finds_pure (catches.All code label) (ltb-false code 2 is, ltb-true code 4 h.1, l))))

-- ---- memory arguments

-- an alignment field with bit 6, less 64, has no bit 6
loses_bit : (field : ℕ) → names_memory field ≡ true → (64 ≤ field) × (names_memory (field - 64) ≡ false)
loses_bit field is =
    let odd = eqb-true (field / 64 % 2) 1 is in
    (omega (arith, odd), ne_eqb ((field - 64) / 64 % 2) 1 (omega (arith, odd)))

align_found : (counts : Counts) → Finds (align_field counts) (λ field. (field < 2 ^ 32) × ((names_memory field || ltb 0 counts.memories) ≡ true))
unfolding align_field
align_found counts = finds_allowed (λ field. names_memory field || ltb 0 counts.memories) finds_number32

mem_arg_found : (counts : Counts) → Finds (mem_arg counts) (FitsMemArg counts)
unfolding mem_arg
mem_arg_found counts = finds_bind (align_found counts) (λ field a. elim (cases_Bool (names_memory field)) [
  | inl is ↦
      let low = loses_bit field is in
      rw is (finds_bind (memory_found counts) (λ memory m. finds_bind finds_number64 (λ offset o. finds_pure (record { align = field - 64; memory = memory; offset = offset }) (omega (arith, a.0), low.1, m, o))))
  | inr is ↦
      let some : ltb 0 counts.memories ≡ true = rw is at a.1 in
      rw is (finds_bind {P = λ id. IsIndex counts.memories id.0} (finds_pure (record { 0 = 0 }) (ltb-true 0 counts.memories some, omega arith)) (λ memory m. finds_bind finds_number64 (λ offset o. finds_pure (record { align = field; memory = memory; offset = offset }) (a.0, is, m, o))))
])

-- ---- operators behind a prefix

bulk_found : (counts : Counts) (blocks : List Bool) → Finds (bulk counts) (FitsOp counts blocks)
unfolding bulk bulk_after
bulk_found counts blocks = finds_bind (finds_allowed (λ n. ltb n 18) finds_number32) (λ code h.
    finds_if (ltb code 8) (λ is. finds_pure (ops.FcPlain code) (ltb-true code 8 is)) (λ n8.
    finds_if (eqb code 8) (λ _. finds_bind (data_found counts) (λ segment s. finds_bind (memory_found counts) (λ memory m. finds_pure (ops.MemoryInit segment memory) (s, m)))) (λ not8.
    finds_if (eqb code 9) (λ _. finds_bind (data_found counts) (λ segment s. finds_pure (ops.DataDrop segment) s)) (λ not9.
    finds_if (eqb code 10) (λ _. finds_bind (memory_found counts) (λ to t. finds_bind (memory_found counts) (λ from f. finds_pure (ops.MemoryCopy to from) (t, f)))) (λ not10.
    finds_if (eqb code 11) (λ _. finds_bind (memory_found counts) (λ memory m. finds_pure (ops.MemoryFill memory) m)) (λ not11.
    finds_if (eqb code 12) (λ _. finds_bind (elem_found counts) (λ elem e. finds_bind (table_found counts) (λ table t. finds_pure (ops.TableInit elem table) (e, t)))) (λ not12.
    finds_if (eqb code 13) (λ _. finds_bind (elem_found counts) (λ elem e. finds_pure (ops.ElemDrop elem) e)) (λ not13.
    finds_if (eqb code 14) (λ _. finds_bind (table_found counts) (λ to t. finds_bind (table_found counts) (λ from f. finds_pure (ops.TableCopy to from) (t, f)))) (λ not14.
    finds_bind (table_found counts) (λ table t. finds_pure (ops.FcTable code table) (omega (arith, ltb-false code 8 n8, eqb-false code 8 not8, eqb-false code 9 not9, eqb-false code 10 not10, eqb-false code 11 not11, eqb-false code 12 not12, eqb-false code 13 not13, eqb-false code 14 not14), ltb-true code 18 h.1, t)))))))))))

simd_by : (counts : Counts) (blocks : List Bool) (code : ℕ) (shape : SimdShape) → code < 256 → simd_shape code ≡ shape → Finds (simd_after counts code shape) (FitsOp counts blocks)
unfolding simd_after
simd_by counts blocks code simds.Plain lt is = finds_pure (ops.Simd code) (lt, is)
simd_by counts blocks code simds.Mem lt is = finds_bind (mem_arg_found counts) (λ arg a. finds_pure (ops.SimdMem code arg) (lt, is, a))
simd_by counts blocks code simds.MemLane lt is = finds_bind (mem_arg_found counts) (λ arg a. finds_bind finds_byte (λ lane _. finds_pure (ops.SimdMemLane code arg lane) (lt, is, a)))
simd_by counts blocks code simds.Bytes lt is = finds_bind (finds_raw 16) (λ bytes b. finds_pure (ops.SimdBytes code bytes) (lt, is, b.0))
simd_by counts blocks code simds.Lane lt is = finds_bind finds_byte (λ lane _. finds_pure (ops.SimdLane code lane) (lt, is))

simd_found : (counts : Counts) (blocks : List Bool) → Finds (simd counts) (FitsOp counts blocks)
unfolding simd
simd_found counts blocks = finds_bind (finds_allowed (λ n. ltb n 256) finds_number32) (λ code h. simd_by counts blocks code (simd_shape code) (ltb-true code 256 h.1) refl)

-- ---- operators

-- a delegate has a label
names_all : (blocks : List Bool) (code : ℕ) (shape : Shape) → shape_within blocks code ≡ Some shape → (shape ≡ shapes.Label → ⊥) → named_blocks blocks code ≡ length blocks
names_all blocks code shape is other = elim (cases_Bool (eqb code 0x18)) [
  | inr not ↦ rw not refl
  | inl delegate ↦
      let at : shape_within blocks 0x18 ≡ Some shape = subst (λ code. shape_within blocks code ≡ Some shape) (eqb-true code 0x18 delegate) is in
      elim (cases_Bool (ltb (length blocks) 2)) [
        | inl few ↦ let lost : ◌≡◌ {A = Option Shape} None (Some shape) = rw few at at in absurd (grind (arith, lost))
        | inr more ↦ let label : ◌≡◌ {A = Option Shape} (Some shapes.Label) (Some shape) = rw more at at in absurd (grind (arith, label, other))
      ]
]

operands_found : (counts : Counts) (blocks : List Bool) (code : ℕ) (shape : Shape) → shape_within blocks code ≡ Some shape → Finds (operands counts (named_blocks blocks code) code shape) (FitsOp counts blocks)
unfolding operands br_table indirect select try_table const128
operands_found counts blocks code shapes.Plain is = finds_pure (ops.Plain code) is
operands_found counts blocks code shapes.Block is = finds_bind (block_type_found counts) (λ ty t. finds_pure (ops.Block code ty) (is, t))
operands_found counts blocks code shapes.Tag is = finds_bind (tag_found counts) (λ tag t. finds_pure (ops.Tag code tag) (is, t))
operands_found counts blocks code shapes.Label is = finds_bind (finds_index (named_blocks blocks code)) (λ label l. finds_pure (ops.Label code label) (is, l))
operands_found counts blocks code shapes.BrTable is =
    rw (names_all blocks code shapes.BrTable is (λ e. grind (arith, e))) (finds_bind (labels_found (length blocks)) (λ table t. finds_bind (finds_index (length blocks)) (λ label l. finds_pure (ops.BrTable table label) (t.0, t.1, l))))
operands_found counts blocks code shapes.Func is = finds_bind (func_found counts) (λ func f. finds_pure (ops.Func code func) (is, f))
operands_found counts blocks code shapes.Indirect is = finds_bind (type_found counts) (λ ty t. finds_bind (table_found counts) (λ table b. finds_pure (ops.Indirect code ty table) (is, t, b)))
operands_found counts blocks code shapes.Select is = finds_bind finds_number32 (λ n few. finds_bind (finds_entries n val_type_found) (λ types t. finds_pure (ops.Select types) (omega (arith, t.0, few))))
operands_found counts blocks code shapes.TryTable is =
    rw (names_all blocks code shapes.TryTable is (λ e. grind (arith, e))) (finds_bind (block_type_found counts) (λ ty t. finds_bind finds_number32 (λ n few. finds_bind (finds_entries n (catch_found counts (length blocks))) (λ clauses c. finds_pure (ops.TryTable ty clauses) (t, omega (arith, c.0, few), c.1)))))
operands_found counts blocks code shapes.Local is = finds_bind (finds_index counts.locals) (λ local l. finds_pure (ops.Local code local) (is, l))
operands_found counts blocks code shapes.Global is = finds_bind (global_found counts) (λ global g. finds_pure (ops.Global code global) (is, g))
operands_found counts blocks code shapes.Table is = finds_bind (table_found counts) (λ table t. finds_pure (ops.Table code table) (is, t))
operands_found counts blocks code shapes.Mem is = finds_bind (mem_arg_found counts) (λ arg a. finds_pure (ops.Mem code arg) (is, a))
operands_found counts blocks code shapes.Memory is = finds_bind (memory_found counts) (λ memory m. finds_pure (ops.Memory code memory) (is, m))
operands_found counts blocks code shapes.Const32 is = finds_bind finds_signed32 (λ n h. finds_pure (ops.Const32 n) h)
operands_found counts blocks code shapes.Const64 is = finds_bind finds_signed64 (λ n h. finds_pure (ops.Const64 n) h)
operands_found counts blocks code shapes.Raw4 is = finds_bind (finds_raw 4) (λ bytes b. finds_pure (ops.Raw4 bytes) b.0)
operands_found counts blocks code shapes.Raw8 is = finds_bind (finds_raw 8) (λ bytes b. finds_pure (ops.Raw8 bytes) b.0)
operands_found counts blocks code shapes.RefNull is = finds_bind ref_type_found (λ ty t. finds_pure (ops.RefNull ty) t)
operands_found counts blocks code shapes.Bulk is = bulk_found counts blocks
operands_found counts blocks code shapes.Simd is = simd_found counts blocks
operands_found counts blocks code shapes.Const128 is = finds_bind (finds_allowed (λ n. eqb n 12) finds_number32) (λ n h. finds_bind (finds_raw 16) (λ bytes b. let twelve = eqb-true n 12 h.1 in finds_pure (ops.SimdBytes n bytes) (omega (arith, twelve), ap simd_shape twelve, b.0)))

known_found : (counts : Counts) (blocks : List Bool) (place code : ℕ) (shape : Option Shape) → shape_within blocks code ≡ shape → Finds (known counts (named_blocks blocks code) place code shape) (FitsOp counts blocks)
known_found counts blocks place code None is = finds_fault place
known_found counts blocks place code (Some shape) is = operands_found counts blocks code shape is

pub op_found : (counts : Counts) (blocks : List Bool) → Finds (op counts blocks) (FitsOp counts blocks)
unfolding op
op_found counts blocks = record {
  found = λ s t x bytes is.
      let p = steps_of (byte s) (λ code. known counts (named_blocks blocks code) s.place code (shape_within blocks code)) x t is in
      let b = finds_byte.found s p.1 p.0 bytes p.2 in
      (known_found counts blocks s.place p.0 (shape_within blocks p.0) refl).found p.1 t x b.1 p.3;
}
