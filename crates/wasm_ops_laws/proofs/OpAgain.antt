-- An operator that is written is read again.
use Rattle.std.proofs.Common.{◌≡◌, ℕ, zero, suc, ◌+◌, ◌-◌, ◌/◌, ◌%◌, ◌^◌, ◌<◌, ◌≤◌, Bool, true, false, List, [], ◌∷◌, ◌++◌, length, Some, None, Ok, refl, sym, subst, append_assoc, append-nil, arith, inl, inr, ltb}
use Rattle.std.specs.Prelude.{pos, ◌⊎◌}
use Rattle.std.specs.List.{AllByRecursion}
use Rattle.std.proofs.lemmas.Bool.{le-ltb, lt-ltb, le-leb, cases_lt, ne_eqb, eq-eqb, eqb-false}
use Rattle.std.proofs.lemmas.Int.{ints}
use Rattle.wasm_bytes.specs.declared.counts.Counts.{Counts}
use Rattle.wasm_bytes.specs.Reading.{◌>>=◌, pure, byte, meant, value_of}
use Rattle.wasm_bytes.specs.Numbers.{number_bytes}
use Rattle.wasm_bytes.specs.Signed.{signed33, signed_bytes, shortest_signed}
use Rattle.wasm_bytes.specs.Items.{index}
use Rattle.wasm_bytes.specs.Spelling.{list_bytes}
use Rattle.wasm_bytes.specs.Reads.{Reads}
use Rattle.wasm_bytes.proofs.ReadAgain.{reads_pure, reads_bind, reads_end, reads_byte, reads_raw, reads_allowed, reads_meant, reads_entries, reads_list, number32_again, number64_again, signed32_again, signed33_again, signed64_again}
use Rattle.wasm_types.proofs.TypesAgain.{val_type_again}
use Rattle.wasm_ops.proofs.Written.{all_any}
use Rattle.wasm_types.specs.Types.{val_type_of, code_of, is_reference}
use Rattle.wasm_types.specs.declared.types.ValType.{ValType}
use Rattle.wasm_types.specs.declared.types.ValType.TheVariants.{I32, I64, F32, F64, V128, FuncRef, ExternRef, ExnRef}
use Rattle.wasm_types.specs.Entries.{val_type, ref_type, type_index, func_index, table_index, memory_index, global_index, tag_index, elem_index, data_index}
use Rattle.wasm_types.specs.Spelling.{val_type_bytes}
use Rattle.wasm_ops.specs.Spelling.{block_type_bytes, catch_bytes, mem_arg_bytes, op_bytes}
use Rattle.wasm_ops.specs.Operands.{short_block_type, numbered_type, block_type_from, block_type, labels, catch_after, catch_clause, names_memory, align_field, mem_arg, bulk_after, bulk, simd_after, simd, br_table, indirect, select, try_table, operands}
use Rattle.wasm_code.specs.Code.{op}
use Rattle.wasm_ops.specs.Shapes.{shape_within, named_blocks, simd_shape}
use Rattle.wasm_ops.specs.declared.shapes.Shape.{Shape}
use Rattle.wasm_ops.specs.declared.shapes.Shape.TheVariants as shapes
use Rattle.wasm_ops.specs.declared.shapes.SimdShape.{SimdShape}
use Rattle.wasm_ops.specs.declared.shapes.SimdShape.TheVariants as simds
use Rattle.wasm_ops.specs.declared.ops.Op.{Op}
use Rattle.wasm_ops.specs.declared.ops.Op.TheVariants as ops
use Rattle.wasm_ops_laws.specs.Fits.{IsIndex, FitsBlockType, FitsCatch, FitsMemArg, FitsOp}
use Rattle.wasm_types.specs.declared.ids.TypeId.{TypeId}
use Rattle.wasm_types.specs.declared.ids.FuncId.{FuncId}
use Rattle.wasm_types.specs.declared.ids.TableId.{TableId}
use Rattle.wasm_types.specs.declared.ids.MemoryId.{MemoryId}
use Rattle.wasm_types.specs.declared.ids.GlobalId.{GlobalId}
use Rattle.wasm_types.specs.declared.ids.TagId.{TagId}
use Rattle.wasm_types.specs.declared.ids.ElemId.{ElemId}
use Rattle.wasm_types.specs.declared.ids.DataId.{DataId}
use Rattle.wasm_ops.specs.declared.ops.BlockType.{BlockType}
use Rattle.wasm_ops.specs.declared.ops.BlockType.TheVariants as block_types
use Rattle.wasm_ops.specs.declared.ops.Catch.{Catch}
use Rattle.wasm_ops.specs.declared.ops.Catch.TheVariants as catches
use Rattle.wasm_ops.specs.declared.ops.MemArg.{MemArg}

-- ---- indices

named_again : (n i : ℕ) → IsIndex n i → Reads (index n) (number_bytes i) i
unfolding index
named_again n i h = reads_allowed (λ i. ltb i n) (number32_again i h.1) (lt-ltb i n h.0)

pub type_again : (counts : Counts) (id : TypeId) → IsIndex counts.types id.0 → Reads (type_index counts) (number_bytes id.0) id
unfolding type_index
type_again counts id h = reads_end (λ i. record { 0 = i }) (named_again counts.types id.0 h)

pub func_again : (counts : Counts) (id : FuncId) → IsIndex counts.funcs id.0 → Reads (func_index counts) (number_bytes id.0) id
unfolding func_index
func_again counts id h = reads_end (λ i. record { 0 = i }) (named_again counts.funcs id.0 h)

pub table_again : (counts : Counts) (id : TableId) → IsIndex counts.tables id.0 → Reads (table_index counts) (number_bytes id.0) id
unfolding table_index
table_again counts id h = reads_end (λ i. record { 0 = i }) (named_again counts.tables id.0 h)

pub memory_again : (counts : Counts) (id : MemoryId) → IsIndex counts.memories id.0 → Reads (memory_index counts) (number_bytes id.0) id
unfolding memory_index
memory_again counts id h = reads_end (λ i. record { 0 = i }) (named_again counts.memories id.0 h)

pub global_again : (counts : Counts) (id : GlobalId) → IsIndex counts.globals id.0 → Reads (global_index counts) (number_bytes id.0) id
unfolding global_index
global_again counts id h = reads_end (λ i. record { 0 = i }) (named_again counts.globals id.0 h)

pub tag_again : (counts : Counts) (id : TagId) → IsIndex counts.tags id.0 → Reads (tag_index counts) (number_bytes id.0) id
unfolding tag_index
tag_again counts id h = reads_end (λ i. record { 0 = i }) (named_again counts.tags id.0 h)

pub elem_again : (counts : Counts) (id : ElemId) → IsIndex counts.elems id.0 → Reads (elem_index counts) (number_bytes id.0) id
unfolding elem_index
elem_again counts id h = reads_end (λ i. record { 0 = i }) (named_again counts.elems id.0 h)

pub data_again : (counts : Counts) (id : DataId) → IsIndex counts.segments id.0 → Reads (data_index counts) (number_bytes id.0) id
unfolding data_index
data_again counts id h = reads_end (λ i. record { 0 = i }) (named_again counts.segments id.0 h)

-- ---- types

pub ref_type_again : (ty : ValType) → is_reference ty ≡ true → Reads ref_type (val_type_bytes ty) ty
unfolding ref_type
ref_type_again ty is = reads_allowed is_reference (val_type_again ty) is

-- ---- catch clauses

pub catch_again : (counts : Counts) (blocks : ℕ) (c : Catch) → FitsCatch counts blocks c → Reads (catch_clause counts blocks) (catch_bytes c) c
unfolding catch_clause catch_after catch_bytes
catch_again counts blocks (catches.Tag code tag label) h =
    let small : ltb code 2 ≡ true = lt-ltb code 2 h.0 in
    let below : ltb code 4 ≡ true = lt-ltb code 4 (omega (arith, h.0)) in
    record {
      again = λ place rest.
          let p = (reads_bind (λ (tag : TagId). index blocks >>= (λ label. pure (catches.Tag code tag label))) (tag_again counts tag h.1) (reads_end (λ label. catches.Tag code tag label) (named_again blocks label h.2))).again (place + 1) rest in
          (p.0, rw (below, small) p.1);
    }
catch_again counts blocks (catches.All code label) h =
    let big : ltb code 2 ≡ false = le-ltb code 2 h.0 in
    let below : ltb code 4 ≡ true = lt-ltb code 4 h.1 in
    record {
      again = λ place rest.
          let p = (reads_end (λ label. catches.All code label) (named_again blocks label h.2)).again (place + 1) rest in
          (p.0, rw (below, big) p.1);
    }

-- ---- block types

not_short : (b : ℕ) → (b < 64) ⊎ (128 ≤ b) → short_block_type b ≡ None
not_short b (inl h) = rw (ne_eqb b 0x40 (omega (arith, h)), ne_eqb b 0x7F (omega (arith, h)), ne_eqb b 0x7E (omega (arith, h)), ne_eqb b 0x7D (omega (arith, h)), ne_eqb b 0x7C (omega (arith, h)), ne_eqb b 0x7B (omega (arith, h)), ne_eqb b 0x70 (omega (arith, h)), ne_eqb b 0x6F (omega (arith, h)), ne_eqb b 0x69 (omega (arith, h))) refl
not_short b (inr h) = rw (ne_eqb b 0x40 (omega (arith, h)), ne_eqb b 0x7F (omega (arith, h)), ne_eqb b 0x7E (omega (arith, h)), ne_eqb b 0x7D (omega (arith, h)), ne_eqb b 0x7C (omega (arith, h)), ne_eqb b 0x7B (omega (arith, h)), ne_eqb b 0x70 (omega (arith, h)), ne_eqb b 0x6F (omega (arith, h)), ne_eqb b 0x69 (omega (arith, h))) refl

-- the first byte of an index isn't a block type by itself
index_first : (n : ℕ) → (b : ℕ) × (bytes : List ℕ) × (signed_bytes (pos n) ≡ b ∷ bytes) × (short_block_type b ≡ None)
unfolding signed_bytes shortest_signed
index_first n = elim (cases_lt n 64) [
  | inl small ↦ (n % 128, [], rw (lt-ltb n 64 small) refl, not_short (n % 128) (inl (omega arith)))
  | inr big ↦ (n % 128 + 128, shortest_signed 8 (pos (n / 128)), rw (le-ltb n 64 big) refl, not_short (n % 128 + 128) (inr (omega arith)))
]

index_means : (count n : ℕ) → n < count → numbered_type count (pos n) ≡ Some (block_types.Index (record { 0 = n }))
index_means count n lt = rw (le-leb 0 n (omega arith), lt-ltb n count lt) refl

type_numbered : (counts : Counts) (n : ℕ) → IsIndex counts.types n → Reads (meant (numbered_type counts.types) signed33) (signed_bytes (pos n)) (block_types.Index (record { 0 = n }))
type_numbered counts n h = reads_meant (numbered_type counts.types) (signed33_again (pos n) (omega (arith, ints), omega (arith, ints, h.1))) (index_means counts.types n h.0)

index_type_again : (counts : Counts) (n : ℕ) → IsIndex counts.types n → Reads (block_type counts) (signed_bytes (pos n)) (block_types.Index (record { 0 = n }))
unfolding block_type block_type_from
index_type_again counts n h =
    let first = index_first n in
    record {
      again = λ place rest.
          let p = (type_numbered counts n h).again place rest in
          let peeked : value_of (byte (record { place = place; bytes = signed_bytes (pos n) ++ rest })) ≡ Ok first.0 = rw first.2 refl in
          (p.0, rw (peeked, first.3) p.1);
    }

value_type_again : (counts : Counts) (ty : ValType) → Reads (block_type counts) (code_of ty ∷ []) (block_types.Value ty)
unfolding block_type block_type_from
value_type_again counts I32 = record { again = λ place rest. (place + 1, refl) }
value_type_again counts I64 = record { again = λ place rest. (place + 1, refl) }
value_type_again counts F32 = record { again = λ place rest. (place + 1, refl) }
value_type_again counts F64 = record { again = λ place rest. (place + 1, refl) }
value_type_again counts V128 = record { again = λ place rest. (place + 1, refl) }
value_type_again counts FuncRef = record { again = λ place rest. (place + 1, refl) }
value_type_again counts ExternRef = record { again = λ place rest. (place + 1, refl) }
value_type_again counts ExnRef = record { again = λ place rest. (place + 1, refl) }

no_type_again : (counts : Counts) → Reads (block_type counts) (0x40 ∷ []) block_types.Empty
unfolding block_type block_type_from
no_type_again counts = record { again = λ place rest. (place + 1, refl) }

pub block_type_again : (counts : Counts) (ty : BlockType) → FitsBlockType counts ty → Reads (block_type counts) (block_type_bytes ty) ty
unfolding block_type_bytes
block_type_again counts block_types.Empty h = no_type_again counts
block_type_again counts (block_types.Value ty) h = value_type_again counts ty
block_type_again counts (block_types.Index ty) h = index_type_again counts ty.0 h

-- ---- memory arguments

-- an alignment field without bit 6, with 64 more, has bit 6
gains_bit : (align : ℕ) → names_memory align ≡ false → align < 2 ^ 32 → (names_memory (align + 64) ≡ true) × (align + 64 < 2 ^ 32)
gains_bit align is fits =
    let even = eqb-false (align / 64 % 2) 1 is in
    (eq-eqb ((align + 64) / 64 % 2) 1 (omega (arith, even)), omega (arith, even))

arg_in_first : (counts : Counts) (align offset : ℕ) → align < 2 ^ 32 → names_memory align ≡ false → 0 < counts.memories → offset < 2 ^ 64 → Reads (mem_arg counts) (number_bytes align ++ number_bytes offset) (record { align = align; memory = record { 0 = 0 }; offset = offset })
unfolding mem_arg align_field
arg_in_first counts align offset fits is some wide = record {
  again = λ place rest.
      let p = (number32_again align fits).again place (number_bytes offset ++ rest) in
      let q = (number64_again offset wide).again p.0 rest in
      (q.0, rw (append_assoc (number_bytes align) (number_bytes offset) rest, p.1, is, lt-ltb 0 counts.memories some, is, q.1) refl);
}

arg_in_other : (counts : Counts) (align memory offset : ℕ) → align < 2 ^ 32 → names_memory align ≡ false → IsIndex counts.memories memory → offset < 2 ^ 64 → Reads (mem_arg counts) ((number_bytes (align + 64) ++ number_bytes memory) ++ number_bytes offset) (record { align = align; memory = record { 0 = memory }; offset = offset })
unfolding mem_arg align_field
arg_in_other counts align memory offset fits is named wide =
    let field = gains_bit align is fits in
    let back : align + 64 - 64 ≡ align = omega arith in
    record {
      again = λ place rest.
          let p = (number32_again (align + 64) field.1).again place (number_bytes memory ++ (number_bytes offset ++ rest)) in
          let m = (memory_again counts (record { 0 = memory }) named).again p.0 (number_bytes offset ++ rest) in
          let q = (number64_again offset wide).again m.0 rest in
          (q.0, rw (append_assoc (number_bytes (align + 64) ++ number_bytes memory) (number_bytes offset) rest, append_assoc (number_bytes (align + 64)) (number_bytes memory) (number_bytes offset ++ rest), p.1, field.0, field.0, m.1, q.1, back) refl);
    }

arg_at : (counts : Counts) (align memory offset : ℕ) → align < 2 ^ 32 → names_memory align ≡ false → IsIndex counts.memories memory → offset < 2 ^ 64 → Reads (mem_arg counts) (mem_arg_bytes (record { align = align; memory = record { 0 = memory }; offset = offset })) (record { align = align; memory = record { 0 = memory }; offset = offset })
unfolding mem_arg_bytes
arg_at counts align zero offset fits is named wide = arg_in_first counts align offset fits is named.0 wide
arg_at counts align (suc memory) offset fits is named wide = rw (ne_eqb (suc memory) 0 (omega arith)) (arg_in_other counts align (suc memory) offset fits is named wide)

pub mem_arg_again : (counts : Counts) (arg : MemArg) → FitsMemArg counts arg → Reads (mem_arg counts) (mem_arg_bytes arg) arg
mem_arg_again counts arg h = arg_at counts arg.align arg.memory.0 arg.offset h.0 h.1 h.2 h.3

-- ---- operators

pub op_with : (counts : Counts) (blocks : List Bool) (code : ℕ) (shape : Shape) (bytes : List ℕ) (x : Op) → shape_within blocks code ≡ Some shape → Reads (operands counts (named_blocks blocks code) code shape) bytes x → Reads (op counts blocks) (code ∷ bytes) x
unfolding op
op_with counts blocks code shape bytes x is h = record { again = λ place rest. let p = h.again (place + 1) rest in (p.0, rw is p.1) }

bulk_with : (counts : Counts) (blocks : List Bool) (code : ℕ) (bytes : List ℕ) (x : Op) → code < 18 → Reads (bulk_after counts code) bytes x → Reads (op counts blocks) (0xFC ∷ (number_bytes code ++ bytes)) x
unfolding operands bulk
bulk_with counts blocks code bytes x lt h = op_with counts blocks 0xFC shapes.Bulk (number_bytes code ++ bytes) x refl
    (reads_bind (bulk_after counts) (reads_allowed (λ n. ltb n 18) (number32_again code (omega arith)) (lt-ltb code 18 lt)) h)

simd_with : (counts : Counts) (blocks : List Bool) (code : ℕ) (shape : SimdShape) (bytes : List ℕ) (x : Op) → code < 256 → simd_shape code ≡ shape → Reads (simd_after counts code shape) bytes x → Reads (op counts blocks) (0xFD ∷ (number_bytes code ++ bytes)) x
unfolding operands simd
simd_with counts blocks code shape bytes x lt is h = op_with counts blocks 0xFD shapes.Simd (number_bytes code ++ bytes) x refl
    (reads_bind (λ code. simd_after counts code (simd_shape code)) (reads_allowed (λ n. ltb n 256) (number32_again code (omega arith)) (lt-ltb code 256 lt)) (subst (λ shape. Reads (simd_after counts code shape) bytes x) (sym is) h))

labels_again : (blocks : ℕ) (xs : List ℕ) → length xs < 2 ^ 32 → AllByRecursion (IsIndex blocks) xs → Reads (labels blocks) (list_bytes number_bytes xs) xs
unfolding labels
labels_again blocks xs few all = reads_list (IsIndex blocks) (named_again blocks) xs few all

last_fc : (counts : Counts) (code : ℕ) (table : TableId) → 15 ≤ code → IsIndex counts.tables table.0 → Reads (bulk_after counts code) (number_bytes table.0) (ops.FcTable code table)
unfolding bulk_after
last_fc counts code table le h = rw (le-ltb code 8 (omega (arith, le)), ne_eqb code 8 (omega (arith, le)), ne_eqb code 9 (omega (arith, le)), ne_eqb code 10 (omega (arith, le)), ne_eqb code 11 (omega (arith, le)), ne_eqb code 12 (omega (arith, le)), ne_eqb code 13 (omega (arith, le)), ne_eqb code 14 (omega (arith, le)))
    (reads_end (λ table. ops.FcTable code table) (table_again counts table h))

plain_fc : (counts : Counts) (code : ℕ) → code < 8 → Reads (bulk_after counts code) [] (ops.FcPlain code)
unfolding bulk_after
plain_fc counts code lt = rw (lt-ltb code 8 lt) (reads_pure (ops.FcPlain code))

pub op_again : (counts : Counts) (blocks : List Bool) (x : Op) → FitsOp counts blocks x → Reads (op counts blocks) (op_bytes x) x
unfolding op_bytes operands bulk_after simd_after br_table indirect select try_table list_bytes
op_again counts blocks (ops.Plain code) h = op_with counts blocks code shapes.Plain [] _ h (reads_pure (ops.Plain code))
op_again counts blocks (ops.Block code ty) h = op_with counts blocks code shapes.Block _ _ h.0 (reads_end (λ ty. ops.Block code ty) (block_type_again counts ty h.1))
op_again counts blocks (ops.Tag code tag) h = op_with counts blocks code shapes.Tag _ _ h.0 (reads_end (λ tag. ops.Tag code tag) (tag_again counts tag h.1))
op_again counts blocks (ops.Label code label) h = op_with counts blocks code shapes.Label _ _ h.0 (reads_end (λ label. ops.Label code label) (named_again (named_blocks blocks code) label h.1))
op_again counts blocks (ops.BrTable table label) h = op_with counts blocks 0x0E shapes.BrTable _ _ refl (reads_bind _ (labels_again (length blocks) table h.0 h.1) (reads_end (λ label. ops.BrTable table label) (named_again (length blocks) label h.2)))
op_again counts blocks (ops.Func code func) h = op_with counts blocks code shapes.Func _ _ h.0 (reads_end (λ func. ops.Func code func) (func_again counts func h.1))
op_again counts blocks (ops.Indirect code ty table) h = op_with counts blocks code shapes.Indirect _ _ h.0 (reads_bind _ (type_again counts ty h.1) (reads_end (λ table. ops.Indirect code ty table) (table_again counts table h.2)))
op_again counts blocks (ops.Select types) h = op_with counts blocks 0x1C shapes.Select _ _ refl (reads_bind _ (number32_again (length types) h) (reads_end (λ types. ops.Select types) (reads_entries (λ _. Unit {0}) (λ ty _. val_type_again ty) types (all_any types))))
op_again counts blocks (ops.TryTable ty clauses) h = op_with counts blocks 0x1F shapes.TryTable _ _ refl (reads_bind _ (block_type_again counts ty h.0) (reads_bind _ (number32_again (length clauses) h.1) (reads_end (λ clauses. ops.TryTable ty clauses) (reads_entries (FitsCatch counts (length blocks)) (catch_again counts (length blocks)) clauses h.2))))
op_again counts blocks (ops.Local code local) h = op_with counts blocks code shapes.Local _ _ h.0 (reads_end (λ local. ops.Local code local) (named_again counts.locals local h.1))
op_again counts blocks (ops.Global code global) h = op_with counts blocks code shapes.Global _ _ h.0 (reads_end (λ global. ops.Global code global) (global_again counts global h.1))
op_again counts blocks (ops.Table code table) h = op_with counts blocks code shapes.Table _ _ h.0 (reads_end (λ table. ops.Table code table) (table_again counts table h.1))
op_again counts blocks (ops.Mem code arg) h = op_with counts blocks code shapes.Mem _ _ h.0 (reads_end (λ arg. ops.Mem code arg) (mem_arg_again counts arg h.1))
op_again counts blocks (ops.Memory code memory) h = op_with counts blocks code shapes.Memory _ _ h.0 (reads_end (λ memory. ops.Memory code memory) (memory_again counts memory h.1))
op_again counts blocks (ops.Const32 n) h = op_with counts blocks 0x41 shapes.Const32 _ _ refl (reads_end (λ n. ops.Const32 n) (signed32_again n h))
op_again counts blocks (ops.Const64 n) h = op_with counts blocks 0x42 shapes.Const64 _ _ refl (reads_end (λ n. ops.Const64 n) (signed64_again n h))
op_again counts blocks (ops.Raw4 bytes) h = op_with counts blocks 0x43 shapes.Raw4 _ _ refl (reads_end (λ bytes. ops.Raw4 bytes) (reads_raw 4 bytes h))
op_again counts blocks (ops.Raw8 bytes) h = op_with counts blocks 0x44 shapes.Raw8 _ _ refl (reads_end (λ bytes. ops.Raw8 bytes) (reads_raw 8 bytes h))
op_again counts blocks (ops.RefNull ty) h = op_with counts blocks 0xD0 shapes.RefNull _ _ refl (reads_end (λ ty. ops.RefNull ty) (ref_type_again ty h))
op_again counts blocks (ops.FcPlain code) h = subst (λ bytes. Reads (op counts blocks) (0xFC ∷ bytes) (ops.FcPlain code)) (append-nil (number_bytes code)) (bulk_with counts blocks code [] _ (omega (arith, h)) (plain_fc counts code h))
op_again counts blocks (ops.MemoryInit segment memory) h = bulk_with counts blocks 8 _ _ (omega arith) (reads_bind _ (data_again counts segment h.0) (reads_end (λ memory. ops.MemoryInit segment memory) (memory_again counts memory h.1)))
op_again counts blocks (ops.DataDrop segment) h = bulk_with counts blocks 9 _ _ (omega arith) (reads_end (λ segment. ops.DataDrop segment) (data_again counts segment h))
op_again counts blocks (ops.MemoryCopy to from) h = bulk_with counts blocks 10 _ _ (omega arith) (reads_bind _ (memory_again counts to h.0) (reads_end (λ from. ops.MemoryCopy to from) (memory_again counts from h.1)))
op_again counts blocks (ops.MemoryFill memory) h = bulk_with counts blocks 11 _ _ (omega arith) (reads_end (λ memory. ops.MemoryFill memory) (memory_again counts memory h))
op_again counts blocks (ops.TableInit elem table) h = bulk_with counts blocks 12 _ _ (omega arith) (reads_bind _ (elem_again counts elem h.0) (reads_end (λ table. ops.TableInit elem table) (table_again counts table h.1)))
op_again counts blocks (ops.ElemDrop elem) h = bulk_with counts blocks 13 _ _ (omega arith) (reads_end (λ elem. ops.ElemDrop elem) (elem_again counts elem h))
op_again counts blocks (ops.TableCopy to from) h = bulk_with counts blocks 14 _ _ (omega arith) (reads_bind _ (table_again counts to h.0) (reads_end (λ from. ops.TableCopy to from) (table_again counts from h.1)))
op_again counts blocks (ops.FcTable code table) h = bulk_with counts blocks code _ _ h.1 (last_fc counts code table h.0 h.2)
op_again counts blocks (ops.Simd code) h = subst (λ bytes. Reads (op counts blocks) (0xFD ∷ bytes) (ops.Simd code)) (append-nil (number_bytes code)) (simd_with counts blocks code simds.Plain [] _ h.0 h.1 (reads_pure (ops.Simd code)))
op_again counts blocks (ops.SimdMem code arg) h = simd_with counts blocks code simds.Mem _ _ h.0 h.1 (reads_end (λ arg. ops.SimdMem code arg) (mem_arg_again counts arg h.2))
op_again counts blocks (ops.SimdMemLane code arg lane) h = simd_with counts blocks code simds.MemLane _ _ h.0 h.1 (reads_bind _ (mem_arg_again counts arg h.2) (reads_end (λ lane. ops.SimdMemLane code arg lane) (reads_byte lane)))
op_again counts blocks (ops.SimdBytes code bytes) h = simd_with counts blocks code simds.Bytes _ _ h.0 h.1 (reads_end (λ bytes. ops.SimdBytes code bytes) (reads_raw 16 bytes h.2))
op_again counts blocks (ops.SimdLane code lane) h = simd_with counts blocks code simds.Lane _ _ h.0 h.1 (reads_end (λ lane. ops.SimdLane code lane) (reads_byte lane))
