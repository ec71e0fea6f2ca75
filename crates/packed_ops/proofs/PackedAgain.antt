-- What is kept packed is read as what it was.
use Rattle.std.proofs.Common.{◌≡◌, ℕ, zero, suc, ◌+◌, ◌<◌, ◌≤◌, List, [], ◌∷◌, ◌++◌, length, take, drop, get_or, true, false, inl, inr, Some, Result, Ok, refl, sym, ap, subst, append-nil, ◌∙◌, arith}
use Rattle.std.specs.List.{flat_map, AllByRecursion}
use Rattle.std.proofs.lemmas.Bool.{lt-ltb, cases_Bool}
use Rattle.std.proofs.lemmas.List.{length-append, take_at, drop_at}
use Rattle.std.proofs.lemmas.Grind.{flat_map-append}
use Rattle.wasm_bytes.proofs.ReadFinds.{same_value, same_rest}
use Rattle.wasm_bytes.specs.Reading.{Input, byte}
use Rattle.wasm_bytes.specs.Numbers.{number32}
use Rattle.wasm_bytes.specs.Spelling.{list_bytes}
use Rattle.wasm_bytes.specs.Reads.{Reads}
use Rattle.wasm_bytes.proofs.ReadAgain.{reads_pure, reads_bind, reads_end, reads_byte, reads_raw, reads_meant, reads_list, number32_again, number64_again, signed32_again, signed64_again}
use Rattle.wasm_ops.proofs.Written.{all_any, all_more}
use Rattle.wasm_ops.specs.Spelling.{coded}
use Rattle.wasm_types.proofs.TypesAgain.{val_type_again}
use Rattle.packed_ops.proofs.Spelled.{by_spelled}
use Rattle.packed_ops.specs.declared.kinds.Kind.{Kind}
use Rattle.packed_ops.specs.declared.kinds.Kind.TheVariants as kinds
use Rattle.packed_ops.specs.declared.kinds.BlockKind.{BlockKind}
use Rattle.packed_ops.specs.declared.kinds.BlockKind.TheVariants as block_kinds
use Rattle.wasm_ops.specs.declared.ops.Op.{Op}
use Rattle.wasm_ops.specs.declared.ops.Op.TheVariants as ops
use Rattle.wasm_ops.specs.declared.ops.BlockType.{BlockType}
use Rattle.wasm_ops.specs.declared.ops.BlockType.TheVariants as block_types
use Rattle.wasm_ops.specs.declared.ops.Catch.{Catch}
use Rattle.wasm_ops.specs.declared.ops.Catch.TheVariants as catches
use Rattle.wasm_ops.specs.declared.ops.MemArg.{MemArg}
use Rattle.packed_ops.specs.Packed.{packed_block, packed_catch, packed_arg, packed_two, number_of, spelled_bytes, behind_length, held_bytes, one_byte, two_bytes, is_spelled, begins_spelled, IsNextSpelled, packed_bytes, both, block_kind_of, block_as, unpacked_block, unpacked_catch_as, unpacked_catch, unpacked_arg, unpacked_list, kind_of, held_as, unpacked_op, unpacked_within, ops_of, FitsU32, HasWidthsBlock, HasWidthsCatch, HasWidthsArg, HasWidths, IsPacked}

-- ---- parts

both_again : {A B : Type 0} {r : Input → Result (A × Input) ℕ} {q : Input → Result (B × Input) ℕ} {a b : List ℕ} {x : A} {y : B} → Reads r a x → Reads q b y → Reads (both r q) (a ++ b) (x, y)
both_again {q} {x} {y} first second = reads_bind _ first (reads_end (λ y. (x, y)) second)

-- what stands behind the number of a variant
block_with : (kind : BlockKind) (number : ℕ) (bytes : List ℕ) (ty : BlockType) → block_kind_of number ≡ Some kind → Reads (block_as kind) bytes ty → Reads unpacked_block (number ∷ bytes) ty
unfolding unpacked_block
block_with kind number bytes ty is h = reads_bind block_as (reads_meant block_kind_of (reads_byte number) is) h

block_again : (ty : BlockType) → HasWidthsBlock ty → Reads unpacked_block (packed_block ty) ty
unfolding packed_block block_as
block_again block_types.Empty h = block_with block_kinds.Empty 0 [] _ refl (reads_pure block_types.Empty)
block_again (block_types.Value ty) h = block_with block_kinds.Value 1 _ _ refl (reads_end (λ ty. block_types.Value ty) (val_type_again ty))
block_again (block_types.Index ty) h = block_with block_kinds.Index 2 _ _ refl (reads_end (λ n. block_types.Index (record { 0 = n })) (number32_again ty.0 h))

catch_again : (clause : Catch) → HasWidthsCatch clause → Reads unpacked_catch (packed_catch clause) clause
unfolding packed_catch unpacked_catch unpacked_catch_as
catch_again (catches.Tag code tag label) h = reads_bind unpacked_catch_as (reads_byte 0) (reads_bind _ (reads_byte code) (reads_end (λ p. catches.Tag code (record { 0 = p.0 }) p.1) (both_again (number32_again tag.0 h.0) (number32_again label h.1))))
catch_again (catches.All code label) h = reads_bind unpacked_catch_as (reads_byte 1) (reads_bind _ (reads_byte code) (reads_end (λ label. catches.All code label) (number32_again label h)))

arg_again : (arg : MemArg) → HasWidthsArg arg → Reads unpacked_arg (packed_arg arg) arg
unfolding packed_arg unpacked_arg
arg_again arg h = reads_bind _ (number32_again arg.align h.0) (reads_bind _ (number32_again arg.memory.0 h.1) (reads_end (λ offset. record { align = arg.align; memory = arg.memory; offset = offset }) (number64_again arg.offset h.2)))

list_again : {A : Type 0} (P : A → Type 0) {item : Input → Result (A × Input) ℕ} {spell : A → List ℕ} → ((x : A) → P x → Reads item (spell x) x) → (xs : List A) → FitsU32 (length xs) → AllByRecursion P xs → Reads (unpacked_list item) (list_bytes spell xs) xs
unfolding unpacked_list
list_again P again xs few all = reads_list P again xs few all

coded_again : (code n : ℕ) → FitsU32 n → Reads (both byte number32) (coded code n) (code, n)
coded_again code n h = both_again (reads_byte code) (number32_again n h)

two_again : (n m : ℕ) → FitsU32 n → FitsU32 m → Reads (both number32 number32) (packed_two n m) (n, m)
two_again n m h k = both_again (number32_again n h) (number32_again m k)

one_again : (b : ℕ) → Reads one_byte (b ∷ []) tt
one_again b = record { again = λ place rest. (place + 1, refl) }

two_bytes_again : (b c : ℕ) → Reads two_bytes (b ∷ c ∷ []) tt
two_bytes_again b c = record { again = λ place rest. (place + 1 + 1, refl) }

-- ---- operators

op_with : (kind : Kind) (x : Op) → kind_of (number_of x) ≡ Some kind → Reads (held_as kind) (held_bytes x) x → Reads unpacked_op (packed_bytes x) x
unfolding unpacked_op
op_with kind x is h = reads_bind held_as (reads_meant kind_of (reads_byte (number_of x)) is) h

pub packed_again : (x : Op) → HasWidths x → Reads unpacked_op (packed_bytes x) x
unfolding held_bytes spelled_bytes held_as
packed_again (ops.Plain code) h = op_with kinds.Plain _ refl (reads_bind _ (one_again 1) (reads_end (λ code. ops.Plain code) (reads_byte code)))
packed_again (ops.Block code ty) h = op_with kinds.Block _ refl (reads_end (λ p. ops.Block p.0 p.1) (both_again (reads_byte code) (block_again ty h)))
packed_again (ops.Tag code tag) h = op_with kinds.Tag _ refl (reads_end (λ p. ops.Tag p.0 (record { 0 = p.1 })) (coded_again code tag.0 h))
packed_again (ops.Label code label) h = op_with kinds.Label _ refl (reads_bind _ (one_again _) (reads_end (λ p. ops.Label p.0 p.1) (coded_again code label h)))
packed_again (ops.BrTable labels label) h = op_with kinds.BrTable _ refl (reads_end (λ p. ops.BrTable p.0 p.1) (both_again (list_again FitsU32 number32_again labels h.0 h.1) (number32_again label h.2)))
packed_again (ops.Func code func) h = op_with kinds.Func _ refl (reads_end (λ p. ops.Func p.0 (record { 0 = p.1 })) (coded_again code func.0 h))
packed_again (ops.Indirect code ty table) h = op_with kinds.Indirect _ refl (reads_end (λ p. ops.Indirect p.0 (record { 0 = p.1.0 }) (record { 0 = p.1.1 })) (both_again (reads_byte code) (two_again ty.0 table.0 h.0 h.1)))
packed_again (ops.Select types) h = op_with kinds.Select _ refl (reads_end (λ types. ops.Select types) (list_again (λ _. Unit {0}) (λ ty _. val_type_again ty) types h (all_any types)))
packed_again (ops.TryTable ty clauses) h = op_with kinds.TryTable _ refl (reads_end (λ p. ops.TryTable p.0 p.1) (both_again (block_again ty h.0) (list_again HasWidthsCatch catch_again clauses h.1 h.2)))
packed_again (ops.Local code local) h = op_with kinds.Local _ refl (reads_bind _ (one_again _) (reads_end (λ p. ops.Local p.0 p.1) (coded_again code local h)))
packed_again (ops.Global code global) h = op_with kinds.Global _ refl (reads_end (λ p. ops.Global p.0 (record { 0 = p.1 })) (coded_again code global.0 h))
packed_again (ops.Table code table) h = op_with kinds.Table _ refl (reads_end (λ p. ops.Table p.0 (record { 0 = p.1 })) (coded_again code table.0 h))
packed_again (ops.Mem code arg) h = op_with kinds.Mem _ refl (reads_end (λ p. ops.Mem p.0 p.1) (both_again (reads_byte code) (arg_again arg h)))
packed_again (ops.Memory code memory) h = op_with kinds.Memory _ refl (reads_end (λ p. ops.Memory p.0 (record { 0 = p.1 })) (coded_again code memory.0 h))
packed_again (ops.Const32 n) h = op_with kinds.Const32 _ refl (reads_bind _ (two_bytes_again _ 0x41) (reads_end (λ n. ops.Const32 n) (signed32_again n h)))
packed_again (ops.Const64 n) h = op_with kinds.Const64 _ refl (reads_bind _ (two_bytes_again _ 0x42) (reads_end (λ n. ops.Const64 n) (signed64_again n h)))
packed_again (ops.Raw4 bytes) h = op_with kinds.Raw4 _ refl (reads_bind _ (two_bytes_again _ 0x43) (reads_end (λ bytes. ops.Raw4 bytes) (reads_raw 4 bytes h)))
packed_again (ops.Raw8 bytes) h = op_with kinds.Raw8 _ refl (reads_bind _ (two_bytes_again _ 0x44) (reads_end (λ bytes. ops.Raw8 bytes) (reads_raw 8 bytes h)))
packed_again (ops.RefNull ty) h = op_with kinds.RefNull _ refl (reads_bind _ (two_bytes_again _ 0xD0) (reads_end (λ ty. ops.RefNull ty) (val_type_again ty)))
packed_again (ops.FcPlain code) h = op_with kinds.FcPlain _ refl (reads_bind _ (two_bytes_again _ 0xFC) (reads_end (λ code. ops.FcPlain code) (number32_again code h)))
packed_again (ops.MemoryInit segment memory) h = op_with kinds.MemoryInit _ refl (reads_end (λ p. ops.MemoryInit (record { 0 = p.0 }) (record { 0 = p.1 })) (two_again segment.0 memory.0 h.0 h.1))
packed_again (ops.DataDrop segment) h = op_with kinds.DataDrop _ refl (reads_end (λ n. ops.DataDrop (record { 0 = n })) (number32_again segment.0 h))
packed_again (ops.MemoryCopy to from) h = op_with kinds.MemoryCopy _ refl (reads_end (λ p. ops.MemoryCopy (record { 0 = p.0 }) (record { 0 = p.1 })) (two_again to.0 from.0 h.0 h.1))
packed_again (ops.MemoryFill memory) h = op_with kinds.MemoryFill _ refl (reads_end (λ n. ops.MemoryFill (record { 0 = n })) (number32_again memory.0 h))
packed_again (ops.TableInit elem table) h = op_with kinds.TableInit _ refl (reads_end (λ p. ops.TableInit (record { 0 = p.0 }) (record { 0 = p.1 })) (two_again elem.0 table.0 h.0 h.1))
packed_again (ops.ElemDrop elem) h = op_with kinds.ElemDrop _ refl (reads_end (λ n. ops.ElemDrop (record { 0 = n })) (number32_again elem.0 h))
packed_again (ops.TableCopy to from) h = op_with kinds.TableCopy _ refl (reads_end (λ p. ops.TableCopy (record { 0 = p.0 }) (record { 0 = p.1 })) (two_again to.0 from.0 h.0 h.1))
packed_again (ops.FcTable code table) h = op_with kinds.FcTable _ refl (reads_end (λ p. ops.FcTable p.0 (record { 0 = p.1 })) (two_again code table.0 h.0 h.1))
packed_again (ops.Simd code) h = op_with kinds.Simd _ refl (reads_bind _ (two_bytes_again _ 0xFD) (reads_end (λ code. ops.Simd code) (number32_again code h)))
packed_again (ops.SimdMem code arg) h = op_with kinds.SimdMem _ refl (reads_end (λ p. ops.SimdMem p.0 p.1) (both_again (number32_again code h.0) (arg_again arg h.1)))
packed_again (ops.SimdMemLane code arg lane) h = op_with kinds.SimdMemLane _ refl (reads_end (λ p. ops.SimdMemLane p.0 p.1.0 p.1.1) (both_again (number32_again code h.0) (both_again (arg_again arg h.1) (reads_byte lane))))
packed_again (ops.SimdBytes code bytes) h = op_with kinds.SimdBytes _ refl (reads_bind _ (two_bytes_again _ 0xFD) (reads_end (λ p. ops.SimdBytes p.0 p.1) (both_again (number32_again code h.0) (reads_raw 16 bytes h.1))))
packed_again (ops.SimdLane code lane) h = op_with kinds.SimdLane _ refl (reads_bind _ (two_bytes_again _ 0xFD) (reads_end (λ p. ops.SimdLane p.0 p.1) (both_again (number32_again code h) (reads_byte lane))))

-- ---- lists of operators

again_within : (xs : List Op) → AllByRecursion HasWidths xs → (n place : ℕ) → length (flat_map packed_bytes xs) ≤ n → unpacked_within n (record { place = place; bytes = flat_map packed_bytes xs }) ≡ xs
unfolding unpacked_within unpacked_op
again_within [] all zero place le = refl
again_within [] all (suc n) place le = refl
again_within (x ∷ xs) all zero place le = absurd (omega arith)
again_within (x ∷ xs) all (suc n) place le =
    let p = (packed_again x all.0).again place (flat_map packed_bytes xs) in
    let short : length (flat_map packed_bytes xs) ≤ n = omega (arith, le, length-append (held_bytes x) (flat_map packed_bytes xs)) in
    rw (p.1) (ap (λ ys. x ∷ ys) (again_within xs all.1 n p.0 short))

-- the operators of the bytes of operators
pub unpacked_again : (xs : List Op) (place : ℕ) → AllByRecursion HasWidths xs → ops_of (record { place = place; bytes = flat_map packed_bytes xs }) ≡ xs
unpacked_again xs place all = again_within xs all (length (flat_map packed_bytes xs)) place (omega arith)

is_packed : (xs : List Op) (place : ℕ) → AllByRecursion HasWidths xs → IsPacked (record { place = place; bytes = flat_map packed_bytes xs })
is_packed xs place all = record {
  whole = rw (unpacked_again xs place all) refl;
  held = rw (unpacked_again xs place all) all;
}

-- bytes that are those of operators
packed_as : (xs : List Op) (s : Input) → s.bytes ≡ flat_map packed_bytes xs → AllByRecursion HasWidths xs → (ops_of s ≡ xs) × IsPacked s
packed_as xs s is all = rw is (unpacked_again xs s.place all, is_packed xs s.place all)

-- none
pub packed_none : (s : Input) → s.bytes ≡ [] → (ops_of s ≡ []) × IsPacked s
packed_none s is = packed_as [] s is tt

pub packed_empty : (s : Input) → length s.bytes ≡ 0 → ops_of s ≡ []
unfolding unpacked_within
packed_empty s is = rw is refl

-- one operator more
pub packed_more : (s t : Input) (x : Op) → IsPacked s → HasWidths x → t.bytes ≡ s.bytes ++ packed_bytes x → (ops_of t ≡ ops_of s ++ x ∷ []) × IsPacked t
packed_more s t x h fits is =
    let whole : t.bytes ≡ flat_map packed_bytes (ops_of s ++ x ∷ []) = rw (is, flat_map-append packed_bytes (ops_of s) (x ∷ []), append-nil (packed_bytes x)) (ap (λ bytes. bytes ++ packed_bytes x) h.whole) in
    packed_as (ops_of s ++ x ∷ []) t whole (all_more HasWidths (ops_of s) x h.held fits)

walked_from : (xs : List Op) (place : ℕ) (t u : Input) (x : Op) → AllByRecursion HasWidths xs → unpacked_op (record { place = place; bytes = flat_map packed_bytes xs }) ≡ Ok (x, t) → u.bytes ≡ t.bytes → (xs ≡ x ∷ ops_of u) × IsPacked u
unfolding unpacked_op
walked_from [] place t u x all is left = absurd (grind (arith, is))
walked_from (y ∷ ys) place t u x all is left =
    let p = (packed_again y all.0).again place (flat_map packed_bytes ys) in
    let after : Input = record { place = p.0; bytes = flat_map packed_bytes ys } in
    let found = sym p.1 ∙ is in
    let here : u.bytes ≡ flat_map packed_bytes ys = left ∙ ap (λ (s : Input). s.bytes) (sym (same_rest y x after t found)) in
    let kept = packed_as ys u here all.1 in
    rw (← same_value y x after t found) (ap (λ zs. y ∷ zs) (sym kept.0), kept.1)

-- one step over packed operators
pub walked : (s t u : Input) (x : Op) → IsPacked s → unpacked_op s ≡ Ok (x, t) → u.bytes ≡ t.bytes → (ops_of s ≡ x ∷ ops_of u) × IsPacked u
walked s t u x h is left =
    let at : s ≡ record { place = s.place; bytes = flat_map packed_bytes (ops_of s) } = ap (λ bytes. record { place = s.place; bytes = bytes }) h.whole in
    walked_from (ops_of s) s.place t u x h.held (subst (λ (from : Input). unpacked_op from ≡ Ok (x, t)) at is) left

-- ---- operators that are kept as they are written

held_spelled : (x : Op) → is_spelled x ≡ true → held_bytes x ≡ behind_length (spelled_bytes x)
unfolding held_bytes
held_spelled = by_spelled (λ x. held_bytes x ≡ behind_length (spelled_bytes x)) (record {
  plain = λ code. refl;
  label = λ code label. refl;
  local = λ code local. refl;
  const32 = λ n. refl;
  const64 = λ n. refl;
  raw4 = λ bytes. refl;
  raw8 = λ bytes. refl;
  ref_null = λ ty. refl;
  fc_plain = λ code. refl;
  simd = λ code. refl;
  simd_bytes = λ code bytes. refl;
  simd_lane = λ code lane. refl;
})

spelled_from : (xs : List Op) (number len : ℕ) (rest : List ℕ) (u : Input) → AllByRecursion HasWidths xs → number ∷ len ∷ rest ≡ flat_map packed_bytes xs → number < 12 → u.bytes ≡ drop len rest → IsNextSpelled (Some (take len rest)) xs (ops_of u) × IsPacked u
spelled_from [] number len rest u all is lt left = absurd (grind (arith, is))
spelled_from (x ∷ xs) number len rest u all is lt left =
    let same : number ≡ number_of x = ap (λ bytes. get_or bytes 0 0) is in
    let low : number_of x < 12 = rw (← same) lt in
    let behind : len ∷ rest ≡ length (spelled_bytes x) ∷ (spelled_bytes x ++ flat_map packed_bytes xs) = ap (λ bytes. drop 1 bytes) is ∙ ap (λ bytes. bytes ++ flat_map packed_bytes xs) (held_spelled x (lt-ltb (number_of x) 12 low)) in
    let count : length (spelled_bytes x) ≡ len = sym (ap (λ bytes. get_or bytes 0 0) behind) in
    let others : rest ≡ spelled_bytes x ++ flat_map packed_bytes xs = ap (λ bytes. drop 1 bytes) behind in
    let first : take len rest ≡ spelled_bytes x = rw others (take_at (spelled_bytes x) (flat_map packed_bytes xs) len count) in
    let after : u.bytes ≡ flat_map packed_bytes xs = left ∙ (rw others (drop_at (spelled_bytes x) (flat_map packed_bytes xs) len count)) in
    let kept = packed_as xs u after all.1 in
    ((x, ap (λ ys. x ∷ ys) (sym kept.0), lt-ltb (number_of x) 12 low, first), kept.1)

-- one step over an operator that is kept so
pub spelled_walked : (s u : Input) (number len : ℕ) (rest : List ℕ) → IsPacked s → s.bytes ≡ number ∷ len ∷ rest → number < 12 → u.bytes ≡ drop len rest → IsNextSpelled (Some (take len rest)) (ops_of s) (ops_of u) × IsPacked u
spelled_walked s u number len rest h is lt left = spelled_from (ops_of s) number len rest u h.held (sym is ∙ h.whole) lt left

two_first : (bytes head rest : List ℕ) → 2 ≤ length bytes → head ≡ take 2 bytes → rest ≡ drop 2 bytes → bytes ≡ get_or head 0 0 ∷ get_or head 1 0 ∷ rest
two_first [] head rest le first others = absurd (omega arith)
two_first (a ∷ []) head rest le first others = absurd (omega (arith, le))
two_first (a ∷ b ∷ bytes) head rest le first others = rw (first, others) refl

-- the same of the parts that splits give
pub spelled_split : (s u : Input) (head rest front : List ℕ) → IsPacked s → 2 ≤ length s.bytes → head ≡ take 2 s.bytes → rest ≡ drop 2 s.bytes → get_or head 0 0 < 12 → front ≡ take (get_or head 1 0) rest → u.bytes ≡ drop (get_or head 1 0) rest → IsNextSpelled (Some front) (ops_of s) (ops_of u) × IsPacked u
spelled_split s u head rest front h le first others lt is left = rw is (spelled_walked s u (get_or head 0 0) (get_or head 1 0) rest h (two_first s.bytes head rest le first others) lt left)

begun : (x : Op) (xs : List Op) → number_of x < 12 → flat_map packed_bytes (x ∷ xs) ≡ number_of x ∷ length (spelled_bytes x) ∷ (spelled_bytes x ++ flat_map packed_bytes xs)
begun x xs lt = rw (held_spelled x (lt-ltb (number_of x) 12 lt)) refl

-- Bytes that hold no number of such an operator and its length don't begin with one.
not_begun : (xs : List Op) (bytes : List ℕ) → bytes ≡ flat_map packed_bytes xs → ((number len : ℕ) (rest : List ℕ) → bytes ≡ number ∷ len ∷ rest → number < 12 → len ≤ length rest → ⊥) → begins_spelled xs ≡ false
not_begun [] bytes is none = refl
not_begun (x ∷ xs) bytes is none = elim (cases_Bool (is_spelled x)) [
  | inl spelled ↦
      let lt : number_of x < 12 = grind (arith, spelled) in
      let enough : length (spelled_bytes x) ≤ length (spelled_bytes x ++ flat_map packed_bytes xs) = omega (arith, length-append (spelled_bytes x) (flat_map packed_bytes xs)) in
      absurd (none (number_of x) (length (spelled_bytes x)) (spelled_bytes x ++ flat_map packed_bytes xs) (is ∙ begun x xs lt) lt enough)
  | inr other ↦ other
]

pub too_short : (s : Input) → IsPacked s → length s.bytes < 2 → begins_spelled (ops_of s) ≡ false
too_short s h lt = not_begun (ops_of s) s.bytes h.whole (λ number len rest is small enough. omega (arith, ap (λ bytes. length bytes) is, lt))

pub not_spelled : (s : Input) (head rest : List ℕ) → IsPacked s → 2 ≤ length s.bytes → head ≡ take 2 s.bytes → rest ≡ drop 2 s.bytes → (get_or head 0 0 < 12 → get_or head 1 0 ≤ length rest → ⊥) → begins_spelled (ops_of s) ≡ false
not_spelled s head rest h le first others none = not_begun (ops_of s) s.bytes h.whole (λ number len left is small enough.
    let same = sym (two_first s.bytes head rest le first others) ∙ is in
    let one : get_or head 0 0 ≡ number = ap (λ bytes. get_or bytes 0 0) same in
    let two : get_or head 1 0 ≡ len = ap (λ bytes. get_or bytes 1 0) same in
    let three : rest ≡ left = ap (λ bytes. drop 2 bytes) same in
    none (rw one small) (rw (two, three) enough))
