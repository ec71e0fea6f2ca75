-- Operators as bytes in memory: the number of a variant, and what the variant holds. No file has this form.
use Rattle.std.specs.Prelude.{◌≡◌, ℕ, zero, suc, ◌^◌, ◌<◌, nat_lt, ⊤, Bool, true, false, List, [], ◌∷◌, ◌++◌, length, Option, Some, None, Result, Ok, Err, ◌==◌, if◌then◌else◌}
use Rattle.std.specs.List.{flat_map, AllByRecursion}
use Rattle.wasm_bytes.specs.Reading.{Input, ◌>>=◌, pure, byte, raw, entries, meant}
use Rattle.wasm_bytes.specs.Numbers.{number32, number64, number_bytes}
use Rattle.wasm_bytes.specs.Signed.{signed32, signed64, signed_bytes, IsWithin}
use Rattle.wasm_bytes.specs.Spelling.{list_bytes}
use Rattle.wasm_types.specs.Spelling.{val_type_bytes}
use Rattle.wasm_ops.specs.Spelling.{coded}
use Rattle.wasm_types.specs.Entries.{val_type}
use Rattle.packed_ops.specs.declared.kinds.Kind.{Kind}
use Rattle.packed_ops.specs.declared.kinds.Kind.TheVariants as kinds
use Rattle.packed_ops.specs.declared.kinds.BlockKind.{BlockKind}
use Rattle.packed_ops.specs.declared.kinds.BlockKind.TheVariants as block_kinds
use Rattle.wasm_ops.specs.declared.ops.Op.{Op}
use Rattle.wasm_ops.specs.declared.ops.Op.TheVariants as ops
use Rattle.wasm_ops.specs.declared.ops.BlockType.{BlockType}
use Rattle.wasm_ops.specs.declared.ops.BlockType.TheVariants as block_types
use Rattle.wasm_ops.specs.declared.ops.Catch.{Catch}
use Rattle.wasm_ops.specs.declared.ops.Catch.TheVariants as catches
use Rattle.wasm_ops.specs.declared.ops.MemArg.{MemArg}

-- ---- what is written

unfoldable pub packed_block : BlockType → List ℕ
packed_block block_types.Empty = 0 ∷ []
packed_block (block_types.Value ty) = 1 ∷ val_type_bytes ty
packed_block (block_types.Index ty) = 2 ∷ number_bytes ty.0

unfoldable pub packed_catch : Catch → List ℕ
packed_catch (catches.Tag code tag label) = 0 ∷ code ∷ (number_bytes tag.0 ++ number_bytes label)
packed_catch (catches.All code label) = 1 ∷ code ∷ number_bytes label

unfoldable pub packed_arg : MemArg → List ℕ
packed_arg arg = number_bytes arg.align ++ (number_bytes arg.memory.0 ++ number_bytes arg.offset)

-- two numbers
abbrev pub packed_two : ℕ → ℕ → List ℕ
packed_two n m = number_bytes n ++ number_bytes m

-- the number of the variant
abbrev pub number_of : Op → ℕ
number_of (ops.Plain code) = 0
number_of (ops.Label code label) = 1
number_of (ops.Local code local) = 2
number_of (ops.Const32 n) = 3
number_of (ops.Const64 n) = 4
number_of (ops.Raw4 bytes) = 5
number_of (ops.Raw8 bytes) = 6
number_of (ops.RefNull ty) = 7
number_of (ops.FcPlain code) = 8
number_of (ops.Simd code) = 9
number_of (ops.SimdBytes code bytes) = 10
number_of (ops.SimdLane code lane) = 11
number_of (ops.Block code ty) = 12
number_of (ops.Tag code tag) = 13
number_of (ops.BrTable labels label) = 14
number_of (ops.Func code func) = 15
number_of (ops.Indirect code ty table) = 16
number_of (ops.Select types) = 17
number_of (ops.TryTable ty clauses) = 18
number_of (ops.Global code global) = 19
number_of (ops.Table code table) = 20
number_of (ops.Mem code arg) = 21
number_of (ops.Memory code memory) = 22
number_of (ops.MemoryInit segment memory) = 23
number_of (ops.DataDrop segment) = 24
number_of (ops.MemoryCopy to from) = 25
number_of (ops.MemoryFill memory) = 26
number_of (ops.TableInit elem table) = 27
number_of (ops.ElemDrop elem) = 28
number_of (ops.TableCopy to from) = 29
number_of (ops.FcTable code table) = 30
number_of (ops.SimdMem code arg) = 31
number_of (ops.SimdMemLane code arg lane) = 32

-- How an operator is written that is no block, names no entry and has no list: the numbers of entries don't change it. Of others it says nothing.
unfoldable pub spelled_bytes : Op → List ℕ
spelled_bytes (ops.Plain code) = code ∷ []
spelled_bytes (ops.Label code label) = coded code label
spelled_bytes (ops.Local code local) = coded code local
spelled_bytes (ops.Const32 n) = 0x41 ∷ signed_bytes n
spelled_bytes (ops.Const64 n) = 0x42 ∷ signed_bytes n
spelled_bytes (ops.Raw4 bytes) = 0x43 ∷ bytes
spelled_bytes (ops.Raw8 bytes) = 0x44 ∷ bytes
spelled_bytes (ops.RefNull ty) = 0xD0 ∷ val_type_bytes ty
spelled_bytes (ops.FcPlain code) = coded 0xFC code
spelled_bytes (ops.Simd code) = coded 0xFD code
spelled_bytes (ops.SimdBytes code bytes) = coded 0xFD code ++ bytes
spelled_bytes (ops.SimdLane code lane) = coded 0xFD code ++ lane ∷ []
spelled_bytes _ = []

-- bytes behind their number
abbrev pub behind_length : List ℕ → List ℕ
behind_length bytes = length bytes ∷ bytes

-- What it holds. Where it is no block, names no entry and has no list, that is what is written for it, behind its length.
unfoldable pub held_bytes : Op → List ℕ
held_bytes (ops.Block code ty) = code ∷ packed_block ty
held_bytes (ops.Tag code tag) = coded code tag.0
held_bytes (ops.BrTable labels label) = list_bytes number_bytes labels ++ number_bytes label
held_bytes (ops.Func code func) = coded code func.0
held_bytes (ops.Indirect code ty table) = code ∷ packed_two ty.0 table.0
held_bytes (ops.Select types) = list_bytes val_type_bytes types
held_bytes (ops.TryTable ty clauses) = packed_block ty ++ list_bytes packed_catch clauses
held_bytes (ops.Global code global) = coded code global.0
held_bytes (ops.Table code table) = coded code table.0
held_bytes (ops.Mem code arg) = code ∷ packed_arg arg
held_bytes (ops.Memory code memory) = coded code memory.0
held_bytes (ops.MemoryInit segment memory) = packed_two segment.0 memory.0
held_bytes (ops.DataDrop segment) = number_bytes segment.0
held_bytes (ops.MemoryCopy to from) = packed_two to.0 from.0
held_bytes (ops.MemoryFill memory) = number_bytes memory.0
held_bytes (ops.TableInit elem table) = packed_two elem.0 table.0
held_bytes (ops.ElemDrop elem) = number_bytes elem.0
held_bytes (ops.TableCopy to from) = packed_two to.0 from.0
held_bytes (ops.FcTable code table) = packed_two code table.0
held_bytes (ops.SimdMem code arg) = number_bytes code ++ packed_arg arg
held_bytes (ops.SimdMemLane code arg lane) = number_bytes code ++ (packed_arg arg ++ lane ∷ [])
held_bytes x = behind_length (spelled_bytes x)

abbrev pub packed_bytes : Op → List ℕ
packed_bytes x = number_of x ∷ held_bytes x

-- ---- what is read

-- a value and another one behind it
abbrev pub both : {A B : Type 0} → (Input → Result (A × Input) ℕ) → (Input → Result (B × Input) ℕ) → Input → Result ((A × B) × Input) ℕ
both first second = do
  x ← first
  y ← second
  pure (x, y)

abbrev pub block_kind_of : ℕ → Option BlockKind
block_kind_of number =
    if number == 0 then Some block_kinds.Empty else
    if number == 1 then Some block_kinds.Value else
    if number == 2 then Some block_kinds.Index else None

unfoldable pub block_as : BlockKind → Input → Result (BlockType × Input) ℕ
block_as block_kinds.Empty = pure block_types.Empty
block_as block_kinds.Value = do
  ty ← val_type
  pure (block_types.Value ty)
block_as block_kinds.Index = do
  n ← number32
  pure (block_types.Index (record { 0 = n }))

unfoldable pub unpacked_block : Input → Result (BlockType × Input) ℕ
unpacked_block = meant block_kind_of byte >>= block_as

unfoldable pub unpacked_catch_as : ℕ → Input → Result (Catch × Input) ℕ
unpacked_catch_as number =
    if number == 0 then (do
      code ← byte
      p ← both number32 number32
      pure (catches.Tag code (record { 0 = p.0 }) p.1)) else (do
        code ← byte
        label ← number32
        pure (catches.All code label))

unfoldable pub unpacked_catch : Input → Result (Catch × Input) ℕ
unpacked_catch = byte >>= unpacked_catch_as

unfoldable pub unpacked_arg : Input → Result (MemArg × Input) ℕ
unpacked_arg = do
  align ← number32
  memory ← number32
  offset ← number64
  pure (record { align = align; memory = record { 0 = memory }; offset = offset })

-- a list behind the number of its items
unfoldable pub unpacked_list : {A : Type 0} → (Input → Result (A × Input) ℕ) → Input → Result (List A × Input) ℕ
unpacked_list item = do
  n ← number32
  entries n item

-- the variant of a number
abbrev pub kind_of : ℕ → Option Kind
kind_of number =
    if number == 0 then Some kinds.Plain else
    if number == 1 then Some kinds.Label else
    if number == 2 then Some kinds.Local else
    if number == 3 then Some kinds.Const32 else
    if number == 4 then Some kinds.Const64 else
    if number == 5 then Some kinds.Raw4 else
    if number == 6 then Some kinds.Raw8 else
    if number == 7 then Some kinds.RefNull else
    if number == 8 then Some kinds.FcPlain else
    if number == 9 then Some kinds.Simd else
    if number == 10 then Some kinds.SimdBytes else
    if number == 11 then Some kinds.SimdLane else
    if number == 12 then Some kinds.Block else
    if number == 13 then Some kinds.Tag else
    if number == 14 then Some kinds.BrTable else
    if number == 15 then Some kinds.Func else
    if number == 16 then Some kinds.Indirect else
    if number == 17 then Some kinds.Select else
    if number == 18 then Some kinds.TryTable else
    if number == 19 then Some kinds.Global else
    if number == 20 then Some kinds.Table else
    if number == 21 then Some kinds.Mem else
    if number == 22 then Some kinds.Memory else
    if number == 23 then Some kinds.MemoryInit else
    if number == 24 then Some kinds.DataDrop else
    if number == 25 then Some kinds.MemoryCopy else
    if number == 26 then Some kinds.MemoryFill else
    if number == 27 then Some kinds.TableInit else
    if number == 28 then Some kinds.ElemDrop else
    if number == 29 then Some kinds.TableCopy else
    if number == 30 then Some kinds.FcTable else
    if number == 31 then Some kinds.SimdMem else
    if number == 32 then Some kinds.SimdMemLane else None

-- a byte, or two, that is passed over
abbrev pub one_byte : Input → Result (Unit {0} × Input) ℕ
one_byte = do
  _ ← byte
  pure tt

abbrev pub two_bytes : Input → Result (Unit {0} × Input) ℕ
two_bytes = do
  _ ← byte
  _ ← byte
  pure tt

-- an operator of what is read
abbrev pub held_by : {A : Type 0} → (A → Op) → (Input → Result (A × Input) ℕ) → Input → Result (Op × Input) ℕ
held_by make item = item >>= (λ x. pure (make x))

-- what a variant holds
unfoldable pub held_as : Kind → Input → Result (Op × Input) ℕ
held_as kinds.Plain = one_byte >>= (λ _. held_by (λ code. ops.Plain code) byte)
held_as kinds.Label = one_byte >>= (λ _. held_by (λ p. ops.Label p.0 p.1) (both byte number32))
held_as kinds.Local = one_byte >>= (λ _. held_by (λ p. ops.Local p.0 p.1) (both byte number32))
held_as kinds.Const32 = two_bytes >>= (λ _. held_by (λ n. ops.Const32 n) signed32)
held_as kinds.Const64 = two_bytes >>= (λ _. held_by (λ n. ops.Const64 n) signed64)
held_as kinds.Raw4 = two_bytes >>= (λ _. held_by (λ bytes. ops.Raw4 bytes) (raw 4))
held_as kinds.Raw8 = two_bytes >>= (λ _. held_by (λ bytes. ops.Raw8 bytes) (raw 8))
held_as kinds.RefNull = two_bytes >>= (λ _. held_by (λ ty. ops.RefNull ty) val_type)
held_as kinds.FcPlain = two_bytes >>= (λ _. held_by (λ code. ops.FcPlain code) number32)
held_as kinds.Simd = two_bytes >>= (λ _. held_by (λ code. ops.Simd code) number32)
held_as kinds.SimdBytes = two_bytes >>= (λ _. held_by (λ p. ops.SimdBytes p.0 p.1) (both number32 (raw 16)))
held_as kinds.SimdLane = two_bytes >>= (λ _. held_by (λ p. ops.SimdLane p.0 p.1) (both number32 byte))
held_as kinds.Block = held_by (λ p. ops.Block p.0 p.1) (both byte unpacked_block)
held_as kinds.Tag = held_by (λ p. ops.Tag p.0 (record { 0 = p.1 })) (both byte number32)
held_as kinds.BrTable = held_by (λ p. ops.BrTable p.0 p.1) (both (unpacked_list number32) number32)
held_as kinds.Func = held_by (λ p. ops.Func p.0 (record { 0 = p.1 })) (both byte number32)
held_as kinds.Indirect = held_by (λ p. ops.Indirect p.0 (record { 0 = p.1.0 }) (record { 0 = p.1.1 })) (both byte (both number32 number32))
held_as kinds.Select = held_by (λ types. ops.Select types) (unpacked_list val_type)
held_as kinds.TryTable = held_by (λ p. ops.TryTable p.0 p.1) (both unpacked_block (unpacked_list unpacked_catch))
held_as kinds.Global = held_by (λ p. ops.Global p.0 (record { 0 = p.1 })) (both byte number32)
held_as kinds.Table = held_by (λ p. ops.Table p.0 (record { 0 = p.1 })) (both byte number32)
held_as kinds.Mem = held_by (λ p. ops.Mem p.0 p.1) (both byte unpacked_arg)
held_as kinds.Memory = held_by (λ p. ops.Memory p.0 (record { 0 = p.1 })) (both byte number32)
held_as kinds.MemoryInit = held_by (λ p. ops.MemoryInit (record { 0 = p.0 }) (record { 0 = p.1 })) (both number32 number32)
held_as kinds.DataDrop = held_by (λ n. ops.DataDrop (record { 0 = n })) number32
held_as kinds.MemoryCopy = held_by (λ p. ops.MemoryCopy (record { 0 = p.0 }) (record { 0 = p.1 })) (both number32 number32)
held_as kinds.MemoryFill = held_by (λ n. ops.MemoryFill (record { 0 = n })) number32
held_as kinds.TableInit = held_by (λ p. ops.TableInit (record { 0 = p.0 }) (record { 0 = p.1 })) (both number32 number32)
held_as kinds.ElemDrop = held_by (λ n. ops.ElemDrop (record { 0 = n })) number32
held_as kinds.TableCopy = held_by (λ p. ops.TableCopy (record { 0 = p.0 }) (record { 0 = p.1 })) (both number32 number32)
held_as kinds.FcTable = held_by (λ p. ops.FcTable p.0 (record { 0 = p.1 })) (both number32 number32)
held_as kinds.SimdMem = held_by (λ p. ops.SimdMem p.0 p.1) (both number32 unpacked_arg)
held_as kinds.SimdMemLane = held_by (λ p. ops.SimdMemLane p.0 p.1.0 p.1.1) (both number32 (both unpacked_arg byte))

unfoldable pub unpacked_op : Input → Result (Op × Input) ℕ
unpacked_op = meant kind_of byte >>= held_as

-- ---- lists of operators

-- an operator before the others, none after a fault
abbrev pub before : Result (Op × Input) ℕ → (Input → List Op) → List Op
before (Ok p) others = p.0 ∷ others p.1
before (Err place) others = []

-- at most so many
unfoldable pub unpacked_within : ℕ → Input → List Op
unpacked_within zero s = []
unpacked_within (suc n) s = before (unpacked_op s) (unpacked_within n)

-- the operators of these bytes
abbrev pub ops_of : Input → List Op
ops_of s = unpacked_within (length s.bytes) s

-- 32 bits hold it
abbrev pub FitsU32 : ℕ → Type 0
FitsU32 n = n < 2 ^ 32

-- anything
abbrev pub IsAny : {A : Type 0} → A → Type 0
IsAny _ = Unit {0}

abbrev pub HasWidthsBlock : BlockType → Type 0
HasWidthsBlock (block_types.Index ty) = FitsU32 ty.0
HasWidthsBlock _ = ⊤

abbrev pub HasWidthsCatch : Catch → Type 0
HasWidthsCatch (catches.Tag code tag label) = FitsU32 tag.0 × FitsU32 label
HasWidthsCatch (catches.All code label) = FitsU32 label

abbrev pub HasWidthsArg : MemArg → Type 0
HasWidthsArg arg = FitsU32 arg.align × FitsU32 arg.memory.0 × (arg.offset < 2 ^ 64)

-- The numbers that it holds have the widths of their types, its raw bytes are as many as there have to be, and 32 bits count its lists.
abbrev pub HasWidths : Op → Type 0
HasWidths (ops.Plain code) = ⊤
HasWidths (ops.Label code label) = FitsU32 label
HasWidths (ops.Local code local) = FitsU32 local
HasWidths (ops.Const32 n) = IsWithin (2 ^ 31) n
HasWidths (ops.Const64 n) = IsWithin (2 ^ 63) n
HasWidths (ops.Raw4 bytes) = length bytes ≡ 4
HasWidths (ops.Raw8 bytes) = length bytes ≡ 8
HasWidths (ops.RefNull ty) = ⊤
HasWidths (ops.FcPlain code) = FitsU32 code
HasWidths (ops.Simd code) = FitsU32 code
HasWidths (ops.SimdBytes code bytes) = FitsU32 code × (length bytes ≡ 16)
HasWidths (ops.SimdLane code lane) = FitsU32 code
HasWidths (ops.Block code ty) = HasWidthsBlock ty
HasWidths (ops.Tag code tag) = FitsU32 tag.0
HasWidths (ops.BrTable labels label) = FitsU32 (length labels) × AllByRecursion FitsU32 labels × FitsU32 label
HasWidths (ops.Func code func) = FitsU32 func.0
HasWidths (ops.Indirect code ty table) = FitsU32 ty.0 × FitsU32 table.0
HasWidths (ops.Select types) = FitsU32 (length types)
HasWidths (ops.TryTable ty clauses) = HasWidthsBlock ty × FitsU32 (length clauses) × AllByRecursion HasWidthsCatch clauses
HasWidths (ops.Global code global) = FitsU32 global.0
HasWidths (ops.Table code table) = FitsU32 table.0
HasWidths (ops.Mem code arg) = HasWidthsArg arg
HasWidths (ops.Memory code memory) = FitsU32 memory.0
HasWidths (ops.MemoryInit segment memory) = FitsU32 segment.0 × FitsU32 memory.0
HasWidths (ops.DataDrop segment) = FitsU32 segment.0
HasWidths (ops.MemoryCopy to from) = FitsU32 to.0 × FitsU32 from.0
HasWidths (ops.MemoryFill memory) = FitsU32 memory.0
HasWidths (ops.TableInit elem table) = FitsU32 elem.0 × FitsU32 table.0
HasWidths (ops.ElemDrop elem) = FitsU32 elem.0
HasWidths (ops.TableCopy to from) = FitsU32 to.0 × FitsU32 from.0
HasWidths (ops.FcTable code table) = FitsU32 code × FitsU32 table.0
HasWidths (ops.SimdMem code arg) = FitsU32 code × HasWidthsArg arg
HasWidths (ops.SimdMemLane code arg lane) = FitsU32 code × HasWidthsArg arg

-- the bytes are those of their operators
pub record IsPacked (s : Input) : Type 0 where
  pub whole : s.bytes ≡ flat_map packed_bytes (ops_of s)
  pub held : AllByRecursion HasWidths (ops_of s)

-- what a walk over operators gives: the first operator before those that are left, or none of none
abbrev pub IsNextOp : Option Op → List Op → List Op → Type 0
IsNextOp None from to = (from ≡ []) × (to ≡ [])
IsNextOp (Some x) from to = from ≡ x ∷ to

-- the operators that are kept as they are written
abbrev pub is_spelled : Op → Bool
is_spelled x = nat_lt (number_of x) 12

-- the first operator is one of these
abbrev pub begins_spelled : List Op → Bool
begins_spelled [] = false
begins_spelled (x ∷ xs) = is_spelled x

-- What a walk gives where the first operator is kept as it is written: its bytes. Only where it isn't, the walk stays where it is.
abbrev pub IsNextSpelled : Option (List ℕ) → List Op → List Op → Type 0
IsNextSpelled None from to = (to ≡ from) × (begins_spelled from ≡ false)
IsNextSpelled (Some bytes) from to = (x : Op) × (from ≡ x ∷ to) × (is_spelled x ≡ true) × (bytes ≡ spelled_bytes x)

-- such operators stand before what is left
pub record Passes (from to : List Op) : Type 0 where
  pub over : List Op
  pub whole : from ≡ over ++ to
  pub spelled : AllByRecursion (λ x. is_spelled x ≡ true) over

-- what a walk gives that passes over all such operators first
pub record IsNextOther (found : Option Op) (from to : List Op) : Type 0 where
  pub rest : List Op
  pub passes : Passes from rest
  pub other : begins_spelled rest ≡ false
  pub next : IsNextOp found rest to
