-- Which operands follow an opcode.
use Rattle.std.specs.Prelude.{ℕ, ◌-◌, Bool, false, ◌||◌, ◌&&◌, not, List, length, Option, Some, None, slice_get, nat_lt, nat_le, ◌==◌, if◌then◌else◌}
use Rattle.wasm_ops.specs.declared.shapes.Shape.{Shape}
use Rattle.wasm_ops.specs.declared.shapes.Shape.TheVariants as shapes
use Rattle.wasm_ops.specs.declared.shapes.SimdShape.{SimdShape}
use Rattle.wasm_ops.specs.declared.shapes.SimdShape.TheVariants as simds

-- from low to high
abbrev pub among : ℕ → ℕ → ℕ → Bool
among low high code = nat_le low code && nat_le code high

-- what follows the number of a vector operator
abbrev pub simd_shape : ℕ → SimdShape
simd_shape code =
    if nat_lt code 12 || code == 92 || code == 93 then simds.Mem else
    if code == 12 || code == 13 then simds.Bytes else
    if among 21 34 code then simds.Lane else
    if among 84 91 code then simds.MemLane else simds.Plain

-- what follows an opcode, none where it stands for no operator
abbrev pub shape_of : ℕ → Option Shape
shape_of code =
    if code == 0x00 || code == 0x01 || code == 0x05 || code == 0x0A || code == 0x0B || code == 0x0F || code == 0x19 || code == 0x1A || code == 0x1B || among 0x45 0xC4 code || code == 0xD1 then Some shapes.Plain else
    if code == 0x02 || code == 0x03 || code == 0x04 || code == 0x06 then Some shapes.Block else
    if code == 0x07 || code == 0x08 then Some shapes.Tag else
    if code == 0x09 || code == 0x0C || code == 0x0D || code == 0x18 then Some shapes.Label else
    if code == 0x0E then Some shapes.BrTable else
    if code == 0x10 || code == 0x12 || code == 0xD2 then Some shapes.Func else
    if code == 0x11 || code == 0x13 then Some shapes.Indirect else
    if code == 0x1C then Some shapes.Select else
    if code == 0x1F then Some shapes.TryTable else
    if among 0x20 0x22 code then Some shapes.Local else
    if code == 0x23 || code == 0x24 then Some shapes.Global else
    if code == 0x25 || code == 0x26 then Some shapes.Table else
    if among 0x28 0x3E code then Some shapes.Mem else
    if code == 0x3F || code == 0x40 then Some shapes.Memory else
    if code == 0x41 then Some shapes.Const32 else
    if code == 0x42 then Some shapes.Const64 else
    if code == 0x43 then Some shapes.Raw4 else
    if code == 0x44 then Some shapes.Raw8 else
    if code == 0xD0 then Some shapes.RefNull else
    if code == 0xFC then Some shapes.Bulk else
    if code == 0xFD then Some shapes.Simd else None

-- the same in an initial expression, which ends before the operator that closes it
abbrev pub initial_shape : ℕ → Option Shape
initial_shape code =
    if among 0x6A 0x6C code || among 0x7C 0x7E code then Some shapes.Plain else
    if code == 0x23 then Some shapes.Global else
    if code == 0x41 then Some shapes.Const32 else
    if code == 0x42 then Some shapes.Const64 else
    if code == 0x43 then Some shapes.Raw4 else
    if code == 0x44 then Some shapes.Raw8 else
    if code == 0xD0 then Some shapes.RefNull else
    if code == 0xD2 then Some shapes.Func else
    if code == 0xFD then Some shapes.Const128 else None

-- the innermost open block, the last, is an if without an else
abbrev pub is_true : Option Bool → Bool
is_true (Some b) = b
is_true None = false

abbrev pub ends_in_if : List Bool → Bool
ends_in_if labels = is_true (slice_get labels (length labels - 1))

-- The same within these open blocks, of which the body is the first: an else belongs to an if, and a delegate closes a block
-- that isn't the body.
abbrev pub shape_within : List Bool → ℕ → Option Shape
shape_within labels code =
    if code == 0x05 && not (ends_in_if labels) then None else
    if code == 0x18 && nat_lt (length labels) 2 then None else shape_of code

-- how many of these blocks the operands of an opcode can name: a delegate closes its block first
abbrev pub named_blocks : List Bool → ℕ → ℕ
named_blocks labels code = if code == 0x18 then length labels - 1 else length labels
