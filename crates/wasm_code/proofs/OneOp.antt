-- One operator of a body, by its opcode and what follows it.
use Rattle.std.proofs.Common.{◌≡◌, ℕ, Bool, false, List, length, Some, Result, Ok, ◌==◌, refl, arith}
use Rattle.std.proofs.lemmas.Bool.{ne_eqb}
use Rattle.wasm_bytes.specs.declared.counts.Counts.{Counts}
use Rattle.wasm_bytes.specs.declared.fault.ReadFault.{ReadFault}
use Rattle.wasm_bytes.specs.Reading.{Input, followed, pure, byte, value_of}
use Rattle.wasm_bytes.specs.Gives.{Fails}
use Rattle.wasm_ops.specs.Shapes.{shape_within, named_blocks}
use Rattle.wasm_ops.specs.Operands.{operands}
use Rattle.wasm_ops.specs.declared.shapes.Shape.{Shape}
use Rattle.wasm_ops.specs.declared.ops.Op.{Op}
use Rattle.wasm_ops.specs.declared.ops.Op.TheVariants as ops
use Rattle.wasm_ops.proofs.Made.{fails_first}
use Rattle.wasm_code.specs.Code.{labels_after, op, next_op}

same_code : (b code : ℕ) (t : Input) (r : Result (ℕ × Input) ℕ) → r ≡ Ok (b, t) → value_of r ≡ Ok code → r ≡ Ok (code, t)
same_code b code t r h is = grind (arith, h, is)

-- the byte that was looked at is the one that is read
pub code_read : (b code : ℕ) (s t : Input) → byte s ≡ Ok (b, t) → value_of (byte s) ≡ Ok code → byte s ≡ Ok (code, t)
code_read b code s t h is = same_code b code t (byte s) h is

pub op_by_shape : (counts : Counts) (labels : List Bool) (code : ℕ) (shape : Shape) (s t u : Input) (x : Op) → byte s ≡ Ok (code, t) → shape_within labels code ≡ Some shape → operands counts (named_blocks labels code) code shape t ≡ Ok (x, u) → op counts labels s ≡ Ok (x, u)
unfolding op
op_by_shape counts labels code shape s t u x h is found = rw (h, is) found

pub fails_by_shape : (e : ReadFault) (counts : Counts) (labels : List Bool) (code : ℕ) (shape : Shape) (s t : Input) → byte s ≡ Ok (code, t) → shape_within labels code ≡ Some shape → Fails e (operands counts (named_blocks labels code) code shape t) → Fails e (next_op counts labels s)
unfolding op next_op
fails_by_shape e counts labels code shape s t h is fails = fails_first e (op counts labels s) _ (rw (h, is) fails)

-- it leaves the open blocks as they are
pub stays_open : (counts : Counts) (labels : List Bool) (s u : Input) (x : Op) → op counts labels s ≡ Ok (x, u) → labels_after x labels ≡ labels → (length labels == 0) ≡ false → next_op counts labels s ≡ Ok ((Some x, labels), u)
unfolding next_op
stays_open counts labels s u x h same some = rw (h, same, some) refl

pub plain_stays : (code : ℕ) (labels : List Bool) → (code ≡ 5 → ⊥) → (code ≡ 11 → ⊥) → labels_after (ops.Plain code) labels ≡ labels
plain_stays code labels other none = rw (ne_eqb code 11 none, ne_eqb code 5 other) refl

pub made_of : {A : Type 0} (make : A → Op) (r : Result (A × Input) ℕ) (x : A) (u : Input) → r ≡ Ok (x, u) → followed r (λ a. pure (make a)) ≡ Ok (make x, u)
made_of make r x u h = rw h refl
