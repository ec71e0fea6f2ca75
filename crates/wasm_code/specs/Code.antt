-- Function bodies and initial expressions.
use Rattle.std.specs.Prelude.{◌≡◌, ℕ, ◌+◌, ◌-◌, Bool, true, false, List, [], ◌∷◌, ◌++◌, length, take, Option, Some, None, Result, Ok, ◌==◌, if◌then◌else◌}
use Rattle.std.specs.List.{sum_by}
use Rattle.wasm_bytes.specs.declared.counts.Counts.{Counts}
use Rattle.wasm_bytes.specs.Reading.{Input, followed, ◌>>=◌, pure, fault, byte, filled, collected}
use Rattle.wasm_bytes.specs.Numbers.{number32}
use Rattle.wasm_ops.specs.Shapes.{shape_within, initial_shape, named_blocks}
use Rattle.wasm_ops.specs.Operands.{operands}
use Rattle.wasm_code.specs.Locals.{runs, joined_runs}
use Rattle.wasm_ops.specs.declared.shapes.Shape.{Shape}
use Rattle.wasm_ops.specs.declared.ops.Op.{Op}
use Rattle.wasm_ops.specs.declared.ops.Op.TheVariants as ops
use Rattle.wasm_code.specs.declared.body.Body.{Body}

-- The open blocks are a list, of which the body is the first: true for an if that had no else yet.

-- the innermost block, the last, is closed
abbrev pub closed : List Bool → List Bool
closed labels = take (length labels - 1) labels

-- the open blocks after an operator
abbrev pub labels_after : Op → List Bool → List Bool
labels_after (ops.Plain code) labels = if code == 0x0B then closed labels else if code == 0x05 then closed labels ++ false ∷ [] else labels
labels_after (ops.Label code label) labels = if code == 0x18 then closed labels else labels
labels_after (ops.Block code ty) labels = labels ++ (code == 0x04) ∷ []
labels_after (ops.TryTable ty clauses) labels = labels ++ false ∷ []
labels_after _ labels = labels

-- what follows an opcode, a fault at place where it is none
abbrev pub known : Counts → ℕ → ℕ → ℕ → Option Shape → Input → Result (Op × Input) ℕ
known counts blocks place code None = fault place
known counts blocks place code (Some shape) = operands counts blocks code shape

-- one operator within these open blocks
unfoldable pub op : Counts → List Bool → Input → Result (Op × Input) ℕ
op counts labels s = followed (byte s) (λ code. known counts (named_blocks labels code) s.place code (shape_within labels code))

-- an operator and the blocks that are open after it, none where it closes the last one
unfoldable pub next_op : Counts → List Bool → Input → Result ((Option Op × List Bool) × Input) ℕ
next_op counts labels = do
  x ← op counts labels
  let after : List Bool = labels_after x labels in pure (if length after == 0 then None else Some x, after)

-- An operator is read that leaves the open blocks as they are, and it stands behind the others; or nothing is read.
abbrev pub ReadsOn : Bool → Counts → List Bool → Input → Input → List Op → List Op → Type 0
ReadsOn true counts labels from to before after = (x : Op) × (next_op counts labels from ≡ Ok ((Some x, labels), to)) × (after ≡ before ++ x ∷ [])
ReadsOn false counts labels from to before after = (to ≡ from) × (after ≡ before)

-- the operators of a body, up to the one that closes it
unfoldable pub expression : Counts → Input → Result (List Op × Input) ℕ
expression counts s = collected (length s.bytes) (next_op counts) (false ∷ []) s

-- an operator of an initial expression, none where it ends it
unfoldable pub next_initial : Counts → Unit {0} → Input → Result ((Option Op × Unit {0}) × Input) ℕ
next_initial counts _ s = followed (byte s) (λ code. if code == 0x0B then pure (None, tt) else (do
  x ← known counts 0 s.place code (initial_shape code)
  pure (Some x, tt)))

-- an initial expression, without the 0B that ends it
unfoldable pub initial : Counts → Input → Result (List Op × Input) ℕ
initial counts s = collected (length s.bytes) (next_initial counts) tt s

-- the runs of locals and the operators, in a function with so many parameters
unfoldable pub body : Counts → ℕ → Input → Result (Body × Input) ℕ
body counts params = do
  count ← number32
  rs ← runs count params
  xs ← expression (record counts { locals = params + sum_by (λ r. r.0) rs })
  pure (record { locals = joined_runs rs; ops = xs })

-- a body behind its length, of a function with so many parameters
unfoldable pub code_entry : Counts → ℕ → Input → Result (Body × Input) ℕ
code_entry counts params = do
  len ← number32
  filled len (body counts params)
