-- An initial expression that is written is read again.
use Rattle.std.proofs.Common.{◌≡◌, ℕ, ◌+◌, ◌<◌, false, List, [], ◌∷◌, ◌++◌, length, Some, None, refl, sym, subst, append_assoc, arith, eqb}
use Rattle.std.specs.List.{flat_map, AllByRecursion}
use Rattle.std.proofs.lemmas.Bool.{ne_eqb, eq-eqb}
use Rattle.std.proofs.lemmas.List.{length-append}
use Rattle.wasm_bytes.specs.declared.counts.Counts.{Counts}
use Rattle.wasm_bytes.specs.Reads.{Reads}
use Rattle.wasm_bytes.proofs.ReadAgain.{reads_pure, reads_bind, reads_end, reads_allowed, reads_raw, number32_again, signed32_again, signed64_again}
use Rattle.wasm_ops.specs.declared.shapes.Shape.{Shape}
use Rattle.wasm_ops.specs.declared.shapes.Shape.TheVariants as shapes
use Rattle.wasm_ops.specs.declared.ops.Op.{Op}
use Rattle.wasm_ops.specs.declared.ops.Op.TheVariants as ops
use Rattle.wasm_ops.specs.Shapes.{initial_shape}
use Rattle.wasm_ops.specs.Operands.{operands, const128}
use Rattle.wasm_code.specs.Code.{next_initial, initial}
use Rattle.wasm_ops.specs.Spelling.{op_bytes}
use Rattle.wasm_code.specs.Spelling.{expression_bytes}
use Rattle.wasm_ops_laws.specs.Fits.{FitsInitial}
use Rattle.wasm_ops_laws.proofs.OpAgain.{func_again, global_again, ref_type_again}
use Rattle.wasm_ops_laws.proofs.CodeAgain.{AreRead, are_end, are_more}

-- the operator that ends an initial expression has no shape there
isn't_end : (code : ℕ) (shape : Shape) → initial_shape code ≡ Some shape → eqb code 0x0B ≡ false
isn't_end code shape is = ne_eqb code 0x0B (λ e. let never : initial_shape 0x0B ≡ Some shape = subst (λ code. initial_shape code ≡ Some shape) e is in absurd (grind (arith, never)))

initial_with : (counts : Counts) (code : ℕ) (shape : Shape) (bytes : List ℕ) (x : Op) → initial_shape code ≡ Some shape → Reads (operands counts 0 code shape) bytes x → Reads (next_initial counts tt) (code ∷ bytes) (Some x, tt)
unfolding next_initial
initial_with counts code shape bytes x is h = record { again = λ place rest. let p = h.again (place + 1) rest in (p.0, rw (isn't_end code shape is, is, p.1) refl) }

initial_end : (counts : Counts) → Reads (next_initial counts tt) (0x0B ∷ []) (None, tt)
unfolding next_initial
initial_end counts = record { again = λ place rest. (place + 1, refl) }

initial_op_again : (counts : Counts) (x : Op) → FitsInitial counts x → Reads (next_initial counts tt) (op_bytes x) (Some x, tt)
unfolding op_bytes operands const128
initial_op_again counts (ops.Plain code) h = initial_with counts code shapes.Plain [] _ h (reads_pure (ops.Plain code))
initial_op_again counts (ops.Func code func) h = initial_with counts code shapes.Func _ _ h.0 (reads_end (λ func. ops.Func code func) (func_again counts func h.1))
initial_op_again counts (ops.Global code global) h = initial_with counts code shapes.Global _ _ h.0 (reads_end (λ global. ops.Global code global) (global_again counts global h.1))
initial_op_again counts (ops.Const32 n) h = initial_with counts 0x41 shapes.Const32 _ _ refl (reads_end (λ n. ops.Const32 n) (signed32_again n h))
initial_op_again counts (ops.Const64 n) h = initial_with counts 0x42 shapes.Const64 _ _ refl (reads_end (λ n. ops.Const64 n) (signed64_again n h))
initial_op_again counts (ops.Raw4 bytes) h = initial_with counts 0x43 shapes.Raw4 _ _ refl (reads_end (λ bytes. ops.Raw4 bytes) (reads_raw 4 bytes h))
initial_op_again counts (ops.Raw8 bytes) h = initial_with counts 0x44 shapes.Raw8 _ _ refl (reads_end (λ bytes. ops.Raw8 bytes) (reads_raw 8 bytes h))
initial_op_again counts (ops.RefNull ty) h = initial_with counts 0xD0 shapes.RefNull _ _ refl (reads_end (λ ty. ops.RefNull ty) (ref_type_again ty h))
initial_op_again counts (ops.SimdBytes code bytes) h = initial_with counts 0xFD shapes.Const128 _ _ refl
    (reads_bind _ (reads_allowed (λ n. eqb n 12) (number32_again code (omega (arith, h.0))) (eq-eqb code 12 h.0)) (reads_end (λ bytes. ops.SimdBytes code bytes) (reads_raw 16 bytes h.1)))
initial_op_again counts _ h = absurd h

some_initial : (counts : Counts) (bytes : List ℕ) (x : Op) → Reads (next_initial counts tt) bytes (Some x, tt) → 0 < length bytes
unfolding next_initial
some_initial counts [] x h = let p = h.again 0 [] in let e = p.1 in absurd (grind (arith, e))
some_initial counts (b ∷ bytes) x h = omega arith

all_at : (counts : Counts) (xs : List Op) → AllByRecursion (FitsInitial counts) xs → AreRead (next_initial counts) tt xs (flat_map op_bytes xs ++ 0x0B ∷ [])
all_at counts [] h = are_end (next_initial counts) tt tt (0x0B ∷ []) (omega arith) (initial_end counts)
all_at counts (x ∷ xs) h =
    let read = initial_op_again counts x h.0 in
    subst (λ bytes. AreRead (next_initial counts) tt (x ∷ xs) bytes) (sym (append_assoc (op_bytes x) (flat_map op_bytes xs) (0x0B ∷ [])))
    (are_more (next_initial counts) tt tt x xs (op_bytes x) (flat_map op_bytes xs ++ 0x0B ∷ []) (some_initial counts (op_bytes x) x read) read (all_at counts xs h.1))

pub initial_again : (counts : Counts) (xs : List Op) → AllByRecursion (FitsInitial counts) xs → Reads (initial counts) (expression_bytes xs) xs
unfolding initial expression_bytes
initial_again counts xs h =
    let bytes : List ℕ = flat_map op_bytes xs ++ 0x0B ∷ [] in
    record { again = λ place rest. all_at counts xs h (length (bytes ++ rest)) (omega (arith, length-append bytes rest)) place rest }
