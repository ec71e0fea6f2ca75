-- Initial expressions that are read fit what they name.
use Rattle.std.proofs.Common.{◌≡◌, ℕ, zero, suc, ◌||◌, List, length, Option, Some, None, Result, refl, sym, subst, ◌∙◌, arith, inl, inr, eqb, if◌then◌else◌}
use Rattle.std.specs.Prelude.{◌⊎◌, ⊤}
use Rattle.std.specs.List.{AllByRecursion}
use Rattle.std.proofs.lemmas.Bool.{eqb-true, cases_Bool}
use Rattle.wasm_bytes.specs.declared.counts.Counts.{Counts}
use Rattle.wasm_bytes.specs.Reading.{Input, ◌>>=◌, pure, byte, collected, gathered}
use Rattle.wasm_bytes.specs.Reads.{Finds}
use Rattle.wasm_bytes.proofs.ReadFinds.{steps_of, finds_pure, finds_fault, finds_bind, finds_if, finds_weaker, finds_byte, finds_allowed, finds_raw, finds_number32, finds_signed32, finds_signed64}
use Rattle.wasm_ops.specs.Shapes.{among, initial_shape}
use Rattle.wasm_ops.specs.Operands.{const128, operands}
use Rattle.wasm_code.specs.Code.{known, next_initial, initial}
use Rattle.wasm_ops_laws.specs.Fits.{FitsInitial}
use Rattle.wasm_ops.specs.declared.shapes.Shape.{Shape}
use Rattle.wasm_ops.specs.declared.shapes.Shape.TheVariants as shapes
use Rattle.wasm_ops.specs.declared.ops.Op.{Op}
use Rattle.wasm_ops.specs.declared.ops.Op.TheVariants as ops
use Rattle.wasm_ops_laws.proofs.OpFinds.{func_found, global_found, ref_type_found}
use Rattle.wasm_ops_laws.proofs.CodeFinds.{finds_gathered, same_some}

-- the shapes that can stand in an initial expression
abbrev OnlyInitial : Option Shape → Type 0
OnlyInitial None = ⊤
OnlyInitial (Some shapes.Plain) = ⊤
OnlyInitial (Some shapes.Func) = ⊤
OnlyInitial (Some shapes.Global) = ⊤
OnlyInitial (Some shapes.Const32) = ⊤
OnlyInitial (Some shapes.Const64) = ⊤
OnlyInitial (Some shapes.Raw4) = ⊤
OnlyInitial (Some shapes.Raw8) = ⊤
OnlyInitial (Some shapes.RefNull) = ⊤
OnlyInitial (Some shapes.Const128) = ⊤
OnlyInitial (Some _) = ⊥

only_initial : (code : ℕ) → OnlyInitial (initial_shape code)
only_initial code = elim (cases_Bool (among 0x6A 0x6C code || among 0x7C 0x7E code)) [
  | inl is ↦ rw is tt
  | inr not ↦ rw not (elim (cases_Bool (eqb code 0x23)) [
    | inl is ↦ rw is tt
    | inr not ↦ rw not (elim (cases_Bool (eqb code 0x41)) [
      | inl is ↦ rw is tt
      | inr not ↦ rw not (elim (cases_Bool (eqb code 0x42)) [
        | inl is ↦ rw is tt
        | inr not ↦ rw not (elim (cases_Bool (eqb code 0x43)) [
          | inl is ↦ rw is tt
          | inr not ↦ rw not (elim (cases_Bool (eqb code 0x44)) [
            | inl is ↦ rw is tt
            | inr not ↦ rw not (elim (cases_Bool (eqb code 0xD0)) [
              | inl is ↦ rw is tt
              | inr not ↦ rw not (elim (cases_Bool (eqb code 0xD2)) [
                | inl is ↦ rw is tt
                | inr not ↦ rw not (elim (cases_Bool (eqb code 0xFD)) [
                  | inl is ↦ rw is tt
                  | inr not ↦ rw not (tt)
                ])
              ])
            ])
          ])
        ])
      ])
    ])
  ])
]

operands_found : (counts : Counts) (code : ℕ) (shape : Shape) → OnlyInitial (Some shape) → initial_shape code ≡ Some shape → Finds (operands counts 0 code shape) (FitsInitial counts)
unfolding operands const128
operands_found counts code shapes.Plain only is = finds_pure (ops.Plain code) is
operands_found counts code shapes.Func only is = finds_bind (func_found counts) (λ func f. finds_pure (ops.Func code func) (is, f))
operands_found counts code shapes.Global only is = finds_bind (global_found counts) (λ global g. finds_pure (ops.Global code global) (is, g))
operands_found counts code shapes.Const32 only is = finds_bind finds_signed32 (λ n h. finds_pure (ops.Const32 n) h)
operands_found counts code shapes.Const64 only is = finds_bind finds_signed64 (λ n h. finds_pure (ops.Const64 n) h)
operands_found counts code shapes.Raw4 only is = finds_bind (finds_raw 4) (λ bytes b. finds_pure (ops.Raw4 bytes) b.0)
operands_found counts code shapes.Raw8 only is = finds_bind (finds_raw 8) (λ bytes b. finds_pure (ops.Raw8 bytes) b.0)
operands_found counts code shapes.RefNull only is = finds_bind ref_type_found (λ ty t. finds_pure (ops.RefNull ty) t)
operands_found counts code shapes.Const128 only is = finds_bind (finds_allowed (λ n. eqb n 12) finds_number32) (λ n h. finds_bind (finds_raw 16) (λ bytes b. finds_pure (ops.SimdBytes n bytes) (eqb-true n 12 h.1, b.0)))
operands_found counts code _ only is = absurd only

known_found : (counts : Counts) (place code : ℕ) (shape : Option Shape) → OnlyInitial shape → initial_shape code ≡ shape → Finds (known counts 0 place code shape) (FitsInitial counts)
known_found counts place code None only is = finds_fault place
known_found counts place code (Some shape) only is = operands_found counts code shape only is

-- what a step gives: the end, or an operator that fits
abbrev IsStep : Counts → Option Op × Unit {0} → Type 0
IsStep counts r = (r.0 ≡ None) ⊎ ((x : Op) × (r.0 ≡ Some x) × FitsInitial counts x)

step_at : (counts : Counts) (place code : ℕ) → Finds (if eqb code 0x0B then pure (None, tt) else (known counts 0 place code (initial_shape code) >>= (λ x. pure (Some x, tt)))) (IsStep counts)
step_at counts place code = finds_if (eqb code 0x0B)
    (λ _. finds_pure (None, tt) (inl refl))
    (λ _. finds_bind (known_found counts place code (initial_shape code) (only_initial code) refl) (λ x h. finds_pure (Some x, tt) (inr (x, refl, h))))

step_found : (counts : Counts) (state : Unit {0}) → Finds (next_initial counts state) (IsStep counts)
unfolding next_initial
step_found counts state = record {
  found = λ s t r bytes is.
      let p = steps_of (byte s) (λ code. if eqb code 0x0B then pure (None, tt) else (known counts 0 s.place code (initial_shape code) >>= (λ x. pure (Some x, tt)))) r t is in
      let b = finds_byte.found s p.1 p.0 bytes p.2 in
      (step_at counts s.place p.0).found p.1 t r b.1 p.3;
}

more_found : (counts : Counts) (r : Option Op × Unit {0}) (others : Input → Result (List Op × Input) ℕ) → IsStep counts r → Finds others (AllByRecursion (FitsInitial counts)) → Finds (gathered r.0 others) (AllByRecursion (FitsInitial counts))
more_found counts r others (inl end) h = finds_gathered r.0 (λ _. tt) (λ y is. absurd (let e : None ≡ Some y = sym end ∙ is in grind (arith, e)))
more_found counts r others (inr step) h = finds_gathered r.0 (λ _. tt) (λ y is.
    let same : step.0 ≡ y = same_some step.0 y (sym step.1 ∙ is) in
    finds_weaker h (λ ys fits. (subst (FitsInitial counts) same step.2, fits)))

all_found : (counts : Counts) (n : ℕ) (state : Unit {0}) → Finds (collected n (next_initial counts) state) (AllByRecursion (FitsInitial counts))
unfolding collected
all_found counts zero state = record { found = λ s t xs bytes is. absurd (grind (arith, is)) }
all_found counts (suc n) state = finds_bind (step_found counts state) (λ r h. more_found counts r (collected n (next_initial counts) r.1) h (all_found counts n r.1))

pub initial_found : (counts : Counts) → Finds (initial counts) (AllByRecursion (FitsInitial counts))
unfolding initial
initial_found counts = record { found = λ s t xs bytes is. (all_found counts (length s.bytes) tt).found s t xs bytes is }
