-- Bodies and initial expressions that are read fit what they name.
use Rattle.std.proofs.Common.{◌≡◌, ℕ, zero, suc, ◌+◌, ◌-◌, ◌<◌, ◌≤◌, Bool, false, List, [], ◌∷◌, ◌++◌, length, Option, Some, None, Result, refl, sym, ap, subst, ◌∙◌, arith, inl, inr, leb, eqb}
use Rattle.std.specs.Prelude.{◌⊎◌}
use Rattle.std.specs.List.{sum_by}
use Rattle.std.proofs.lemmas.Bool.{leb-true, eqb-true, eqb-false, cases_Bool}
use Rattle.std.proofs.lemmas.List.{length-append, length-take-le}
use Rattle.std.proofs.lemmas.List.Sums.{sum_by-cons}
use Rattle.wasm_bytes.specs.declared.counts.Counts.{Counts}
use Rattle.wasm_bytes.specs.Reading.{Input, collected, gathered}
use Rattle.wasm_bytes.specs.Reads.{Finds}
use Rattle.wasm_bytes.proofs.ReadFinds.{finds_pure, finds_bind, finds_weaker, finds_allowed, finds_filled, finds_number32}
use Rattle.wasm_code.specs.Locals.{run, runs, most_locals, joined_runs}
use Rattle.wasm_code.specs.Code.{closed, labels_after, next_op, expression, body, code_entry}
use Rattle.wasm_ops_laws.specs.Fits.{FitsOp, FitsOps, IsReadBody}
use Rattle.wasm_ops.specs.declared.ops.Op.{Op}
use Rattle.wasm_ops.specs.declared.ops.Op.TheVariants as ops
use Rattle.wasm_ops_laws.proofs.JoinedAgain.{joined_runs_again, sum_of_joined_runs}
use Rattle.wasm_ops_laws.proofs.OpFinds.{op_found, val_type_found}

-- ---- up to the end

pub finds_gathered : {A : Type 0} {P : List A → Type 0} {others : Input → Result (List A × Input) ℕ} (x : Option A) → (x ≡ None → P []) → ((y : A) → x ≡ Some y → Finds others (λ ys. P (y ∷ ys))) → Finds (gathered x others) P
finds_gathered None ends more = finds_pure [] (ends refl)
finds_gathered (Some y) ends more = finds_bind (more y refl) (λ ys p. finds_pure (y ∷ ys) p)

-- closing the last block
closes : (x : Op) (blocks : List Bool) → 0 < length blocks → length (labels_after x blocks) ≡ 0 → length blocks ≡ 1
closes (ops.Plain code) blocks some none = elim (cases_Bool (eqb code 0x0B)) [
  | inl is ↦
      let left : length (closed blocks) ≡ 0 = rw is at none in
      omega (arith, some, left, length-take-le (length blocks - 1) blocks (omega arith))
  | inr not ↦ elim (cases_Bool (eqb code 0x05)) [
    | inl is ↦ let left : length (closed blocks ++ false ∷ []) ≡ 0 = rw (not, is) at none in absurd (omega (arith, left, length-append (closed blocks) (false ∷ [])))
    | inr other ↦ let left : length blocks ≡ 0 = rw (not, other) at none in absurd (omega (arith, left, some))
  ]
]
closes (ops.Label code label) blocks some none = elim (cases_Bool (eqb code 0x18)) [
  | inl is ↦
      let left : length (closed blocks) ≡ 0 = rw is at none in
      omega (arith, some, left, length-take-le (length blocks - 1) blocks (omega arith))
  | inr not ↦ let left : length blocks ≡ 0 = rw not at none in absurd (omega (arith, left, some))
]
closes (ops.Block code ty) blocks some none = absurd (omega (arith, none, length-append blocks ((eqb code 0x04) ∷ [])))
closes (ops.TryTable ty clauses) blocks some none = absurd (omega (arith, none, length-append blocks (false ∷ [])))
closes _ blocks some none = absurd (omega (arith, none, some))

-- what a step gives: the end of the last block, or an operator that fits and the blocks after it
abbrev IsStep : Counts → List Bool → Option Op × List Bool → Type 0
IsStep counts blocks r = ((r.0 ≡ None) × (length blocks ≡ 1)) ⊎ ((x : Op) × (r.0 ≡ Some x) × FitsOp counts blocks x × (r.1 ≡ labels_after x blocks) × (0 < length (labels_after x blocks)))

step_found : (counts : Counts) (blocks : List Bool) → 0 < length blocks → Finds (next_op counts blocks) (IsStep counts blocks)
unfolding next_op
step_found counts blocks some = finds_bind (op_found counts blocks) (λ x h. elim (cases_Bool (eqb (length (labels_after x blocks)) 0)) [
  | inl none ↦ rw none (finds_pure (None, labels_after x blocks) (inl (refl, closes x blocks some (eqb-true (length (labels_after x blocks)) 0 none))))
  | inr left ↦ let not = eqb-false (length (labels_after x blocks)) 0 left in rw left (finds_pure (Some x, labels_after x blocks) (inr (x, refl, h, refl, omega (arith, not))))
])

pub same_some : {A : Type 0} (x y : A) → Some x ≡ Some y → x ≡ y
same_some x y h = ap (λ o. elim o as (λ _. _) [ Some z ↦ z | None ↦ x ]) h

more_found : (counts : Counts) (blocks : List Bool) (r : Option Op × List Bool) (others : Input → Result (List Op × Input) ℕ) → IsStep counts blocks r → ((0 < length r.1) → Finds others (FitsOps counts r.1)) → Finds (gathered r.0 others) (FitsOps counts blocks)
more_found counts blocks r others (inl end) h = finds_gathered r.0 (λ _. end.1) (λ y is. absurd (let e : None ≡ Some y = sym end.0 ∙ is in grind (arith, e)))
more_found counts blocks r others (inr step) h = finds_gathered r.0
    (λ is. absurd (let e : Some step.0 ≡ None = sym step.1 ∙ is in grind (arith, e)))
    (λ y is.
    let same : step.0 ≡ y = same_some step.0 y (sym step.1 ∙ is) in
    let left : 0 < length r.1 = rw step.3 step.4 in
    finds_weaker (h left) (λ ys fits. subst (λ y. FitsOps counts blocks (y ∷ ys)) same (step.2, step.4, subst (λ after. FitsOps counts after ys) step.3 fits)))

all_found : (counts : Counts) (n : ℕ) (blocks : List Bool) → 0 < length blocks → Finds (collected n (next_op counts) blocks) (FitsOps counts blocks)
unfolding collected
all_found counts zero blocks some = record { found = λ s t xs bytes is. absurd (grind (arith, is)) }
all_found counts (suc n) blocks some = finds_bind (step_found counts blocks some) (λ r h. more_found counts blocks r (collected n (next_op counts) r.1) h (λ left. all_found counts n r.1 left))

pub expression_found : (counts : Counts) → Finds (expression counts) (FitsOps counts (false ∷ []))
unfolding expression
expression_found counts = record { found = λ s t xs bytes is. (all_found counts (length s.bytes) (false ∷ []) (omega arith)).found s t xs bytes is }

-- ---- locals and bodies

run_found : (before : ℕ) → Finds (run before) (λ r. before + r.0 ≤ most_locals)
unfolding run
run_found before = finds_bind (finds_allowed (λ n. leb (before + n) most_locals) finds_number32) (λ count h. finds_bind val_type_found (λ ty _. finds_pure (count, ty) (leb-true (before + count) most_locals h.1)))

runs_found : (n before : ℕ) → before ≤ most_locals → Finds (runs n before) (λ rs. before + sum_by (λ r. r.0) rs ≤ most_locals)
unfolding runs
runs_found zero before few = finds_pure [] (omega (arith, few))
runs_found (suc n) before few = finds_bind (run_found before) (λ r h. finds_bind (runs_found n (before + r.0) h) (λ rs all. finds_pure (r ∷ rs) (omega (arith, all, sum_by-cons (λ r. r.0) r rs))))

body_found : (counts : Counts) (params : ℕ) → params ≤ most_locals → Finds (body counts params) (IsReadBody counts params)
unfolding body
body_found counts params few = finds_bind finds_number32 (λ n _. finds_bind (runs_found n params few) (λ rs all. finds_bind (expression_found (record counts { locals = params + sum_by (λ r. r.0) rs })) (λ xs fits.
    let same = sum_of_joined_runs rs in
    finds_pure (record { locals = joined_runs rs; ops = xs }) (record {
      fits = record {
        few = omega (arith, same, all);
        code = subst (λ n. FitsOps (record counts { locals = params + n }) (false ∷ []) xs) (sym same) fits;
      };
      joined = joined_runs_again rs;
    }))))

pub code_found : (counts : Counts) (params : ℕ) → params ≤ most_locals → Finds (code_entry counts params) (IsReadBody counts params)
unfolding code_entry
code_found counts params few = finds_bind finds_number32 (λ n _. finds_filled n (body_found counts params few))
