-- Operators up to the end of a body, and a body, that are written are read again.
use Rattle.std.proofs.Common.{◌≡◌, ℕ, zero, suc, ◌+◌, ◌<◌, ◌≤◌, Bool, false, List, [], ◌∷◌, ◌++◌, length, Option, Some, None, Result, Ok, refl, sym, ap, subst, append_assoc, arith, leb, ◌==◌, if◌then◌else◌}
use Rattle.std.specs.List.{flat_map, sum_by}
use Rattle.std.proofs.lemmas.Bool.{le-leb, ne_eqb}
use Rattle.std.proofs.lemmas.List.{length-append}
use Rattle.std.proofs.lemmas.List.Sums.{sum_by-cons}
use Rattle.wasm_bytes.specs.declared.counts.Counts.{Counts}
use Rattle.wasm_bytes.specs.Reading.{Input, collected}
use Rattle.wasm_bytes.specs.Numbers.{number_bytes}
use Rattle.wasm_bytes.specs.Spelling.{list_bytes, framed_bytes}
use Rattle.wasm_bytes.specs.Reads.{Reads}
use Rattle.wasm_bytes.proofs.ReadAgain.{reads_pure, reads_bind, reads_end, reads_allowed, reads_filled, number32_again}
use Rattle.wasm_types.specs.declared.types.ValType.{ValType}
use Rattle.wasm_ops.specs.declared.shapes.Shape.TheVariants as shapes
use Rattle.wasm_ops.specs.declared.ops.Op.{Op}
use Rattle.wasm_ops.specs.declared.ops.Op.TheVariants as ops
use Rattle.wasm_code.specs.declared.body.Body.{Body}
use Rattle.wasm_ops.specs.Operands.{operands}
use Rattle.wasm_code.specs.Locals.{Runs, run, runs, most_locals, joined_runs}
use Rattle.wasm_code.specs.Code.{op, labels_after, next_op, expression, body, code_entry}
use Rattle.wasm_types.specs.Spelling.{val_type_bytes}
use Rattle.wasm_ops.specs.Spelling.{op_bytes}
use Rattle.wasm_code.specs.Spelling.{expression_bytes, run_bytes, body_bytes, code_bytes}
use Rattle.wasm_ops_laws.specs.Fits.{FitsOp, FitsOps, FitsBody, IsShort, joined_body}
use Rattle.wasm_ops_laws.proofs.JoinedAgain.{joined_runs_again, sum_of_joined_runs, few_runs}
use Rattle.wasm_types.proofs.TypesAgain.{val_type_again}
use Rattle.wasm_ops_laws.proofs.OpAgain.{op_with, op_again}

-- ---- operators up to the end

next_end : (counts : Counts) (b : Bool) → Reads (next_op counts (b ∷ [])) (0x0B ∷ []) (None, [])
unfolding next_op operands
next_end counts b = reads_end (λ x. (if length (labels_after x (b ∷ [])) == 0 then None else Some x, labels_after x (b ∷ []))) (op_with counts (b ∷ []) 0x0B shapes.Plain [] (ops.Plain 0x0B) refl (reads_pure (ops.Plain 0x0B)))

next_some : (counts : Counts) (blocks : List Bool) (x : Op) → FitsOp counts blocks x → 0 < length (labels_after x blocks) → Reads (next_op counts blocks) (op_bytes x) (Some x, labels_after x blocks)
unfolding next_op
next_some counts blocks x fits some =
    let after : List Bool = labels_after x blocks in
    let is : (if length after == 0 then None else Some x) ≡ Some x = ap (λ t. if t then None else Some x) (ne_eqb (length after) 0 (omega (arith, some))) in
    subst (λ found. Reads (next_op counts blocks) (op_bytes x) (found, after)) is (reads_end (λ x. (if length (labels_after x blocks) == 0 then None else Some x, labels_after x blocks)) (op_again counts blocks x fits))

-- what is read as an operator isn't empty
some_bytes : (counts : Counts) (blocks : List Bool) (bytes : List ℕ) (x : Op) → Reads (op counts blocks) bytes x → 0 < length bytes
unfolding op
some_bytes counts blocks [] x h = let p = h.again 0 [] in let e = p.1 in absurd (grind (arith, e))
some_bytes counts blocks (b ∷ bytes) x h = omega arith

-- The bytes are read, step by step, as these, up to a step that ends them.
abbrev pub AreRead : {S : Type 0} → (S → Input → Result ((Option Op × S) × Input) ℕ) → S → List Op → List ℕ → Type 0
AreRead step state xs bytes = (n : ℕ) → length bytes ≤ n → (place : ℕ) (rest : List ℕ) → (after : ℕ) × (collected n step state (record { place = place; bytes = bytes ++ rest }) ≡ Ok (xs, record { place = after; bytes = rest }))

pub are_end : {S : Type 0} (step : S → Input → Result ((Option Op × S) × Input) ℕ) (state next : S) (bytes : List ℕ) → 0 < length bytes → Reads (step state) bytes (None, next) → AreRead step state [] bytes
unfolding collected
are_end step state next bytes some h zero le place rest = absurd (omega (arith, le, some))
are_end step state next bytes some h (suc n) le place rest = let p = h.again place rest in (p.0, rw p.1 refl)

pub are_more : {S : Type 0} (step : S → Input → Result ((Option Op × S) × Input) ℕ) (state next : S) (x : Op) (xs : List Op) (first bytes : List ℕ) → 0 < length first → Reads (step state) first (Some x, next) → AreRead step next xs bytes → AreRead step state (x ∷ xs) (first ++ bytes)
unfolding collected
are_more step state next x xs first bytes some h others zero le place rest = absurd (omega (arith, le, some, length-append first bytes))
are_more step state next x xs first bytes some h others (suc n) le place rest =
    let p = h.again place (bytes ++ rest) in
    let q = others n (omega (arith, le, some, length-append first bytes)) p.0 rest in
    (q.0, rw (append_assoc first bytes rest, p.1, q.1) refl)

ends_at : (counts : Counts) (blocks : List Bool) → length blocks ≡ 1 → AreRead (next_op counts) blocks [] (0x0B ∷ [])
ends_at counts [] is = absurd (omega (arith, is))
ends_at counts (b ∷ c ∷ blocks) is = absurd (omega (arith, is))
ends_at counts (b ∷ []) is = are_end (next_op counts) (b ∷ []) [] (0x0B ∷ []) (omega arith) (next_end counts b)

all_at : (counts : Counts) (blocks : List Bool) (xs : List Op) → FitsOps counts blocks xs → AreRead (next_op counts) blocks xs (flat_map op_bytes xs ++ 0x0B ∷ [])
all_at counts blocks [] h = ends_at counts blocks h
all_at counts blocks (x ∷ xs) h =
    let bytes : List ℕ = flat_map op_bytes xs ++ 0x0B ∷ [] in
    let some : 0 < length (op_bytes x) = some_bytes counts blocks (op_bytes x) x (op_again counts blocks x h.0) in
    subst (λ bytes. AreRead (next_op counts) blocks (x ∷ xs) bytes) (sym (append_assoc (op_bytes x) (flat_map op_bytes xs) (0x0B ∷ [])))
    (are_more (next_op counts) blocks (labels_after x blocks) x xs (op_bytes x) bytes some (next_some counts blocks x h.0 h.1) (all_at counts (labels_after x blocks) xs h.2))

pub expression_again : (counts : Counts) (xs : List Op) → FitsOps counts (false ∷ []) xs → Reads (expression counts) (expression_bytes xs) xs
unfolding expression expression_bytes
expression_again counts xs h =
    let bytes : List ℕ = flat_map op_bytes xs ++ 0x0B ∷ [] in
    record { again = λ place rest. all_at counts (false ∷ []) xs h (length (bytes ++ rest)) (omega (arith, length-append bytes rest)) place rest }

-- ---- locals

run_again : (before : ℕ) (r : ℕ × ValType) → before + r.0 ≤ most_locals → Reads (run before) (run_bytes r) r
unfolding run run_bytes val_type_bytes
run_again before r few = reads_bind _ (reads_allowed (λ n. leb (before + n) most_locals) (number32_again r.0 (omega (arith, few))) (le-leb (before + r.0) most_locals few)) (reads_end (λ ty. (r.0, ty)) (val_type_again r.1))

runs_again : (before : ℕ) (rs : Runs) → before + sum_by (λ r. r.0) rs ≤ most_locals → Reads (runs (length rs) before) (flat_map run_bytes rs) rs
unfolding runs
runs_again before [] few = reads_pure []
runs_again before (r ∷ rs) few = reads_bind _ (run_again before r (omega (arith, few, sum_by-cons (λ r. r.0) r rs))) (reads_end (λ rs. r ∷ rs) (runs_again (before + r.0) rs (omega (arith, few, sum_by-cons (λ r. r.0) r rs))))

-- ---- bodies

body_again : (counts : Counts) (params : ℕ) (b : Body) → FitsBody counts params b → Reads (body counts params) (body_bytes b) (joined_body b)
unfolding body body_bytes list_bytes
body_again counts params b h =
    let rs : Runs = joined_runs b.locals in
    let same : sum_by (λ r. r.0) rs ≡ sum_by (λ r. r.0) b.locals = sum_of_joined_runs b.locals in
    let fits : FitsOps (record counts { locals = params + sum_by (λ r. r.0) rs }) (false ∷ []) b.ops = subst (λ n. FitsOps (record counts { locals = params + n }) (false ∷ []) b.ops) (sym same) h.code in
    let front : List ℕ = number_bytes (length rs) in
    let middle : List ℕ = flat_map run_bytes rs in
    let read : Reads (body counts params) (front ++ (middle ++ expression_bytes b.ops)) (record { locals = joined_runs rs; ops = b.ops }) =
    reads_bind _ (number32_again (length rs) (omega (arith, h.few, same, few_runs b.locals)))
    (reads_bind _ (runs_again params rs (omega (arith, h.few, same)))
    (reads_end (λ xs. record { locals = joined_runs rs; ops = xs }) (expression_again (record counts { locals = params + sum_by (λ r. r.0) rs }) b.ops fits))) in
    let as_written : Reads (body counts params) ((front ++ middle) ++ expression_bytes b.ops) (record { locals = joined_runs rs; ops = b.ops }) =
    subst (λ bytes. Reads (body counts params) bytes (record { locals = joined_runs rs; ops = b.ops })) (sym (append_assoc front middle (expression_bytes b.ops))) read in
    subst (λ rs. Reads (body counts params) ((front ++ middle) ++ expression_bytes b.ops) (record { locals = rs; ops = b.ops })) (joined_runs_again b.locals) as_written

pub code_again : (counts : Counts) (params : ℕ) (b : Body) → FitsBody counts params b → IsShort b → Reads (code_entry counts params) (code_bytes b) (joined_body b)
unfolding code_entry code_bytes framed_bytes
code_again counts params b h short = reads_bind _ (number32_again (length (body_bytes b)) short) (reads_filled (body_again counts params b h))
