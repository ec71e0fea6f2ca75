-- Operators that are kept as they are written.
use Rattle.std.proofs.Common.{◌≡◌, ℕ, true, List, [], ◌∷◌, ◌++◌, Some, None, refl, ap, sym, append_assoc, ◌∙◌, arith}
use Rattle.std.specs.Prelude.{ℤ}
use Rattle.std.specs.List.{flat_map, AllByRecursion}
use Rattle.std.proofs.lemmas.Grind.{flat_map-append}
use Rattle.wasm_ops.specs.declared.ops.Op.{Op}
use Rattle.wasm_ops.specs.declared.ops.Op.TheVariants as ops
use Rattle.wasm_ops.specs.declared.ops.Numbering.{Numbering}
use Rattle.wasm_ops.specs.Numbers.{renumbered_op}
use Rattle.wasm_types.specs.declared.types.ValType.{ValType}
use Rattle.wasm_types.specs.Spelling.{val_type_bytes}
use Rattle.wasm_ops.specs.Spelling.{op_bytes}
use Rattle.packed_ops.specs.Packed.{spelled_bytes, is_spelled, Passes, IsNextOther}
use Rattle.wasm_ops.proofs.Written.{all_more, walked_more, walked_all}

-- what is to be shown of operators that are kept as they are written
pub record OfSpelled (P : Op → Type 0) : Type 0 where
  pub plain : (code : ℕ) → P (ops.Plain code)
  pub label : (code label : ℕ) → P (ops.Label code label)
  pub local : (code local : ℕ) → P (ops.Local code local)
  pub const32 : (n : ℤ) → P (ops.Const32 n)
  pub const64 : (n : ℤ) → P (ops.Const64 n)
  pub raw4 : (bytes : List ℕ) → P (ops.Raw4 bytes)
  pub raw8 : (bytes : List ℕ) → P (ops.Raw8 bytes)
  pub ref_null : (ty : ValType) → P (ops.RefNull ty)
  pub fc_plain : (code : ℕ) → P (ops.FcPlain code)
  pub simd : (code : ℕ) → P (ops.Simd code)
  pub simd_bytes : (code : ℕ) (bytes : List ℕ) → P (ops.SimdBytes code bytes)
  pub simd_lane : (code lane : ℕ) → P (ops.SimdLane code lane)

-- It holds of each of them.
pub by_spelled : (P : Op → Type 0) → OfSpelled P → (x : Op) → is_spelled x ≡ true → P x
by_spelled P h (ops.Plain code) is = h.plain code
by_spelled P h (ops.Label code label) is = h.label code label
by_spelled P h (ops.Local code local) is = h.local code local
by_spelled P h (ops.Const32 n) is = h.const32 n
by_spelled P h (ops.Const64 n) is = h.const64 n
by_spelled P h (ops.Raw4 bytes) is = h.raw4 bytes
by_spelled P h (ops.Raw8 bytes) is = h.raw8 bytes
by_spelled P h (ops.RefNull ty) is = h.ref_null ty
by_spelled P h (ops.FcPlain code) is = h.fc_plain code
by_spelled P h (ops.Simd code) is = h.simd code
by_spelled P h (ops.SimdBytes code bytes) is = h.simd_bytes code bytes
by_spelled P h (ops.SimdLane code lane) is = h.simd_lane code lane
by_spelled P h (ops.Block code ty) is = absurd (grind (arith, is))
by_spelled P h (ops.Tag code tag) is = absurd (grind (arith, is))
by_spelled P h (ops.BrTable labels label) is = absurd (grind (arith, is))
by_spelled P h (ops.Func code func) is = absurd (grind (arith, is))
by_spelled P h (ops.Indirect code ty table) is = absurd (grind (arith, is))
by_spelled P h (ops.Select types) is = absurd (grind (arith, is))
by_spelled P h (ops.TryTable ty clauses) is = absurd (grind (arith, is))
by_spelled P h (ops.Global code global) is = absurd (grind (arith, is))
by_spelled P h (ops.Table code table) is = absurd (grind (arith, is))
by_spelled P h (ops.Mem code arg) is = absurd (grind (arith, is))
by_spelled P h (ops.Memory code memory) is = absurd (grind (arith, is))
by_spelled P h (ops.MemoryInit segment memory) is = absurd (grind (arith, is))
by_spelled P h (ops.DataDrop segment) is = absurd (grind (arith, is))
by_spelled P h (ops.MemoryCopy to from) is = absurd (grind (arith, is))
by_spelled P h (ops.MemoryFill memory) is = absurd (grind (arith, is))
by_spelled P h (ops.TableInit elem table) is = absurd (grind (arith, is))
by_spelled P h (ops.ElemDrop elem) is = absurd (grind (arith, is))
by_spelled P h (ops.TableCopy to from) is = absurd (grind (arith, is))
by_spelled P h (ops.FcTable code table) is = absurd (grind (arith, is))
by_spelled P h (ops.SimdMem code arg) is = absurd (grind (arith, is))
by_spelled P h (ops.SimdMemLane code arg lane) is = absurd (grind (arith, is))

-- The bytes of such an operator are those that are written, whatever the numbers of entries are.
pub spelled_as : (numbers : Numbering) (x : Op) → is_spelled x ≡ true → op_bytes (renumbered_op numbers x) ≡ spelled_bytes x
unfolding renumbered_op op_bytes spelled_bytes val_type_bytes
spelled_as numbers = by_spelled (λ x. op_bytes (renumbered_op numbers x) ≡ spelled_bytes x) (record {
  plain = λ code. refl;
  label = λ code label. refl;
  local = λ code local. refl;
  const32 = λ n. refl;
  const64 = λ n. refl;
  raw4 = λ bytes. refl;
  raw8 = λ bytes. refl;
  ref_null = λ ty. refl;
  fc_plain = λ code. refl;
  simd = λ code. refl;
  simd_bytes = λ code bytes. refl;
  simd_lane = λ code lane. refl;
})

pub passes_none : (from : List Op) → Passes from from
passes_none from = record { over = []; whole = refl; spelled = tt }

pub passes_more : (from cur new : List Op) (x : Op) → Passes from cur → cur ≡ x ∷ new → is_spelled x ≡ true → Passes from new
passes_more from cur new x h is spelled = record {
  over = h.over ++ x ∷ [];
  whole = h.whole ∙ ap (λ ys. h.over ++ ys) is ∙ sym (append_assoc h.over (x ∷ []) new);
  spelled = all_more (λ x. is_spelled x ≡ true) h.over x h.spelled spelled;
}

nothing_over : {A : Type 0} (f : Op → List A) → ((x : Op) → is_spelled x ≡ true → f x ≡ []) → (over : List Op) → AllByRecursion (λ x. is_spelled x ≡ true) over → flat_map f over ≡ []
nothing_over f none [] all = refl
nothing_over f none (x ∷ over) all = rw (none x all.0) (nothing_over f none over all.1)

-- What says nothing of such operators says the same of what is left.
pub passed : {A : Type 0} (f : Op → List A) → ((x : Op) → is_spelled x ≡ true → f x ≡ []) → (from to : List Op) → Passes from to → flat_map f from ≡ flat_map f to
passed f none from to h = rw (h.whole, flat_map-append f h.over to, nothing_over f none h.over h.spelled) refl

-- A walk that passes over such operators: what the others say, and what the rest comes to, stay the whole.
pub other_more : {A : Type 0} (f : Op → List A) → ((x : Op) → is_spelled x ≡ true → f x ≡ []) → (x : Op) (from to : List Op) (before old new whole : List A) → IsNextOther (Some x) from to → new ≡ old ++ f x → old ++ flat_map f from ≡ before ++ whole → new ++ flat_map f to ≡ before ++ whole
other_more f none x from to before old new whole h one so_far = walked_more f x h.rest to before old new whole h.next one (ap (λ l. old ++ l) (sym (passed f none from h.rest h.passes)) ∙ so_far)

pub other_all : {A : Type 0} (f : Op → List A) → ((x : Op) → is_spelled x ≡ true → f x ≡ []) → (from to : List Op) (before new whole : List A) → IsNextOther None from to → new ++ flat_map f from ≡ before ++ whole → new ≡ before ++ whole
other_all f none from to before new whole h so_far = walked_all f h.rest before new whole h.next.0 (ap (λ l. new ++ l) (sym (passed f none from h.rest h.passes)) ∙ so_far)
