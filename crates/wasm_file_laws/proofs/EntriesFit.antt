-- The entries that are read fit.
use Rattle.std.proofs.Common.{◌≡◌, ℕ, zero, suc, ◌^◌, ◌<◌, ◌≤◌, Bool, true, false, not, ◌||◌, List, [], ◌∷◌, length, Some, None, Result, refl, sym, subst, arith, inl, inr, ltb, leb, eqb}
use Rattle.std.specs.List.{AllByRecursion}
use Rattle.std.specs.Str.{is_utf8}
use Rattle.std.proofs.lemmas.Bool.{ltb-true, leb-true, eqb-false, cases_Bool, and_parts, or_cases, or_parts, not-true}
use Rattle.wasm_bytes.specs.declared.counts.Counts.{Counts}
use Rattle.wasm_bytes.specs.Reading.{Input, followed, ◌>>=◌, entries, end_of, nothing_at, nothing_left, remaining, until_end}
use Rattle.wasm_bytes.specs.Numbers.{number32}
use Rattle.wasm_bytes.specs.Items.{listed, name, exactly}
use Rattle.wasm_bytes.specs.Reads.{AreBytes, Finds}
use Rattle.wasm_bytes.proofs.ReadFinds.{steps_of, finds_pure, finds_fault, finds_bind, finds_if, finds_weaker, finds_byte, finds_allowed, finds_raw, finds_entries, finds_number32, finds_number64}
use Rattle.wasm_types.specs.Types.{is_reference}
use Rattle.wasm_types.specs.Entries.{func_type}
use Rattle.wasm_types.specs.declared.ids.FuncId.{FuncId}
use Rattle.wasm_ops.specs.declared.ops.Op.{Op}
use Rattle.wasm_types.specs.declared.types.ValType.{ValType}
use Rattle.wasm_types.specs.declared.types.ValType.TheVariants.{FuncRef}
use Rattle.wasm_ops_laws.specs.Fits.{IsIndex}
use Rattle.wasm_ops_laws.proofs.OpFinds.{type_found, func_found, table_found, memory_found, global_found, tag_found, val_type_found, ref_type_found}
use Rattle.wasm_ops_laws.proofs.InitialFinds.{initial_found}
use Rattle.wasm_file.specs.Entries.{has_bit, any_limit, memory_limit, limit, maximum, limits, memory_type, table_type, mutability, tag_type, import_of, import_type, «import», export_of, export_item, «export», global_entry, are_elem_flags, elem_table, elem_place, elem_type, elem_entries, elem, are_segment_flags, segment_memory, segment_place, blob, segment, custom}
use Rattle.wasm_file.specs.Spelling.{has_exprs}
use Rattle.wasm_file.specs.declared.entries.Custom.{Custom}
use Rattle.wasm_file.specs.declared.entries.Elem.{Elem}
use Rattle.wasm_file.specs.declared.entries.ElemPlace.TheVariants as places
use Rattle.wasm_file.specs.declared.entries.ExportItem.TheVariants as items
use Rattle.wasm_file.specs.declared.entries.ImportType.TheVariants as asked
use Rattle.wasm_file_laws.specs.FileFits.{FitsFuncType, IsLimit, IsMaximum, FitsLimits, FitsTable, FitsTypeId, FitsName, FitsImportType, FitsImport, FitsItem, FitsExport, FitsInitials, FitsGlobal, FitsFuncId, FitsElemPlace, FitsElemEntries, FitsElem, FitsSegmentPlace, FitsSegment, FitsCustom}

-- ---- what stands beside the combinators of numbers and lists

-- a step that knows the place of the item before it
finds_placed : {A B : Type 0} {r : Input → Result (A × Input) ℕ} {P : A → Type 0} {f : ℕ → A → Input → Result (B × Input) ℕ} {Q : B → Type 0} → Finds r P → ((place : ℕ) (x : A) → P x → Finds (f place x) Q) → Finds (λ s. followed (r s) (f s.place)) Q
finds_placed {A} {B} {r} {P} {f} {Q} first second = record {
  found = λ s u y bytes is.
      let p = steps_of (r s) (f s.place) y u is in
      let a = first.found s p.1 p.0 bytes p.2 in
      (second s.place p.0 a.0).found p.1 u y a.1 p.3;
}

nothing_at_found : (place : ℕ) (bytes : List ℕ) → Finds (λ _. nothing_at place bytes) (λ _. Unit {0})
nothing_at_found place [] = record { found = λ s t x bytes is. (finds_pure {P = λ _. Unit {0}} tt tt).found (record { place = place; bytes = [] }) t x tt is }
nothing_at_found place (b ∷ bytes) = finds_fault place

-- the end is there
pub finds_nothing_left : Finds nothing_left (λ _. Unit {0})
finds_nothing_left = record { found = λ s t x bytes is. (nothing_at_found s.place s.bytes).found s t x bytes is }

-- what is left are bytes
pub finds_remaining : Finds remaining AreBytes
finds_remaining = record { found = λ s t x bytes is. (finds_pure {P = AreBytes} s.bytes bytes).found (record { place = end_of s; bytes = [] }) t x tt is }

-- up to the end, at most so many steps
finds_until_end : {A : Type 0} (P : A → Type 0) {step : A → Input → Result (A × Input) ℕ} → ((x : A) → P x → Finds (step x) P) → (n : ℕ) (x : A) → P x → Finds (until_end n step x) P
unfolding until_end
finds_until_end P more zero x h = finds_pure x h
finds_until_end {A} P {step} more (suc n) x h = record {
  found = λ s u y bytes is. elim (cases_Bool (eqb (length s.bytes) 0)) [
    | inl none ↦ (finds_pure {P = P} x h).found s u y bytes (rw none at is)
    | inr some ↦ (finds_bind (more x h) (λ z q. finds_until_end P more n z q)).found s u y bytes (rw some at is)
  ];
}

-- the same as far as bytes are there
pub finds_to_end : {A : Type 0} (P : A → Type 0) {step : A → Input → Result (A × Input) ℕ} → ((x : A) → P x → Finds (step x) P) → (x : A) → P x → Finds (λ s. until_end (length s.bytes) step x s) P
finds_to_end P more x h = record { found = λ s t y bytes is. (finds_until_end P more (length s.bytes) x h).found s t y bytes is }

-- no more entries than there is room for
pub finds_listed : {A : Type 0} {P : A → Type 0} {entry : Input → Result (A × Input) ℕ} (room : ℕ) → Finds entry P → Finds (listed room entry) (λ xs. (length xs ≤ room) × AllByRecursion P xs)
unfolding listed
finds_listed room h = finds_bind (finds_allowed (λ n. leb n room) finds_number32) (λ n few.
    let le = leb-true n room few.1 in
    finds_weaker (finds_entries n h) (λ xs all. let same = all.0 in (omega (arith, same, le), all.1)))

-- so many entries as 32 bits count
pub finds_counted : {A : Type 0} {P : A → Type 0} {entry : Input → Result (A × Input) ℕ} → Finds entry P → Finds (number32 >>= (λ n. entries n entry)) (λ xs. (length xs < 2 ^ 32) × AllByRecursion P xs)
finds_counted h = finds_bind finds_number32 (λ n few. finds_weaker (finds_entries n h) (λ xs all. let same = all.0 in (omega (arith, same, few), all.1)))

pub name_found : Finds name FitsName
unfolding name
name_found = finds_weaker (finds_allowed is_utf8 (finds_bind finds_number32 (λ n few. finds_weaker (finds_raw n) (λ (xs : List ℕ) h. let same = h.0 in let short : length xs < 2 ^ 32 = omega (arith, same, few) in short)))) (λ text h. (h.1, h.0))

pub exactly_found : (b : ℕ) → Finds (exactly b) (λ _. Unit {0})
unfolding exactly
exactly_found b = finds_weaker (finds_allowed (λ n. eqb n b) finds_byte) (λ _ _. tt)

-- ---- types

pub func_type_found : (counts : Counts) → Finds (func_type counts) FitsFuncType
unfolding func_type
func_type_found counts = finds_bind (exactly_found 0x60) (λ _ _. finds_bind finds_number32 (λ n few. finds_bind (finds_entries n val_type_found) (λ params p. finds_bind finds_number32 (λ m less. finds_bind (finds_entries m val_type_found) (λ results r.
    let params_are = p.0 in
    let results_are = r.0 in
    finds_pure (record { params = params; results = results }) (record { params_few = omega (arith, few, params_are); results_few = omega (arith, less, results_are) }))))))

limit_found : (greatest : ℕ) (wide : Bool) → Finds (limit greatest wide) (IsLimit greatest wide)
unfolding limit
limit_found greatest true = finds_weaker (finds_allowed (λ n. leb n greatest) finds_number64) (λ n h. (leb-true n greatest h.1, h.0))
limit_found greatest false = finds_weaker (finds_allowed (λ n. leb n greatest) finds_number32) (λ n h. (leb-true n greatest h.1, h.0))

maximum_found : (greatest flags : ℕ) → Finds (maximum greatest flags) (IsMaximum greatest (has_bit 4 flags))
unfolding maximum
maximum_found greatest flags = finds_if (has_bit 1 flags)
    (λ _. finds_bind (limit_found greatest (has_bit 4 flags)) (λ n h. finds_pure (Some n) h))
    (λ _. finds_pure None tt)

limits_found : (greatest : ℕ) → Finds (limits greatest) (FitsLimits greatest)
unfolding limits
limits_found greatest = finds_bind (finds_allowed (λ b. ltb b 8) finds_byte) (λ flags _. finds_bind (limit_found greatest (has_bit 4 flags)) (λ min low. finds_bind (maximum_found greatest flags) (λ max high.
    finds_pure (record { min = min; max = max; shared = has_bit 2 flags; wide = has_bit 4 flags }) (record { min_fits = low; max_fits = high }))))

pub memory_type_found : Finds memory_type (FitsLimits memory_limit)
unfolding memory_type
memory_type_found = limits_found memory_limit

pub table_type_found : Finds table_type FitsTable
unfolding table_type
table_type_found = finds_bind ref_type_found (λ ty t. finds_bind (limits_found any_limit) (λ size l. finds_pure (record { elem = ty; limits = size }) (record { elem_fits = t; limits_fit = l })))

mutability_found : Finds mutability (λ _. Unit {0})
unfolding mutability
mutability_found = finds_bind (finds_allowed (λ b. ltb b 2) finds_byte) (λ b _. finds_pure (eqb b 1) tt)

pub tag_type_found : (counts : Counts) → Finds (tag_type counts) (FitsTypeId counts)
unfolding tag_type
tag_type_found counts = finds_bind (exactly_found 0) (λ _ _. type_found counts)

-- ---- imports and exports

import_of_found : (counts : Counts) (place kind : ℕ) → Finds (import_of counts place kind) (FitsImportType counts)
unfolding import_of
import_of_found counts place kind =
    finds_if (eqb kind 0) (λ _. finds_bind (type_found counts) (λ ty t. finds_pure (asked.Func ty) t)) (λ _.
    finds_if (eqb kind 1) (λ _. finds_bind table_type_found (λ table t. finds_pure (asked.Table table.elem table.limits) (record { elem_fits = t.elem_fits; limits_fit = t.limits_fit }))) (λ _.
    finds_if (eqb kind 2) (λ _. finds_bind memory_type_found (λ size l. finds_pure (asked.Memory size) l)) (λ _.
    finds_if (eqb kind 3) (λ _. finds_bind val_type_found (λ ty _. finds_bind mutability_found (λ mutable _. finds_pure (asked.Global ty mutable) tt))) (λ _.
    finds_if (eqb kind 4) (λ _. finds_bind (tag_type_found counts) (λ ty t. finds_pure (asked.Tag ty) t)) (λ _. finds_fault place)))))

pub import_found : (counts : Counts) → Finds («import» counts) (FitsImport counts)
unfolding «import» import_type
import_found counts = finds_bind name_found (λ from f. finds_bind name_found (λ field n. finds_bind (finds_placed finds_byte (λ place kind _. import_of_found counts place kind)) (λ ty t.
    finds_pure (record { «module» = from; name = field; ty = ty }) (record { module_fits = f; name_fits = n; ty_fits = t }))))

export_of_found : (counts : Counts) (place kind : ℕ) → Finds (export_of counts place kind) (FitsItem counts)
unfolding export_of
export_of_found counts place kind =
    finds_if (eqb kind 0) (λ _. finds_bind (func_found counts) (λ i h. finds_pure (items.Func i) h)) (λ _.
    finds_if (eqb kind 1) (λ _. finds_bind (table_found counts) (λ i h. finds_pure (items.Table i) h)) (λ _.
    finds_if (eqb kind 2) (λ _. finds_bind (memory_found counts) (λ i h. finds_pure (items.Memory i) h)) (λ _.
    finds_if (eqb kind 3) (λ _. finds_bind (global_found counts) (λ i h. finds_pure (items.Global i) h)) (λ _.
    finds_if (eqb kind 4) (λ _. finds_bind (tag_found counts) (λ i h. finds_pure (items.Tag i) h)) (λ _. finds_fault place)))))

pub export_found : (counts : Counts) → Finds («export» counts) (FitsExport counts)
unfolding «export» export_item
export_found counts = finds_bind name_found (λ field n. finds_bind (finds_placed finds_byte (λ place kind _. export_of_found counts place kind)) (λ item i.
    finds_pure (record { name = field; item = item }) (record { name_fits = n; item_fits = i })))

-- ---- globals

pub global_entry_found : (counts : Counts) → Finds (global_entry counts) (FitsGlobal counts)
unfolding global_entry
global_entry_found counts = finds_bind val_type_found (λ ty _. finds_bind mutability_found (λ mutable _. finds_bind (initial_found counts) (λ init i. finds_pure (record { ty = ty; mutable = mutable; init = init }) i)))

-- ---- element segments

-- flags that tell of no table have table 0
first_table : (counts : Counts) (flags : ℕ) → are_elem_flags counts flags ≡ true → (eqb flags 1 || eqb flags 5) ≡ false → (eqb flags 3 || eqb flags 7) ≡ false → (eqb flags 2 || eqb flags 6) ≡ false → 0 < counts.tables
first_table counts flags are odd declared told =
    let a = and_parts (ltb flags 8) (ltb 0 counts.tables || not (eqb flags 0 || eqb flags 4)) are in
    let few = ltb-true flags 8 a.0 in
    elim (or_cases (ltb 0 counts.tables) (not (eqb flags 0 || eqb flags 4)) a.1) [
      | inl some ↦ ltb-true 0 counts.tables some
      | inr other ↦
          let zero_four = or_parts (eqb flags 0) (eqb flags 4) (not-true (eqb flags 0 || eqb flags 4) other) in
          let one_five = or_parts (eqb flags 1) (eqb flags 5) odd in
          let two_six = or_parts (eqb flags 2) (eqb flags 6) told in
          let three_seven = or_parts (eqb flags 3) (eqb flags 7) declared in
          absurd (omega (arith, few, eqb-false flags 0 zero_four.0, eqb-false flags 1 one_five.0, eqb-false flags 2 two_six.0, eqb-false flags 3 three_seven.0, eqb-false flags 4 zero_four.1, eqb-false flags 5 one_five.1, eqb-false flags 6 two_six.1, eqb-false flags 7 three_seven.1))
    ]

elem_table_found : (counts : Counts) (flags : ℕ) → are_elem_flags counts flags ≡ true → (eqb flags 1 || eqb flags 5) ≡ false → (eqb flags 3 || eqb flags 7) ≡ false → Finds (elem_table counts flags) (λ table. IsIndex counts.tables table.0)
unfolding elem_table
elem_table_found counts flags are odd declared = finds_if (eqb flags 2 || eqb flags 6)
    (λ _. table_found counts)
    (λ told. finds_pure (record { 0 = 0 }) (first_table counts flags are odd declared told, omega arith))

elem_place_found : (counts : Counts) (flags : ℕ) → are_elem_flags counts flags ≡ true → Finds (elem_place counts flags) (FitsElemPlace counts)
unfolding elem_place
elem_place_found counts flags are =
    finds_if (eqb flags 1 || eqb flags 5) (λ _. finds_pure places.Passive tt) (λ odd.
    finds_if (eqb flags 3 || eqb flags 7) (λ _. finds_pure places.Declared tt) (λ declared.
    finds_bind (elem_table_found counts flags are odd declared) (λ table t. finds_bind (initial_found counts) (λ offset o. finds_pure (places.Active table offset) (t, o)))))

-- the type of functions, or of other references
abbrev IsElemType : Bool → ValType → Type 0
IsElemType true ty = ty ≡ FuncRef
IsElemType false ty = is_reference ty ≡ true

func_ref_fits : (functions : Bool) → IsElemType functions FuncRef
func_ref_fits true = refl
func_ref_fits false = refl

elem_type_found : (flags : ℕ) → Finds (elem_type flags) (IsElemType (ltb flags 4))
unfolding elem_type
elem_type_found flags =
    finds_if (eqb flags 0 || eqb flags 4) (λ _. finds_pure FuncRef (func_ref_fits (ltb flags 4))) (λ _.
    finds_if (ltb flags 4) (λ _. finds_bind (exactly_found 0) (λ _ _. finds_pure FuncRef (func_ref_fits (ltb flags 4)))) (λ other.
    finds_weaker ref_type_found (λ ty t. subst (λ functions. IsElemType functions ty) (sym other) t)))

-- functions and no expressions, or expressions and no functions
abbrev AreElemEntries : Counts → Bool → List FuncId × List (List Op) → Type 0
AreElemEntries counts true xs = (xs.1 ≡ []) × (length xs.0 < 2 ^ 32) × AllByRecursion (FitsFuncId counts) xs.0
AreElemEntries counts false xs = (xs.0 ≡ []) × (length xs.1 < 2 ^ 32) × AllByRecursion (FitsInitials counts) xs.1

elem_entries_found : (counts : Counts) (flags : ℕ) → Finds (elem_entries counts flags) (AreElemEntries counts (ltb flags 4))
unfolding elem_entries
elem_entries_found counts flags = finds_bind finds_number32 (λ n few.
    finds_if (ltb flags 4)
    (λ is. finds_bind (finds_entries n (func_found counts)) (λ xs all. let same = all.0 in finds_pure (xs, []) (subst (λ functions. AreElemEntries counts functions (xs, [])) (sym is) (refl, omega (arith, same, few), all.1))))
    (λ not. finds_bind (finds_entries n (initial_found counts)) (λ xs all. let same = all.0 in finds_pure ([], xs) (subst (λ functions. AreElemEntries counts functions ([], xs)) (sym not) (refl, omega (arith, same, few), all.1)))))

-- what is read behind the place fits
entries_fit : (counts : Counts) (functions : Bool) (e : Elem) → IsElemType functions e.ty → AreElemEntries counts functions (e.funcs, e.exprs) → FitsElemEntries counts e
entries_fit counts true e ty h =
    let none : has_exprs e ≡ false = rw (h.0, ty) refl in
    rw none (h.1, h.2)
entries_fit counts false e ty h = elim (cases_Bool (has_exprs e)) [
  | inl is ↦ rw is (ty, h.0, h.1, h.2)
  | inr not ↦ rw (not, h.0) (omega arith, tt)
]

pub elem_found : (counts : Counts) → Finds (elem counts) (FitsElem counts)
unfolding elem
elem_found counts = finds_bind (finds_allowed (are_elem_flags counts) finds_number32) (λ flags f. finds_bind (elem_place_found counts flags f.1) (λ place p. finds_bind (elem_type_found flags) (λ ty t. finds_bind (elem_entries_found counts flags) (λ xs x.
    let e : Elem = record { place = place; ty = ty; funcs = xs.0; exprs = xs.1 } in
    finds_pure e (record { place_fits = p; entries_fit = entries_fit counts (ltb flags 4) e t x })))))

-- ---- data segments

-- flags that tell of no memory have memory 0
has_memory : (counts : Counts) (flags : ℕ) → are_segment_flags counts flags ≡ true → eqb flags 1 ≡ false → eqb flags 2 ≡ false → 0 < counts.memories
has_memory counts flags are active told =
    let a = and_parts (ltb flags 3) (ltb 0 counts.memories || not (eqb flags 0)) are in
    let few = ltb-true flags 3 a.0 in
    elim (or_cases (ltb 0 counts.memories) (not (eqb flags 0)) a.1) [
      | inl some ↦ ltb-true 0 counts.memories some
      | inr other ↦ absurd (omega (arith, few, eqb-false flags 0 (not-true (eqb flags 0) other), eqb-false flags 1 active, eqb-false flags 2 told))
    ]

segment_memory_found : (counts : Counts) (flags : ℕ) → are_segment_flags counts flags ≡ true → eqb flags 1 ≡ false → Finds (segment_memory counts flags) (λ memory. IsIndex counts.memories memory.0)
unfolding segment_memory
segment_memory_found counts flags are active = finds_if (eqb flags 2) (λ _. memory_found counts) (λ told. finds_pure (record { 0 = 0 }) (has_memory counts flags are active told, omega arith))

segment_place_found : (counts : Counts) (flags : ℕ) → are_segment_flags counts flags ≡ true → Finds (segment_place counts flags) (FitsSegmentPlace counts)
unfolding segment_place
segment_place_found counts flags are = finds_if (eqb flags 1) (λ _. finds_pure None tt) (λ active. finds_bind (segment_memory_found counts flags are active) (λ memory m. finds_bind (initial_found counts) (λ offset o. finds_pure (Some (memory, offset)) (m, o))))

blob_found : Finds blob (λ bytes. length bytes < 2 ^ 32)
unfolding blob
blob_found = finds_bind finds_number32 (λ n few. finds_weaker (finds_raw n) (λ xs h. let same = h.0 in omega (arith, same, few)))

pub segment_found : (counts : Counts) → Finds (segment counts) (FitsSegment counts)
unfolding segment
segment_found counts = finds_bind (finds_allowed (are_segment_flags counts) finds_number32) (λ flags f. finds_bind (segment_place_found counts flags f.1) (λ place p. finds_bind blob_found (λ bytes b. finds_pure (record { place = place; bytes = bytes }) (record { place_fits = p; bytes_few = b }))))

-- ---- custom sections

-- the section holds bytes
abbrev pub HasBytes : Custom → Type 0
HasBytes c = AreBytes c.bytes

pub custom_found : Finds custom (λ c. FitsCustom c × HasBytes c)
unfolding custom
custom_found = finds_bind name_found (λ field n. finds_bind finds_remaining (λ bytes b. finds_pure (record { name = field; bytes = bytes }) (n, b)))
