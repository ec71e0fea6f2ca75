-- An entry of a section that is written is read again.
use Rattle.std.proofs.Common.{◌≡◌, ℕ, ◌+◌, ◌*◌, ◌^◌, ◌<◌, Bool, true, false, not, ◌&&◌, ◌||◌, List, [], ◌∷◌, ◌++◌, length, Option, Some, None, Result, Ok, refl, sym, subst, append_assoc, arith, inl, inr, ltb, leb, eqb, ◌==◌, if◌then◌else◌}
use Rattle.std.specs.List.{flat_map, AllByRecursion}
use Rattle.std.specs.Str.{is_utf8}
use Rattle.std.proofs.lemmas.Bool.{lt-ltb, le-ltb, le-leb, eq-eqb, eqb-true, and_parts, and_from, or_parts, or_left, or_right, not-false, cases_Bool}
use Rattle.std.proofs.lemmas.List.{nil_from_length}
use Rattle.wasm_bytes.specs.declared.counts.Counts.{Counts}
use Rattle.wasm_bytes.specs.Reading.{Input, followed, ◌>>=◌, pure, byte, entries}
use Rattle.wasm_bytes.specs.Numbers.{number32, shortest, number_bytes}
use Rattle.wasm_bytes.specs.Items.{name, exactly}
use Rattle.wasm_bytes.specs.Spelling.{list_bytes, name_bytes, framed_bytes}
use Rattle.wasm_bytes.specs.Reads.{Reads}
use Rattle.wasm_bytes.proofs.ReadAgain.{reads_pure, reads_bind, reads_end, reads_byte, reads_raw, reads_allowed, reads_entries, number32_again, number64_again}
use Rattle.wasm_types.proofs.TypesAgain.{val_type_again}
use Rattle.wasm_types.specs.Types.{code_of, is_reference}
use Rattle.wasm_types.specs.Entries.{val_type, func_type, type_index, func_index}
use Rattle.wasm_types.specs.Spelling.{val_type_bytes, func_type_bytes}
use Rattle.wasm_code.specs.Spelling.{expression_bytes}
use Rattle.wasm_types.specs.declared.ids.FuncId.{FuncId}
use Rattle.wasm_types.specs.declared.ids.MemoryId.{MemoryId}
use Rattle.wasm_types.specs.declared.ids.TableId.{TableId}
use Rattle.wasm_types.specs.declared.ids.TypeId.{TypeId}
use Rattle.wasm_ops.specs.declared.ops.Op.{Op}
use Rattle.wasm_types.specs.declared.types.FuncType.{FuncType}
use Rattle.wasm_types.specs.declared.types.Limits.{Limits}
use Rattle.wasm_types.specs.declared.types.ValType.{ValType}
use Rattle.wasm_types.specs.declared.types.ValType.TheVariants.{I32, I64, F32, F64, V128, FuncRef, ExternRef, ExnRef}
use Rattle.wasm_ops_laws.specs.Fits.{IsIndex}
use Rattle.wasm_ops_laws.proofs.OpAgain as ops
use Rattle.wasm_ops_laws.proofs.InitialAgain.{initial_again}
use Rattle.wasm_file.specs.Entries.{has_bit, any_limit, memory_limit, limit, maximum, limits, memory_type, table_type, mutability, tag_type, import_of, import_type, «import», export_of, export_item, «export», global_entry, are_elem_flags, elem_table, elem_place, elem_type, elem_entries, elem, are_segment_flags, segment_memory, segment_place, blob, segment, custom}
use Rattle.wasm_file.specs.Spelling.{truth_bit, has_max, limits_flag, max_bytes, limits_bytes, table_bytes, global_type_bytes, tag_bytes, import_type_bytes, import_bytes, type_id_bytes, func_id_bytes, global_bytes, item_bytes, export_bytes, is_func_ref, has_exprs, place_flag, place_bytes, elem_bytes, segment_place_bytes, segment_bytes, custom_bytes}
use Rattle.wasm_file.specs.declared.entries.Custom.{Custom}
use Rattle.wasm_file.specs.declared.entries.Elem.{Elem}
use Rattle.wasm_file.specs.declared.entries.ElemPlace.{ElemPlace}
use Rattle.wasm_file.specs.declared.entries.ElemPlace.TheVariants as places
use Rattle.wasm_file.specs.declared.entries.Export.{Export}
use Rattle.wasm_file.specs.declared.entries.ExportItem.{ExportItem}
use Rattle.wasm_file.specs.declared.entries.ExportItem.TheVariants as items
use Rattle.wasm_file.specs.declared.entries.FileGlobal.{FileGlobal}
use Rattle.wasm_file.specs.declared.entries.FileImport.{FileImport}
use Rattle.wasm_file.specs.declared.entries.ImportType.{ImportType}
use Rattle.wasm_file.specs.declared.entries.ImportType.TheVariants as asked
use Rattle.wasm_file.specs.declared.entries.Segment.{Segment}
use Rattle.wasm_file.specs.declared.entries.TableType.{TableType}
use Rattle.wasm_file_laws.specs.FileFits.{FitsFuncType, IsLimit, IsMaximum, FitsLimits, FitsTable, FitsTypeId, FitsName, FitsImportType, FitsImport, FitsItem, FitsExport, FitsInitials, FitsGlobal, FitsFuncId, FitsElemPlace, FitsElemList, FitsElem, FitsSegmentPlace, FitsSegment, FitsCustom}
use Rattle.wasm_file_laws.proofs.EachItem.{all_each}

-- ---- items

-- one byte of this value
exactly_again : (b : ℕ) → Reads (exactly b) (b ∷ []) b
unfolding exactly
exactly_again b = reads_allowed (λ x. eqb x b) (reads_byte b) (eq-eqb b b refl)

-- a text and its length
pub name_again : (text : List ℕ) → FitsName text → Reads name (name_bytes text) text
unfolding name name_bytes
name_again text h = reads_allowed is_utf8 (reads_bind _ (number32_again (length text) h.1) (reads_raw (length text) text refl)) h.0

-- any bytes behind their length
blob_again : (bytes : List ℕ) → length bytes < 2 ^ 32 → Reads blob (framed_bytes bytes) bytes
unfolding blob framed_bytes
blob_again bytes few = reads_bind _ (number32_again (length bytes) few) (reads_raw (length bytes) bytes refl)

-- a small number is one byte
small_bytes : (n : ℕ) → n < 128 → number_bytes n ≡ n ∷ []
unfolding number_bytes shortest
small_bytes n lt = rw (lt-ltb n 128 lt) refl

small_again : (n : ℕ) → n < 128 → Reads number32 (n ∷ []) n
small_again n lt = subst (λ bytes. Reads number32 bytes n) (small_bytes n lt) (number32_again n (omega (arith, lt)))

-- a byte that says how the bytes behind it are read
kind_again : {A : Type 0} (read : ℕ → ℕ → Input → Result (A × Input) ℕ) (kind : ℕ) {bytes : List ℕ} {x : A} → ((place : ℕ) → Reads (read place kind) bytes x) → Reads (λ s. followed (byte s) (read s.place)) (kind ∷ bytes) x
kind_again read kind h = record { again = λ place rest. (h place).again (place + 1) rest }

-- ---- types

types_again : (xs : List ValType) → Reads (entries (length xs) val_type) (flat_map val_type_bytes xs) xs
types_again xs = reads_entries (λ _. Unit {0}) (λ ty _. val_type_again ty) xs (all_each (λ _. Unit {0}) (λ _. tt) xs)

pub func_type_again : (counts : Counts) (ty : FuncType) → FitsFuncType ty → Reads (func_type counts) (func_type_bytes ty) ty
unfolding func_type func_type_bytes list_bytes
func_type_again counts ty h =
    let params : List ℕ = flat_map val_type_bytes ty.params in
    let results : List ℕ = number_bytes (length ty.results) ++ flat_map val_type_bytes ty.results in
    subst (λ bytes. Reads (func_type counts) (0x60 ∷ bytes) ty) (sym (append_assoc (number_bytes (length ty.params)) params results))
    (reads_bind _ (exactly_again 0x60)
    (reads_bind _ (number32_again (length ty.params) h.params_few)
    (reads_bind _ (types_again ty.params)
    (reads_bind _ (number32_again (length ty.results) h.results_few)
    (reads_end (λ results. record { params = ty.params; results = results }) (types_again ty.results))))))

pub type_id_again : (counts : Counts) (ty : TypeId) → FitsTypeId counts ty → Reads (type_index counts) (type_id_bytes ty) ty
unfolding type_id_bytes
type_id_again counts ty h = ops.type_again counts ty h

pub func_id_again : (counts : Counts) (func : FuncId) → FitsFuncId counts func → Reads (func_index counts) (func_id_bytes func) func
unfolding func_id_bytes
func_id_again counts func h = ops.func_again counts func h

-- ---- limits

-- the flag of a maximum, a shared one and a wide one
abbrev flag_of : Bool → Bool → Bool → ℕ
flag_of max shared wide = truth_bit max + 2 * truth_bit shared + 4 * truth_bit wide

-- The bits of a flag tell what it was made of.
record AreBits (max shared wide : Bool) : Type 0 where
  max_told : has_bit 1 (flag_of max shared wide) ≡ max
  shared_told : has_bit 2 (flag_of max shared wide) ≡ shared
  wide_told : has_bit 4 (flag_of max shared wide) ≡ wide
  small : ltb (flag_of max shared wide) 8 ≡ true

-- so do those of each flag
bits_of : (max shared wide : Bool) → AreBits max shared wide
bits_of false false false = record { max_told = refl; shared_told = refl; wide_told = refl; small = refl }
bits_of false false true = record { max_told = refl; shared_told = refl; wide_told = refl; small = refl }
bits_of false true false = record { max_told = refl; shared_told = refl; wide_told = refl; small = refl }
bits_of false true true = record { max_told = refl; shared_told = refl; wide_told = refl; small = refl }
bits_of true false false = record { max_told = refl; shared_told = refl; wide_told = refl; small = refl }
bits_of true false true = record { max_told = refl; shared_told = refl; wide_told = refl; small = refl }
bits_of true true false = record { max_told = refl; shared_told = refl; wide_told = refl; small = refl }
bits_of true true true = record { max_told = refl; shared_told = refl; wide_told = refl; small = refl }

limit_again : (greatest : ℕ) (wide : Bool) (n : ℕ) → IsLimit greatest wide n → Reads (limit greatest wide) (number_bytes n) n
unfolding limit
limit_again greatest true n h = reads_allowed (λ n. leb n greatest) (number64_again n h.1) (le-leb n greatest h.0)
limit_again greatest false n h = reads_allowed (λ n. leb n greatest) (number32_again n h.1) (le-leb n greatest h.0)

maximum_again : (greatest : ℕ) (flags : ℕ) (max : Option ℕ) → has_bit 1 flags ≡ has_max max → IsMaximum greatest (has_bit 4 flags) max → Reads (maximum greatest flags) (max_bytes max) max
unfolding maximum
maximum_again greatest flags (Some n) is h = rw is (reads_end (λ n. Some n) (limit_again greatest (has_bit 4 flags) n h))
maximum_again greatest flags None is h = rw is (reads_pure None)

pub limits_again : (greatest : ℕ) (l : Limits) → FitsLimits greatest l → Reads (limits greatest) (limits_bytes l) l
unfolding limits limits_bytes
limits_again greatest l h =
    let flags : ℕ = limits_flag l in
    let b : AreBits (has_max l.max) l.shared l.wide = bits_of (has_max l.max) l.shared l.wide in
    let min_fits : IsLimit greatest (has_bit 4 flags) l.min = subst (λ wide. IsLimit greatest wide l.min) (sym b.wide_told) h.min_fits in
    let max_fits : IsMaximum greatest (has_bit 4 flags) l.max = subst (λ wide. IsMaximum greatest wide l.max) (sym b.wide_told) h.max_fits in
    let read : Reads (limits greatest) (limits_bytes l) (record { min = l.min; max = l.max; shared = has_bit 2 flags; wide = has_bit 4 flags }) =
    reads_bind _ (reads_allowed (λ b. ltb b 8) (reads_byte flags) b.small)
    (reads_bind _ (limit_again greatest (has_bit 4 flags) l.min min_fits)
    (reads_end (λ max. record { min = l.min; max = max; shared = has_bit 2 flags; wide = has_bit 4 flags }) (maximum_again greatest flags l.max b.max_told max_fits))) in
    let shared_read : Reads (limits greatest) (limits_bytes l) (record { min = l.min; max = l.max; shared = l.shared; wide = has_bit 4 flags }) =
    subst (λ shared. Reads (limits greatest) (limits_bytes l) (record { min = l.min; max = l.max; shared = shared; wide = has_bit 4 flags })) b.shared_told read in
    subst (λ wide. Reads (limits greatest) (limits_bytes l) (record { min = l.min; max = l.max; shared = l.shared; wide = wide })) b.wide_told shared_read

pub table_again : (t : TableType) → FitsTable t → Reads table_type (table_bytes t) t
unfolding table_type table_bytes val_type_bytes
table_again t h = reads_bind _ (ops.ref_type_again t.elem h.elem_fits) (reads_end (λ size. record { elem = t.elem; limits = size }) (limits_again any_limit t.limits h.limits_fit))

pub tag_again : (counts : Counts) (ty : TypeId) → FitsTypeId counts ty → Reads (tag_type counts) (tag_bytes ty) ty
unfolding tag_type tag_bytes
tag_again counts ty h = reads_bind _ (exactly_again 0) (ops.type_again counts ty h)

mutability_again : (mutable : Bool) → Reads mutability (truth_bit mutable ∷ []) mutable
unfolding mutability
mutability_again true = reads_end (λ b. eqb b 1) (reads_allowed (λ b. ltb b 2) (reads_byte 1) refl)
mutability_again false = reads_end (λ b. eqb b 1) (reads_allowed (λ b. ltb b 2) (reads_byte 0) refl)

-- ---- imports and exports

import_type_again : (counts : Counts) (ty : ImportType) → FitsImportType counts ty → Reads (import_type counts) (import_type_bytes ty) ty
unfolding import_type import_of import_type_bytes memory_type global_type_bytes val_type_bytes
import_type_again counts (asked.Func ty) h = kind_again (import_of counts) 0 (λ place. reads_end (λ ty. asked.Func ty) (ops.type_again counts ty h))
import_type_again counts (asked.Table elem limits) h = kind_again (import_of counts) 1 (λ place. reads_end (λ (table : TableType). asked.Table table.elem table.limits) (table_again (record { elem = elem; limits = limits }) h))
import_type_again counts (asked.Memory limits) h = kind_again (import_of counts) 2 (λ place. reads_end (λ size. asked.Memory size) (limits_again memory_limit limits h))
import_type_again counts (asked.Global ty mutable) h = kind_again (import_of counts) 3 (λ place. reads_bind _ (val_type_again ty) (reads_end (λ mutable. asked.Global ty mutable) (mutability_again mutable)))
import_type_again counts (asked.Tag ty) h = kind_again (import_of counts) 4 (λ place. reads_end (λ ty. asked.Tag ty) (tag_again counts ty h))

pub import_again : (counts : Counts) (i : FileImport) → FitsImport counts i → Reads («import» counts) (import_bytes i) i
unfolding «import» import_bytes
import_again counts i h =
    reads_bind _ (name_again i.«module» h.module_fits)
    (reads_bind _ (name_again i.name h.name_fits)
    (reads_end (λ ty. record { «module» = i.«module»; name = i.name; ty = ty }) (import_type_again counts i.ty h.ty_fits)))

item_again : (counts : Counts) (item : ExportItem) → FitsItem counts item → Reads (export_item counts) (item_bytes item) item
unfolding export_item export_of item_bytes
item_again counts (items.Func id) h = kind_again (export_of counts) 0 (λ place. reads_end (λ i. items.Func i) (ops.func_again counts id h))
item_again counts (items.Table id) h = kind_again (export_of counts) 1 (λ place. reads_end (λ i. items.Table i) (ops.table_again counts id h))
item_again counts (items.Memory id) h = kind_again (export_of counts) 2 (λ place. reads_end (λ i. items.Memory i) (ops.memory_again counts id h))
item_again counts (items.Global id) h = kind_again (export_of counts) 3 (λ place. reads_end (λ i. items.Global i) (ops.global_again counts id h))
item_again counts (items.Tag id) h = kind_again (export_of counts) 4 (λ place. reads_end (λ i. items.Tag i) (ops.tag_again counts id h))

pub export_again : (counts : Counts) (e : Export) → FitsExport counts e → Reads («export» counts) (export_bytes e) e
unfolding «export» export_bytes
export_again counts e h = reads_bind _ (name_again e.name h.name_fits) (reads_end (λ item. record { name = e.name; item = item }) (item_again counts e.item h.item_fits))

-- ---- globals

pub global_again : (counts : Counts) (g : FileGlobal) → FitsGlobal counts g → Reads (global_entry counts) (global_bytes g) g
unfolding global_entry global_bytes global_type_bytes val_type_bytes
global_again counts g h =
    reads_bind _ (val_type_again g.ty)
    (reads_bind _ (mutability_again g.mutable)
    (reads_end (λ init. record { ty = g.ty; mutable = g.mutable; init = init }) (initial_again counts g.init h)))

-- ---- element segments

-- a type that is told to be that of functions is
func_ref_of : (ty : ValType) → is_func_ref ty ≡ true → ty ≡ FuncRef
func_ref_of I32 is = absurd (grind (arith, is))
func_ref_of I64 is = absurd (grind (arith, is))
func_ref_of F32 is = absurd (grind (arith, is))
func_ref_of F64 is = absurd (grind (arith, is))
func_ref_of V128 is = absurd (grind (arith, is))
func_ref_of FuncRef is = refl
func_ref_of ExternRef is = absurd (grind (arith, is))
func_ref_of ExnRef is = absurd (grind (arith, is))

-- what is left out stands for table 0 and functions
left_out : (table : ℕ) (ty : ValType) → ((table == 0) && is_func_ref ty) ≡ true → (table ≡ 0) × (ty ≡ FuncRef)
left_out table ty is = let p = and_parts (table == 0) (is_func_ref ty) is in (eqb-true table 0 p.0, func_ref_of ty p.1)

-- the lowest bits of an active segment's flag
active_small : (out : Bool) → (if out then 0 else 2) < 4
active_small true = omega arith
active_small false = omega arith

-- the flag of a place: whether table and type are left out, and whether the entries are expressions
abbrev active_flag : Bool → Bool → ℕ
active_flag out exprs = (if out then 0 else 2) + 4 * truth_bit exprs

-- the same of any place
abbrev flag_at : ValType → ElemPlace → Bool → ℕ
flag_at ty place exprs = place_flag ty place + 4 * truth_bit exprs

-- flags that ask for no table 0
other_flags : (counts : Counts) (flags : ℕ) → ltb flags 8 ≡ true → not ((flags == 0) || (flags == 4)) ≡ true → are_elem_flags counts flags ≡ true
other_flags counts flags small other = and_from _ _ small (or_right _ _ other)

-- flags where table 0 is there
first_flags : (counts : Counts) (flags : ℕ) → ltb flags 8 ≡ true → 0 < counts.tables → are_elem_flags counts flags ≡ true
first_flags counts flags small some = and_from _ _ small (or_left _ _ (lt-ltb 0 counts.tables some))

-- the flag of an active segment is allowed where there are tables
active_flags : (counts : Counts) (out exprs : Bool) → 0 < counts.tables → are_elem_flags counts (active_flag out exprs) ≡ true
active_flags counts true true some = first_flags counts 4 refl some
active_flags counts true false some = first_flags counts 0 refl some
active_flags counts false true some = first_flags counts 6 refl some
active_flags counts false false some = first_flags counts 2 refl some

-- the flag of a segment is allowed where its place fits
elem_flags : (counts : Counts) (ty : ValType) (place : ElemPlace) (exprs : Bool) → FitsElemPlace counts place → are_elem_flags counts (flag_at ty place exprs) ≡ true
elem_flags counts ty (places.Active table init) exprs h = active_flags counts ((table.0 == 0) && is_func_ref ty) exprs (omega (arith, h.0.0))
elem_flags counts ty places.Passive true h = other_flags counts 5 refl refl
elem_flags counts ty places.Passive false h = other_flags counts 1 refl refl
elem_flags counts ty places.Declared true h = other_flags counts 7 refl refl
elem_flags counts ty places.Declared false h = other_flags counts 3 refl refl

active_again : (counts : Counts) (table : TableId) (init : List Op) (out exprs : Bool) → (out ≡ true → table.0 ≡ 0) → IsIndex counts.tables table.0 → FitsInitials counts init → Reads (elem_place counts (active_flag out exprs)) ((if out then [] else number_bytes table.0) ++ expression_bytes init) (places.Active table init)
unfolding elem_place elem_table
active_again counts table init true true first named fits =
    subst (λ n. Reads (elem_place counts 4) (expression_bytes init) (places.Active (record { 0 = n }) init)) (sym (first refl))
    (reads_end (λ offset. places.Active (record { 0 = 0 }) offset) (initial_again counts init fits))
active_again counts table init true false first named fits =
    subst (λ n. Reads (elem_place counts 0) (expression_bytes init) (places.Active (record { 0 = n }) init)) (sym (first refl))
    (reads_end (λ offset. places.Active (record { 0 = 0 }) offset) (initial_again counts init fits))
active_again counts table init false true first named fits = reads_bind _ (ops.table_again counts table named) (reads_end (λ offset. places.Active table offset) (initial_again counts init fits))
active_again counts table init false false first named fits = reads_bind _ (ops.table_again counts table named) (reads_end (λ offset. places.Active table offset) (initial_again counts init fits))

elem_place_again : (counts : Counts) (ty : ValType) (place : ElemPlace) (exprs : Bool) → FitsElemPlace counts place → Reads (elem_place counts (flag_at ty place exprs)) (place_bytes ty place) place
unfolding elem_place
elem_place_again counts ty (places.Active table init) exprs h = active_again counts table init ((table.0 == 0) && is_func_ref ty) exprs (λ is. (left_out table.0 ty is).0) h.0 h.1
elem_place_again counts ty places.Passive true h = reads_pure places.Passive
elem_place_again counts ty places.Passive false h = reads_pure places.Passive
elem_place_again counts ty places.Declared true h = reads_pure places.Declared
elem_place_again counts ty places.Declared false h = reads_pure places.Declared

-- what the entries are, unless it is left out
abbrev kind_bytes : ValType → ℕ → Bool → List ℕ
kind_bytes ty flag exprs = if flag == 0 then [] else if exprs then code_of ty ∷ [] else 0 ∷ []

-- what is known of the type where the entries are expressions, or functions
abbrev FitsKind : ValType → Bool → Type 0
FitsKind ty true = is_reference ty ≡ true
FitsKind ty false = ty ≡ FuncRef

-- a flag that leaves no type out
told_again : (ty : ValType) (exprs : Bool) → FitsKind ty exprs → (Reads (elem_type (1 + 4 * truth_bit exprs)) (kind_bytes ty 1 exprs) ty) × (Reads (elem_type (2 + 4 * truth_bit exprs)) (kind_bytes ty 2 exprs) ty) × (Reads (elem_type (3 + 4 * truth_bit exprs)) (kind_bytes ty 3 exprs) ty)
unfolding elem_type val_type_bytes
told_again ty true h = (ops.ref_type_again ty h, ops.ref_type_again ty h, ops.ref_type_again ty h)
told_again ty false h =
    let read : Reads (exactly 0 >>= (λ _. pure FuncRef)) (0 ∷ []) ty = subst (λ ty. Reads (exactly 0 >>= (λ _. pure FuncRef)) (0 ∷ []) ty) (sym h) (reads_end (λ _. FuncRef) (exactly_again 0)) in
    (read, read, read)

-- the type of an active segment is read again
active_kind : (ty : ValType) (out exprs : Bool) → (out ≡ true → ty ≡ FuncRef) → FitsKind ty exprs → Reads (elem_type (active_flag out exprs)) (kind_bytes ty (if out then 0 else 2) exprs) ty
unfolding elem_type
active_kind ty true true none h = subst (λ ty. Reads (elem_type 4) [] ty) (sym (none refl)) (reads_pure FuncRef)
active_kind ty true false none h = subst (λ ty. Reads (elem_type 0) [] ty) (sym (none refl)) (reads_pure FuncRef)
active_kind ty false exprs none h = (told_again ty exprs h).1

elem_type_again : (ty : ValType) (place : ElemPlace) (exprs : Bool) → FitsKind ty exprs → Reads (elem_type (flag_at ty place exprs)) (kind_bytes ty (place_flag ty place) exprs) ty
elem_type_again ty (places.Active table init) exprs h = active_kind ty ((table.0 == 0) && is_func_ref ty) exprs (λ is. (left_out table.0 ty is).1) h
elem_type_again ty places.Passive exprs h = (told_again ty exprs h).0
elem_type_again ty places.Declared exprs h = (told_again ty exprs h).2

funcs_again : (counts : Counts) (flags : ℕ) (xs : List FuncId) → ltb flags 4 ≡ true → length xs < 2 ^ 32 → AllByRecursion (FitsFuncId counts) xs → Reads (elem_entries counts flags) (list_bytes func_id_bytes xs) (xs, [])
unfolding elem_entries list_bytes
funcs_again counts flags xs is few all = rw is (reads_bind _ (number32_again (length xs) few) (reads_end (λ xs. (xs, [])) (reads_entries (FitsFuncId counts) (func_id_again counts) xs all)))

exprs_again : (counts : Counts) (flags : ℕ) (xs : List (List Op)) → ltb flags 4 ≡ false → length xs < 2 ^ 32 → AllByRecursion (FitsInitials counts) xs → Reads (elem_entries counts flags) (list_bytes expression_bytes xs) ([], xs)
unfolding elem_entries list_bytes
exprs_again counts flags xs is few all = rw is (reads_bind _ (number32_again (length xs) few) (reads_end (λ xs. ([], xs)) (reads_entries (FitsInitials counts) (initial_again counts) xs all)))

-- a segment is read again where its parts are
elem_with : (counts : Counts) (flags : ℕ) (e : Elem) {place kind list : List ℕ} → flags < 128 → are_elem_flags counts flags ≡ true → Reads (elem_place counts flags) place e.place → Reads (elem_type flags) kind e.ty → Reads (elem_entries counts flags) list (e.funcs, e.exprs) → Reads (elem counts) (flags ∷ (place ++ (kind ++ list))) e
unfolding elem
elem_with counts flags e small ok place kind list =
    reads_bind _ (reads_allowed (are_elem_flags counts) (small_again flags small) ok)
    (reads_bind _ place
    (reads_bind _ kind
    (reads_end (λ (xs : List FuncId × List (List Op)). record { place = e.place; ty = e.ty; funcs = xs.0; exprs = xs.1 }) list)))

-- the part of a flag that tells the place
place_small : (ty : ValType) (place : ElemPlace) → place_flag ty place < 4
place_small ty (places.Active table init) = active_small ((table.0 == 0) && is_func_ref ty)
place_small ty places.Passive = omega arith
place_small ty places.Declared = omega arith

-- the spelling of a segment whose entries are expressions, or functions
abbrev elem_spelled : Elem → Bool → List ℕ
elem_spelled e exprs = flag_at e.ty e.place exprs ∷ (place_bytes e.ty e.place ++ (kind_bytes e.ty (place_flag e.ty e.place) exprs ++ (if exprs then list_bytes expression_bytes e.exprs else list_bytes func_id_bytes e.funcs)))

-- a segment of expressions
elem_of_exprs : (counts : Counts) (e : Elem) → FitsElemPlace counts e.place → is_reference e.ty ≡ true → e.funcs ≡ [] → length e.exprs < 2 ^ 32 → AllByRecursion (FitsInitials counts) e.exprs → Reads (elem counts) (elem_spelled e true) e
elem_of_exprs counts e place_fits kind_fits none few all =
    let small : place_flag e.ty e.place < 4 = place_small e.ty e.place in
    let flags : ℕ = flag_at e.ty e.place true in
    let high : ltb flags 4 ≡ false = le-ltb flags 4 (omega arith) in
    elem_with counts flags e (omega arith) (elem_flags counts e.ty e.place true place_fits) (elem_place_again counts e.ty e.place true place_fits) (elem_type_again e.ty e.place true kind_fits)
    (subst (λ funcs. Reads (elem_entries counts flags) (list_bytes expression_bytes e.exprs) (funcs, e.exprs)) (sym none) (exprs_again counts flags e.exprs high few all))

-- a segment of functions
elem_of_funcs : (counts : Counts) (e : Elem) → FitsElemPlace counts e.place → e.ty ≡ FuncRef → e.exprs ≡ [] → length e.funcs < 2 ^ 32 → AllByRecursion (FitsFuncId counts) e.funcs → Reads (elem counts) (elem_spelled e false) e
elem_of_funcs counts e place_fits kind_fits none few all =
    let small : place_flag e.ty e.place < 4 = place_small e.ty e.place in
    let flags : ℕ = flag_at e.ty e.place false in
    let low : ltb flags 4 ≡ true = lt-ltb flags 4 (omega arith) in
    elem_with counts flags e (omega arith) (elem_flags counts e.ty e.place false place_fits) (elem_place_again counts e.ty e.place false place_fits) (elem_type_again e.ty e.place false kind_fits)
    (subst (λ exprs. Reads (elem_entries counts flags) (list_bytes func_id_bytes e.funcs) (e.funcs, exprs)) (sym none) (funcs_again counts flags e.funcs low few all))

-- no expressions, of functions
pub no_exprs : (e : Elem) → has_exprs e ≡ false → (e.ty ≡ FuncRef) × (e.exprs ≡ [])
no_exprs e is =
    let p = or_parts (not (length e.exprs == 0)) (not (is_func_ref e.ty)) is in
    (func_ref_of e.ty (not-false (is_func_ref e.ty) p.1), nil_from_length e.exprs (eqb-true (length e.exprs) 0 (not-false (length e.exprs == 0) p.0)))

pub elem_again : (counts : Counts) (e : Elem) → FitsElem counts e → Reads (elem counts) (elem_bytes e) e
unfolding elem_bytes
elem_again counts e h = elim (cases_Bool (has_exprs e)) [
  | inl is ↦
      let fits : FitsElemList counts e true = subst (λ exprs. FitsElemList counts e exprs) is h.entries_fit in
      subst (λ exprs. Reads (elem counts) (elem_spelled e exprs) e) (sym is) (elem_of_exprs counts e h.place_fits fits.0 fits.1 fits.2 fits.3)
  | inr is ↦
      let fits : FitsElemList counts e false = subst (λ exprs. FitsElemList counts e exprs) is h.entries_fit in
      let p = no_exprs e is in
      subst (λ exprs. Reads (elem counts) (elem_spelled e exprs) e) (sym is) (elem_of_funcs counts e h.place_fits p.0 p.1 fits.0 fits.1)
]

-- ---- data segments

-- a data segment is read again where its place is
segment_with : (counts : Counts) (flags : ℕ) (s : Segment) {place : List ℕ} → flags < 128 → are_segment_flags counts flags ≡ true → Reads (segment_place counts flags) place s.place → length s.bytes < 2 ^ 32 → Reads (segment counts) (flags ∷ (place ++ framed_bytes s.bytes)) s
unfolding segment
segment_with counts flags s small ok place few =
    reads_bind _ (reads_allowed (are_segment_flags counts) (small_again flags small) ok)
    (reads_bind _ place
    (reads_end (λ bytes. record { place = s.place; bytes = bytes }) (blob_again s.bytes few)))

-- flags where a memory is there
memory_flags : (counts : Counts) (flags : ℕ) → ltb flags 3 ≡ true → 0 < counts.memories → are_segment_flags counts flags ≡ true
memory_flags counts flags small some = and_from _ _ small (or_left _ _ (lt-ltb 0 counts.memories some))

-- the memory that is left out
abbrev first_memory : MemoryId
first_memory = record { 0 = 0 }

-- whether memory 0 is left out
placed_again : (counts : Counts) (memory : MemoryId) (init : List Op) (bytes : List ℕ) (out : Bool) → (out ≡ true → memory.0 ≡ 0) → IsIndex counts.memories memory.0 → FitsInitials counts init → length bytes < 2 ^ 32 → Reads (segment counts) (((if out then 0 ∷ [] else 2 ∷ number_bytes memory.0) ++ expression_bytes init) ++ framed_bytes bytes) (record { place = Some (memory, init); bytes = bytes })
unfolding segment_place segment_memory
placed_again counts memory init bytes true first named fits few =
    subst (λ n. Reads (segment counts) ((0 ∷ expression_bytes init) ++ framed_bytes bytes) (record { place = Some (record { 0 = n }, init); bytes = bytes })) (sym (first refl))
    (segment_with counts 0 (record { place = Some (record { 0 = 0 }, init); bytes = bytes }) (omega arith) (memory_flags counts 0 refl (omega (arith, named.0)))
    (reads_end (λ offset. Some (first_memory, offset)) (initial_again counts init fits)) few)
placed_again counts memory init bytes false first named fits few =
    segment_with counts 2 (record { place = Some (memory, init); bytes = bytes }) (omega arith) (memory_flags counts 2 refl (omega (arith, named.0)))
    (reads_bind _ (ops.memory_again counts memory named) (reads_end (λ offset. Some (memory, offset)) (initial_again counts init fits))) few

-- a data segment at a place, or at none
segment_at : (counts : Counts) (place : Option (MemoryId × List Op)) (bytes : List ℕ) → FitsSegmentPlace counts place → length bytes < 2 ^ 32 → Reads (segment counts) (segment_place_bytes place ++ framed_bytes bytes) (record { place = place; bytes = bytes })
unfolding segment_place
segment_at counts None bytes h few = segment_with counts 1 (record { place = None; bytes = bytes }) (omega arith) (and_from _ _ refl (or_right _ _ refl)) (reads_pure None) few
segment_at counts (Some p) bytes h few = placed_again counts p.0 p.1 bytes (p.0.0 == 0) (λ is. eqb-true p.0.0 0 is) h.0 h.1 few

pub segment_again : (counts : Counts) (s : Segment) → FitsSegment counts s → Reads (segment counts) (segment_bytes s) s
unfolding segment_bytes
segment_again counts s h = segment_at counts s.place s.bytes h.place_fits h.bytes_few

-- ---- custom sections

-- the bytes behind its name are all that is left
pub custom_again : (place : ℕ) (c : Custom) → FitsCustom c → (after : ℕ) × (custom (record { place = place; bytes = custom_bytes c }) ≡ Ok (c, record { place = after; bytes = [] }))
unfolding custom custom_bytes
custom_again place c h =
    let p = (name_again c.name h).again place c.bytes in
    (p.0 + length c.bytes, rw p.1 refl)
