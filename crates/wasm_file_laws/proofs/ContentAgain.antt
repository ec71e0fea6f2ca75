-- The content of each section that is written is read again: the lists so far with one more.
use Rattle.std.proofs.Common.{◌≡◌, ℕ, suc, ◌+◌, ◌-◌, ◌<◌, ◌≤◌, ◌^◌, true, ◌&&◌, List, [], ◌∷◌, ◌++◌, length, map, Some, refl, sym, ap, arith, leb, eqb, slice_get}
use Rattle.std.specs.List.{flat_map, AllByRecursion}
use Rattle.std.proofs.lemmas.Bool.{le-leb, eq-eqb}
use Rattle.std.proofs.lemmas.List.{length-append}
use Rattle.wasm_bytes.specs.declared.counts.Counts.{Counts}
use Rattle.wasm_bytes.specs.Reading.{for_each}
use Rattle.wasm_bytes.specs.Numbers.{number_bytes}
use Rattle.wasm_bytes.specs.Spelling.{list_bytes, framed_bytes}
use Rattle.wasm_bytes.specs.Reads.{Reads}
use Rattle.wasm_bytes.proofs.ReadAgain.{reads_pure, reads_bind, reads_end, reads_allowed, reads_entries, number32_again}
use Rattle.wasm_types.specs.Spelling.{func_type_bytes}
use Rattle.wasm_code.specs.Spelling.{body_bytes, code_bytes}
use Rattle.wasm_types.specs.declared.ids.FuncId.{FuncId}
use Rattle.wasm_types.specs.declared.ids.TypeId.{TypeId}
use Rattle.wasm_code.specs.declared.body.Body.{Body}
use Rattle.wasm_types.specs.declared.types.FuncType.{FuncType}
use Rattle.wasm_types.specs.declared.types.Limits.{Limits}
use Rattle.wasm_ops_laws.specs.Fits.{IsShort, joined_body}
use Rattle.wasm_ops_laws.proofs.CodeAgain.{code_again}
use Rattle.wasm_file.specs.Entries.{memory_type, memory_limit}
use Rattle.wasm_file.specs.Parts.{most, number_of, is_func, is_table, is_memory, is_global, is_tag, counts_of, is_plain, params_of}
use Rattle.wasm_file.specs.Sections.{content, custom_section, type_section, import_section, function_section, table_section, memory_section, tag_section, with_globals, global_section, export_section, type_at, start_section, elem_section, data_count_section, function_body, code_section, is_told, data_section}
use Rattle.wasm_file.specs.Spelling.{limits_bytes, table_bytes, tag_bytes, import_bytes, type_id_bytes, func_id_bytes, global_bytes, export_bytes, elem_bytes, segment_bytes, custom_bytes}
use Rattle.wasm_file.specs.declared.entries.Custom.{Custom}
use Rattle.wasm_file.specs.declared.entries.Elem.{Elem}
use Rattle.wasm_file.specs.declared.entries.Export.{Export}
use Rattle.wasm_file.specs.declared.entries.FileGlobal.{FileGlobal}
use Rattle.wasm_file.specs.declared.entries.FileImport.{FileImport}
use Rattle.wasm_file.specs.declared.entries.Parts.{Parts}
use Rattle.wasm_file.specs.declared.entries.Segment.{Segment}
use Rattle.wasm_file.specs.declared.entries.TableType.{TableType}
use Rattle.wasm_file_laws.specs.FileFits.{FitsFuncType, FitsTypeId, FitsFuncId, FitsLimits, FitsTable, FitsImport, FitsExport, FitsGlobal, FitsElem, FitsSegment, FitsCustom, FitBodies}
use Rattle.wasm_file_laws.proofs.EntriesAgain.{func_type_again, type_id_again, func_id_again, limits_again, table_again, tag_again, import_again, export_again, global_again, elem_again, segment_again, custom_again}
use Rattle.wasm_file_laws.proofs.SectionsAgain.{ReadsWhole, reads_whole, reads_listed}

-- ---- lists

pub types_again : (q : Parts) (xs : List FuncType) → length xs ≤ most → AllByRecursion FitsFuncType xs → ReadsWhole (content 1 q) (list_bytes func_type_bytes xs) (record q { types = xs })
unfolding content type_section
types_again q xs few all = reads_whole (reads_end (λ (ys : List FuncType). record q { types = ys }) (reads_listed FitsFuncType most (func_type_again (counts_of q)) xs few (omega arith) all))

pub imports_again : (q : Parts) (xs : List FileImport) → length xs ≤ most → AllByRecursion (FitsImport (counts_of q)) xs → ReadsWhole (content 2 q) (list_bytes import_bytes xs) (record q { imports = xs })
unfolding content import_section
imports_again q xs few all = reads_whole (reads_end (λ (ys : List FileImport). record q { imports = ys }) (reads_listed (FitsImport (counts_of q)) most (import_again (counts_of q)) xs few (omega arith) all))

pub functions_again : (q : Parts) (xs : List TypeId) → number_of is_func q.imports + length xs ≤ most → AllByRecursion (FitsTypeId (counts_of q)) xs → ReadsWhole (content 3 q) (list_bytes type_id_bytes xs) (record q { functions = xs })
unfolding content function_section
functions_again q xs few all = reads_whole (reads_end (λ (ys : List TypeId). record q { functions = ys }) (reads_listed (FitsTypeId (counts_of q)) (most - number_of is_func q.imports) (type_id_again (counts_of q)) xs (omega arith) (omega arith) all))

pub tables_again : (q : Parts) (xs : List TableType) → number_of is_table q.imports + length xs ≤ most → AllByRecursion FitsTable xs → ReadsWhole (content 4 q) (list_bytes table_bytes xs) (record q { tables = xs })
unfolding content table_section
tables_again q xs few all = reads_whole (reads_end (λ (ys : List TableType). record q { tables = ys }) (reads_listed FitsTable (most - number_of is_table q.imports) table_again xs (omega arith) (omega arith) all))

pub memories_again : (q : Parts) (xs : List Limits) → number_of is_memory q.imports + length xs ≤ most → AllByRecursion (FitsLimits memory_limit) xs → ReadsWhole (content 5 q) (list_bytes limits_bytes xs) (record q { memories = xs })
unfolding content memory_section memory_type
memories_again q xs few all = reads_whole (reads_end (λ (ys : List Limits). record q { memories = ys }) (reads_listed (FitsLimits memory_limit) (most - number_of is_memory q.imports) (limits_again memory_limit) xs (omega arith) (omega arith) all))

pub tags_again : (q : Parts) (xs : List TypeId) → number_of is_tag q.imports + length xs ≤ most → AllByRecursion (FitsTypeId (counts_of q)) xs → ReadsWhole (content 13 q) (list_bytes tag_bytes xs) (record q { tags = xs })
unfolding content tag_section
tags_again q xs few all = reads_whole (reads_end (λ (ys : List TypeId). record q { tags = ys }) (reads_listed (FitsTypeId (counts_of q)) (most - number_of is_tag q.imports) (tag_again (counts_of q)) xs (omega arith) (omega arith) all))

pub globals_again : (q : Parts) (xs : List FileGlobal) → number_of is_global q.imports + length xs ≤ most → AllByRecursion (FitsGlobal (with_globals (length xs) q)) xs → ReadsWhole (content 6 q) (list_bytes global_bytes xs) (record q { globals = xs })
unfolding content global_section list_bytes
globals_again q xs few all =
    let room : ℕ = most - number_of is_global q.imports in
    reads_whole (reads_bind _ (reads_allowed (λ n. leb n room) (number32_again (length xs) (omega arith)) (le-leb (length xs) room (omega arith)))
    (reads_end (λ (ys : List FileGlobal). record q { globals = ys }) (reads_entries (FitsGlobal (with_globals (length xs) q)) (global_again (with_globals (length xs) q)) xs all)))

pub exports_again : (q : Parts) (xs : List Export) → length xs ≤ most → AllByRecursion (FitsExport (counts_of q)) xs → ReadsWhole (content 7 q) (list_bytes export_bytes xs) (record q { exports = xs })
unfolding content export_section
exports_again q xs few all = reads_whole (reads_end (λ (ys : List Export). record q { exports = ys }) (reads_listed (FitsExport (counts_of q)) most (export_again (counts_of q)) xs few (omega arith) all))

pub elems_again : (q : Parts) (xs : List Elem) → length xs ≤ most → AllByRecursion (FitsElem (counts_of q)) xs → ReadsWhole (content 9 q) (list_bytes elem_bytes xs) (record q { elems = xs })
unfolding content elem_section
elems_again q xs few all = reads_whole (reads_end (λ (ys : List Elem). record q { elems = ys }) (reads_listed (FitsElem (counts_of q)) most (elem_again (counts_of q)) xs few (omega arith) all))

pub segments_again : (q : Parts) (xs : List Segment) → length xs ≤ most → is_told q.data_count (length xs) ≡ true → AllByRecursion (FitsSegment (counts_of q)) xs → ReadsWhole (content 11 q) (list_bytes segment_bytes xs) (record q { segments = xs })
unfolding content data_section list_bytes
segments_again q xs few told all =
    reads_whole (reads_bind _ (reads_allowed (λ n. leb n most && is_told q.data_count n) (number32_again (length xs) (omega arith)) (rw (le-leb (length xs) most few, told) refl))
    (reads_end (λ (ys : List Segment). record q { segments = ys }) (reads_entries (FitsSegment (counts_of q)) (segment_again (counts_of q)) xs all)))

-- ---- bodies

-- 32 bits count the bytes of a body where they count those of a list that begins with it
short_first : (b : Body) (others : List ℕ) → length (code_bytes b ++ others) < 2 ^ 32 → IsShort b
unfolding code_bytes framed_bytes
short_first b others short = omega (arith, length-append (number_bytes (length (body_bytes b)) ++ body_bytes b) others, length-append (number_bytes (length (body_bytes b))) (body_bytes b))

-- and those of the others
short_others : (b : Body) (others : List ℕ) → length (code_bytes b ++ others) < 2 ^ 32 → length others < 2 ^ 32
short_others b others short = omega (arith, length-append (code_bytes b) others)

-- there are as many functions as bodies
pub as_many : (counts : Counts) (types : List FuncType) (functions : List TypeId) (bodies : List Body) → FitBodies counts types functions bodies → length functions ≡ length bodies
as_many counts types [] [] fit = refl
as_many counts types [] (b ∷ bodies) fit = absurd fit
as_many counts types (ty ∷ functions) [] fit = absurd fit
as_many counts types (ty ∷ functions) (b ∷ bodies) fit = ap suc (as_many counts types functions bodies fit.1)

-- a body for each function
reads_bodies : (counts : Counts) (types : List FuncType) (functions : List TypeId) (bodies : List Body) → FitBodies counts types functions bodies → length (flat_map code_bytes bodies) < 2 ^ 32 → Reads (for_each functions (function_body counts types)) (flat_map code_bytes bodies) (map joined_body bodies)
unfolding for_each function_body
reads_bodies counts types [] [] fit short = reads_pure []
reads_bodies counts types [] (b ∷ bodies) fit short = absurd fit
reads_bodies counts types (ty ∷ functions) [] fit short = absurd fit
reads_bodies counts types (ty ∷ functions) (b ∷ bodies) fit short =
    let others : List ℕ = flat_map code_bytes bodies in
    reads_bind _ (code_again counts (params_of (slice_get types ty.0)) b fit.0 (short_first b others short))
    (reads_end (λ (ys : List Body). joined_body b ∷ ys) (reads_bodies counts types functions bodies fit.1 (short_others b others short)))

pub bodies_again : (q : Parts) (bodies : List Body) → length q.functions ≤ most → FitBodies (counts_of q) q.types q.functions bodies → length (list_bytes code_bytes bodies) < 2 ^ 32 → ReadsWhole (content 10 q) (list_bytes code_bytes bodies) (record q { bodies = map joined_body bodies })
unfolding content code_section list_bytes
bodies_again q bodies few fit short =
    let same : length q.functions ≡ length bodies = as_many (counts_of q) q.types q.functions bodies fit in
    let counted : length (flat_map code_bytes bodies) < 2 ^ 32 = omega (arith, length-append (number_bytes (length bodies)) (flat_map code_bytes bodies)) in
    reads_whole (reads_bind _ (reads_allowed (λ n. eqb n (length q.functions)) (number32_again (length bodies) (omega arith)) (eq-eqb (length bodies) (length q.functions) (sym same)))
    (reads_end (λ (ys : List Body). record q { bodies = ys }) (reads_bodies (counts_of q) q.types q.functions bodies fit counted)))

-- ---- the start function, the number of segments, and custom sections

pub start_again : (q : Parts) (func : FuncId) → FitsFuncId (counts_of q) func → is_plain (type_at q func) ≡ true → ReadsWhole (content 8 q) (func_id_bytes func) (record q { start = Some func })
unfolding content start_section
start_again q func fits plain = reads_whole (reads_end (λ (f : FuncId). record q { start = Some f }) (reads_allowed (λ f. is_plain (type_at q f)) (func_id_again (counts_of q) func fits) plain))

pub data_count_again : (q : Parts) (n : ℕ) → n ≤ most
    → ReadsWhole (content 12 q) (number_bytes n) (record q { data_count = Some n })
unfolding content data_count_section
data_count_again q n few =
    reads_whole (reads_end (λ (m : ℕ). record q { data_count = Some m })
    (reads_allowed (λ m. leb m most) (number32_again n (omega arith)) (le-leb n most few)))

pub customs_again : (q : Parts) (c : Custom) → FitsCustom c → ReadsWhole (content 0 q) (custom_bytes c) (record q { customs = q.customs ++ c ∷ [] })
unfolding content custom_section
customs_again q c fits = record { again = λ place. let p = custom_again place c fits in (p.0, rw p.1 refl) }
