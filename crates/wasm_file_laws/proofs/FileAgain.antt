-- A file that is written is read again as the same lists, with the runs of locals of each body joined.
use Rattle.std.proofs.Common.{◌≡◌, ℕ, ◌≤◌, true, List, [], ◌∷◌, ◌++◌, length, map, Option, Some, None, Ok, refl, sym, subst, ◌∙◌, append_assoc, append-nil, arith, eqb}
use Rattle.std.specs.List.{flat_map, AllByRecursion}
use Rattle.std.proofs.lemmas.Bool.{eq-eqb, eqb-true}
use Rattle.std.proofs.lemmas.List.{length-map}
use Rattle.wasm_bytes.specs.declared.counts.Counts.{Counts}
use Rattle.wasm_bytes.specs.Numbers.{number_bytes}
use Rattle.wasm_bytes.specs.Items.{exactly}
use Rattle.wasm_bytes.specs.Reads.{Reads}
use Rattle.wasm_bytes.proofs.ReadAgain.{reads_pure, reads_bind, reads_byte, reads_allowed}
use Rattle.wasm_types.specs.Spelling.{func_type_bytes}
use Rattle.wasm_code.specs.Spelling.{code_bytes}
use Rattle.wasm_types.specs.declared.ids.FuncId.{FuncId}
use Rattle.wasm_ops_laws.specs.Fits.{joined_body}
use Rattle.wasm_file.specs.Frames.{preamble, preamble_of, preamble_bytes}
use Rattle.wasm_file.specs.Grammar.{at_start, all_sections, whole, parts_of}
use Rattle.wasm_file.specs.Parts.{most, counts_of, func_types, no_parts}
use Rattle.wasm_file.specs.Sections.{is_told}
use Rattle.wasm_file.specs.Spelling.{limits_bytes, table_bytes, tag_bytes, import_bytes, type_id_bytes, func_id_bytes, global_bytes, export_bytes, elem_bytes, segment_bytes, custom_bytes, section_bytes, list_section, start_section, data_count_section, custom_section, first_sections, middle_sections, last_sections, part_sections}
use Rattle.wasm_file.specs.declared.entries.Custom.{Custom}
use Rattle.wasm_file.specs.declared.entries.Parts.{Parts}
use Rattle.wasm_file_laws.specs.FileFits.{FitsImport, FitsExport, FitsGlobal, FitsElem, FitsCustom, FitsStart, FitsFile, AreShortSections, file_bytes, joined_file}
use Rattle.wasm_file_laws.proofs.CountsGrow.{AreNamedAtMost, fits_initials_grow, fits_import_grows, fits_export_grows, fits_elem_grows}
use Rattle.wasm_file_laws.proofs.SectionsAgain.{Ends, ends_none, Leads, leads_none, leads_both, leads_at, leads_one, leads_list, IsShortSection}
use Rattle.wasm_file_laws.proofs.EachItem.{all_weaker, all_apart}
use Rattle.wasm_file_laws.proofs.ContentAgain.{types_again, imports_again, functions_again, tables_again, memories_again, tags_again, globals_again, exports_again, elems_again, segments_again, as_many, bodies_again, start_again, data_count_again, customs_again}

-- ---- what fits the counts of a file fits those of the sections before it

-- the counts before the segments of both kinds
abbrev early : Counts → Counts
early counts = record counts { elems = 0; segments = 0 }

-- neither an initial expression nor an export nor an element segment names a segment
named_early : (counts : Counts) → AreNamedAtMost counts (early counts)
named_early counts = record { funcs = omega arith; tables = omega arith; memories = omega arith; globals = omega arith; tags = omega arith }

-- ---- the lists as far as they are read, section by section

-- with the types
abbrev with_types : Parts → Parts
with_types p = record no_parts { types = p.types }

-- and the imports
abbrev with_imports : Parts → Parts
with_imports p = record (with_types p) { imports = p.imports }

-- and the functions
abbrev with_functions : Parts → Parts
with_functions p = record (with_imports p) { functions = p.functions }

-- and the tables
abbrev with_tables : Parts → Parts
with_tables p = record (with_functions p) { tables = p.tables }

-- and the memories
abbrev with_memories : Parts → Parts
with_memories p = record (with_tables p) { memories = p.memories }

-- and the tags
abbrev with_tags : Parts → Parts
with_tags p = record (with_memories p) { tags = p.tags }

-- and the globals
abbrev with_globals : Parts → Parts
with_globals p = record (with_tags p) { globals = p.globals }

-- and the exports
abbrev with_exports : Parts → Parts
with_exports p = record (with_globals p) { exports = p.exports }

-- and the start function
abbrev with_start : Parts → Parts
with_start p = record (with_exports p) { start = p.start }

-- and the element segments
abbrev with_elems : Parts → Parts
with_elems p = record (with_start p) { elems = p.elems }

-- and the number of data segments
abbrev with_data_count : Parts → Parts
with_data_count p = record (with_elems p) { data_count = p.data_count }

-- and the bodies, with their runs of locals joined
abbrev with_bodies : Parts → Parts
with_bodies p = record (with_data_count p) { bodies = map joined_body p.bodies }

-- and the data segments
abbrev with_segments : Parts → Parts
with_segments p = record (with_bodies p) { segments = p.segments }

-- types, imports, functions and tables
first_lead : (p : Parts) → FitsFile p → AllByRecursion IsShortSection (first_sections p) → Leads 0 no_parts (first_sections p) 4 (with_tables p)
unfolding first_sections
first_lead p fits short =
    let after_types = all_apart IsShortSection (list_section 1 func_type_bytes p.types) _ short in
    let after_imports = all_apart IsShortSection (list_section 2 import_bytes p.imports) _ after_types.1 in
    let after_functions = all_apart IsShortSection (list_section 3 type_id_bytes p.functions) _ after_imports.1 in
    let imports_fit = all_weaker (FitsImport (counts_of p)) (FitsImport (counts_of (with_types p))) (fits_import_grows (counts_of p) (counts_of (with_types p)) (omega arith)) p.imports fits.imports_fit in
    leads_both 1 (leads_list 1 func_type_bytes (λ xs. record no_parts { types = xs }) p.types refl (omega arith) (omega arith) after_types.0 (λ _. types_again no_parts p.types fits.few.types_few fits.types_fit))
    (leads_both 2 (leads_list 2 import_bytes (λ xs. record (with_types p) { imports = xs }) p.imports refl (omega arith) (omega arith) after_imports.0 (λ _. imports_again (with_types p) p.imports fits.few.imports_few imports_fit))
    (leads_both 3 (leads_list 3 type_id_bytes (λ xs. record (with_imports p) { functions = xs }) p.functions refl (omega arith) (omega arith) after_functions.0 (λ _. functions_again (with_imports p) p.functions fits.few.funcs_few fits.functions_fit))
    (leads_list 4 table_bytes (λ xs. record (with_functions p) { tables = xs }) p.tables refl (omega arith) (omega arith) after_functions.1 (λ _. tables_again (with_functions p) p.tables fits.few.tables_few fits.tables_fit))))

-- memories, tags, globals and exports
middle_lead : (p : Parts) → FitsFile p → AllByRecursion IsShortSection (middle_sections p) → Leads 4 (with_tables p) (middle_sections p) 8 (with_exports p)
unfolding middle_sections
middle_lead p fits short =
    let after_memories = all_apart IsShortSection (list_section 5 limits_bytes p.memories) _ short in
    let after_tags = all_apart IsShortSection (list_section 13 tag_bytes p.tags) _ after_memories.1 in
    let after_globals = all_apart IsShortSection (list_section 6 global_bytes p.globals) _ after_tags.1 in
    let globals_fit = all_weaker (FitsGlobal (counts_of p)) (FitsGlobal (early (counts_of p))) (λ g. fits_initials_grow (counts_of p) (early (counts_of p)) (named_early (counts_of p)) g.init) p.globals fits.globals_fit in
    let exports_fit = all_weaker (FitsExport (counts_of p)) (FitsExport (early (counts_of p))) (fits_export_grows (counts_of p) (early (counts_of p)) (named_early (counts_of p))) p.exports fits.exports_fit in
    leads_both 5 (leads_list 5 limits_bytes (λ xs. record (with_tables p) { memories = xs }) p.memories refl (omega arith) (omega arith) after_memories.0 (λ _. memories_again (with_tables p) p.memories fits.few.memories_few fits.memories_fit))
    (leads_both 6 (leads_list 13 tag_bytes (λ xs. record (with_memories p) { tags = xs }) p.tags refl (omega arith) (omega arith) after_tags.0 (λ _. tags_again (with_memories p) p.tags fits.few.tags_few fits.tags_fit))
    (leads_both 7 (leads_list 6 global_bytes (λ xs. record (with_tags p) { globals = xs }) p.globals refl (omega arith) (omega arith) after_globals.0 (λ _. globals_again (with_tags p) p.globals fits.few.globals_few globals_fit))
    (leads_list 7 export_bytes (λ xs. record (with_globals p) { exports = xs }) p.exports refl (omega arith) (omega arith) after_globals.1 (λ _. exports_again (with_globals p) p.exports fits.few.exports_few exports_fit))))

-- the start function of a file is that of the sections before it
start_fits : (p : Parts) (start : Option FuncId) → FitsStart p start → FitsStart (with_exports p) start
unfolding func_types
start_fits p (Some func) fits = fits
start_fits p None fits = tt

-- the section of a start function, where there is one
start_lead : (q : Parts) (start : Option FuncId) → FitsStart (record q { start = None }) start → AllByRecursion IsShortSection (start_section start) → Leads 8 (record q { start = None }) (start_section start) 9 (record q { start = start })
start_lead q (Some func) fits short = leads_one 8 (func_id_bytes func) refl (omega arith) (omega arith) short.0 (start_again (record q { start = None }) func fits.0 fits.1)
start_lead q None fits short = leads_none (omega arith)

-- the section of the number of data segments, where it is told
data_count_lead : (q : Parts) (count : Option ℕ) (n : ℕ) → n ≤ most → is_told count n ≡ true → AllByRecursion IsShortSection (data_count_section count) → Leads 10 (record q { data_count = None }) (data_count_section count) 11 (record q { data_count = count })
data_count_lead q (Some told) n few is short =
    let same : n ≡ told = eqb-true n told is in
    leads_one 12 (number_bytes told) refl (omega arith) (omega arith) short.0 (data_count_again (record q { data_count = None }) told (omega arith))
data_count_lead q None n few is short = leads_none (omega arith)

-- the start function, element segments, the number of data segments, bodies and data segments
last_lead : (p : Parts) → FitsFile p → AllByRecursion IsShortSection (last_sections p) → Leads 8 (with_exports p) (last_sections p) 13 (with_segments p)
unfolding last_sections
last_lead p fits short =
    let after_start = all_apart IsShortSection (start_section p.start) _ short in
    let after_elems = all_apart IsShortSection (list_section 9 elem_bytes p.elems) _ after_start.1 in
    let after_count = all_apart IsShortSection (data_count_section p.data_count) _ after_elems.1 in
    let after_bodies = all_apart IsShortSection (list_section 10 code_bytes p.bodies) _ after_count.1 in
    let elems_fit = all_weaker (FitsElem (counts_of p)) (FitsElem (early (counts_of p))) (fits_elem_grows (counts_of p) (early (counts_of p)) (named_early (counts_of p))) p.elems fits.elems_fit in
    leads_both 9 (start_lead (with_exports p) p.start (start_fits p p.start fits.start_fits) after_start.0)
    (leads_both 10 (leads_list 9 elem_bytes (λ xs. record (with_start p) { elems = xs }) p.elems refl (omega arith) (omega arith) after_elems.0 (λ _. elems_again (with_start p) p.elems fits.few.elems_few elems_fit))
    (leads_both 11 (data_count_lead (with_elems p) p.data_count (length p.segments) fits.few.segments_few fits.count_told after_count.0)
    (leads_both 12 (leads_list 10 code_bytes (λ xs. record (with_data_count p) { bodies = map joined_body xs }) p.bodies refl (omega arith) (omega arith) after_bodies.0 (bodies_again (with_data_count p) p.bodies (omega (arith, fits.few.funcs_few)) fits.bodies_fit))
    (leads_list 11 segment_bytes (λ xs. record (with_bodies p) { segments = xs }) p.segments refl (omega arith) (omega arith) after_bodies.1 (λ _. segments_again (with_bodies p) p.segments fits.few.segments_few fits.count_told fits.segments_fit)))))

-- custom sections, in order behind those that stand
customs_lead : (rank : ℕ) (q : Parts) (cs : List Custom) → AllByRecursion FitsCustom cs → AllByRecursion IsShortSection (map custom_section cs) → Leads rank q (map custom_section cs) rank (record q { customs = q.customs ++ cs })
customs_lead rank q [] fit short = subst (λ xs. Leads rank q [] rank (record q { customs = xs })) (sym (append-nil q.customs)) (leads_none (omega arith))
customs_lead rank q (c ∷ cs) fit short =
    let more : Parts = record q { customs = q.customs ++ c ∷ [] } in
    let first : Leads rank q (custom_section c ∷ []) rank more = leads_at 0 (custom_bytes c) (λ r few. (refl, few)) short.0 (customs_again q c fit.0) in
    subst (λ xs. Leads rank q (map custom_section (c ∷ cs)) rank (record q { customs = xs })) (append_assoc q.customs (c ∷ []) cs)
    (leads_both rank first (customs_lead rank more cs fit.1 short.1))

-- all sections
file_lead : (p : Parts) → FitsFile p → AreShortSections p → Leads 0 no_parts (part_sections p) 13 (joined_file p)
unfolding part_sections
file_lead p fits short =
    let after_first = all_apart IsShortSection (first_sections p) _ short in
    let after_middle = all_apart IsShortSection (middle_sections p) _ after_first.1 in
    let after_last = all_apart IsShortSection (last_sections p) _ after_middle.1 in
    leads_both 4 (first_lead p fits after_first.0)
    (leads_both 8 (middle_lead p fits after_middle.0)
    (leads_both 13 (last_lead p fits after_last.0)
    (customs_lead 13 (with_segments p) p.customs fits.customs_fit after_last.1)))

-- ---- the whole file

-- the bytes before the sections
preamble_again : (bytes : List ℕ) → Reads (preamble_of bytes) bytes tt
unfolding preamble_of exactly
preamble_again [] = reads_pure tt
preamble_again (b ∷ bytes) = reads_bind _ (reads_allowed (λ c. eqb c b) (reads_byte b) (eq-eqb b b refl)) (preamble_again bytes)

pub file_again : (p : Parts) → FitsFile p → AreShortSections p → parts_of (file_bytes p) ≡ Ok (joined_file p)
unfolding parts_of whole preamble all_sections
file_again p fits short =
    let sections : List ℕ = flat_map section_bytes (part_sections p) in
    let begin = (preamble_again preamble_bytes).again 0 sections in
    let lead : Ends at_start (sections ++ []) (joined_file p) = (file_lead p fits short).leads 0 (omega arith) [] (joined_file p) (λ last few. ends_none last (joined_file p)) in
    let all : Ends at_start sections (joined_file p) = rw append-nil at lead in
    let end = all.ends (length sections) begin.0 (omega arith) in
    let same : length p.functions ≡ length (map joined_body p.bodies) = as_many (counts_of p) p.types p.functions p.bodies fits.bodies_fit ∙ sym (length-map p.bodies joined_body) in
    rw (begin.1, end.2, eq-eqb (length p.functions) (length (map joined_body p.bodies)) same, fits.count_told) refl
