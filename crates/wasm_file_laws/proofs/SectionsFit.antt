-- The sections that are read fit, and the lists of those that may still come are empty.
use Rattle.std.proofs.Common.{◌≡◌, ℕ, zero, suc, ◌+◌, ◌-◌, ◌<◌, ◌≤◌, Bool, true, ◌&&◌, List, [], ◌∷◌, ◌++◌, length, Option, Some, None, Result, refl, sym, ap, subst, arith, inl, inr, ltb, leb, eqb}
use Rattle.std.specs.Prelude.{◌⊎◌, slice_get}
use Rattle.std.specs.List.{AllByRecursion}
use Rattle.std.proofs.lemmas.Bool.{ltb-true, leb-true, eqb-true, cases_Bool, and_parts}
use Rattle.std.proofs.lemmas.List.Sums.{count_by-le-length}
use Rattle.wasm_bytes.specs.declared.counts.Counts.{Counts}
use Rattle.wasm_bytes.specs.Reading.{Input, for_each}
use Rattle.wasm_bytes.specs.Reads.{Finds}
use Rattle.wasm_bytes.proofs.ReadFinds.{finds_pure, finds_bind, finds_if, finds_byte, finds_allowed, finds_filled, finds_entries, finds_number32}
use Rattle.wasm_code.specs.Locals.{most_locals, joined_runs}
use Rattle.wasm_ops.specs.Numbers.{or_zero}
use Rattle.wasm_types.specs.declared.ids.FuncId.{FuncId}
use Rattle.wasm_types.specs.declared.ids.TypeId.{TypeId}
use Rattle.wasm_code.specs.declared.body.Body.{Body}
use Rattle.wasm_types.specs.declared.types.FuncType.{FuncType}
use Rattle.wasm_ops_laws.proofs.OpFinds.{type_found, func_found}
use Rattle.wasm_ops_laws.proofs.CodeFinds.{code_found}
use Rattle.wasm_file.specs.Entries.{memory_limit}
use Rattle.wasm_file.specs.Grammar.{Progress, may_come, rank_after, «section»}
use Rattle.wasm_file.specs.Parts.{most, number_of, is_func, is_table, is_memory, is_global, is_tag, counts_of, func_types, is_plain, params_of}
use Rattle.wasm_file.specs.Sections.{custom_section, type_section, import_section, function_section, table_section, memory_section, tag_section, with_globals, global_section, export_section, type_at, start_section, elem_section, data_count_section, function_body, code_section, is_told, data_section, content}
use Rattle.wasm_file.specs.declared.entries.FileImport.{FileImport}
use Rattle.wasm_file.specs.declared.entries.ImportType.{ImportType}
use Rattle.wasm_file.specs.declared.entries.Parts.{Parts}
use Rattle.wasm_file_laws.specs.FileFits.{FitsFuncType, FitsLimits, FitsTable, FitsTypeId, FitsImport, FitsExport, FitsGlobal, FitsElem, FitsSegment, FitsCustom, FitBodies, FitsStart, AreFewEntries}
use Rattle.wasm_file_laws.proofs.CountsGrow.{AreAtMost, named_at_most, index_grows, at_most_same, fits_initials_grow, fits_import_grows, fits_export_grows, fits_elem_grows, fits_segment_grows}
use Rattle.wasm_file_laws.proofs.EachItem.{all_weaker, all_both}
use Rattle.wasm_file_laws.proofs.EntriesFit.{HasBytes, finds_listed, func_type_found, memory_type_found, table_type_found, tag_type_found, import_found, export_found, global_entry_found, elem_found, segment_found, custom_found}

-- ---- what holds of the lists so far

-- the lists of the sections that may still come are empty
pub record AreAhead (rank : ℕ) (p : Parts) : Type 0 where
  pub types : rank < 1 → p.types ≡ []
  pub imports : rank < 2 → p.imports ≡ []
  pub functions : rank < 3 → p.functions ≡ []
  pub tables : rank < 4 → p.tables ≡ []
  pub memories : rank < 5 → p.memories ≡ []
  pub tags : rank < 6 → p.tags ≡ []
  pub globals : rank < 7 → p.globals ≡ []
  pub start : rank < 9 → p.start ≡ None
  pub elems : rank < 10 → p.elems ≡ []
  pub data_count : rank < 11 → p.data_count ≡ None
  pub bodies : rank < 12 → p.bodies ≡ []

-- the lists fit, where there are so many entries
pub record FitLists (counts : Counts) (p : Parts) : Type 0 where
  pub types : AllByRecursion FitsFuncType p.types
  pub imports : AllByRecursion (FitsImport counts) p.imports
  pub functions : AllByRecursion (FitsTypeId counts) p.functions
  pub tables : AllByRecursion FitsTable p.tables
  pub memories : AllByRecursion (FitsLimits memory_limit) p.memories
  pub tags : AllByRecursion (FitsTypeId counts) p.tags
  pub globals : AllByRecursion (FitsGlobal counts) p.globals
  pub exports : AllByRecursion (FitsExport counts) p.exports
  pub elems : AllByRecursion (FitsElem counts) p.elems
  pub segments : AllByRecursion (FitsSegment counts) p.segments
  pub customs : AllByRecursion (λ c. FitsCustom c × HasBytes c) p.customs
  pub joined : AllByRecursion (λ b. joined_runs b.locals ≡ b.locals) p.bodies

-- no body, or one for each function, which fits its type
abbrev pub HaveBodies : Parts → Type 0
HaveBodies p = (p.bodies ≡ []) ⊎ FitBodies (counts_of p) p.types p.functions p.bodies

-- what is read up to the section of a rank fits
pub record IsSoFar (rank : ℕ) (p : Parts) : Type 0 where
  pub ahead : AreAhead rank p
  pub few : AreFewEntries p
  pub lists : FitLists (counts_of p) p
  pub start : FitsStart p p.start
  pub bodies : HaveBodies p

-- behind a section fewer may come
ahead_after : (rank after : ℕ) (p : Parts) → rank < after → AreAhead rank p → AreAhead after p
ahead_after rank after p lt h = record {
  types = λ l. h.types (omega (arith, l, lt));
  imports = λ l. h.imports (omega (arith, l, lt));
  functions = λ l. h.functions (omega (arith, l, lt));
  tables = λ l. h.tables (omega (arith, l, lt));
  memories = λ l. h.memories (omega (arith, l, lt));
  tags = λ l. h.tags (omega (arith, l, lt));
  globals = λ l. h.globals (omega (arith, l, lt));
  start = λ l. h.start (omega (arith, l, lt));
  elems = λ l. h.elems (omega (arith, l, lt));
  data_count = λ l. h.data_count (omega (arith, l, lt));
  bodies = λ l. h.bodies (omega (arith, l, lt));
}

-- lists that fit so many entries fit more of them
lists_grow : (a b : Counts) (p : Parts) → AreAtMost a b → FitLists a p → FitLists b p
lists_grow a b p le h = let named = named_at_most a b le in record {
  types = h.types;
  imports = all_weaker (FitsImport a) (FitsImport b) (fits_import_grows a b le.types) p.imports h.imports;
  functions = all_weaker (FitsTypeId a) (FitsTypeId b) (λ ty i. index_grows a.types b.types ty.0 le.types i) p.functions h.functions;
  tables = h.tables;
  memories = h.memories;
  tags = all_weaker (FitsTypeId a) (FitsTypeId b) (λ ty i. index_grows a.types b.types ty.0 le.types i) p.tags h.tags;
  globals = all_weaker (FitsGlobal a) (FitsGlobal b) (λ g i. fits_initials_grow a b named g.init i) p.globals h.globals;
  exports = all_weaker (FitsExport a) (FitsExport b) (fits_export_grows a b named) p.exports h.exports;
  elems = all_weaker (FitsElem a) (FitsElem b) (fits_elem_grows a b named) p.elems h.elems;
  segments = all_weaker (FitsSegment a) (FitsSegment b) (fits_segment_grows a b named) p.segments h.segments;
  customs = h.customs;
  joined = h.joined;
}

-- imports of a kind are imports
number_few : (kind : ImportType → Bool) (imports : List FileImport) → number_of kind imports ≤ length imports
unfolding number_of
number_few kind imports = count_by-le-length (λ (i : FileImport). kind i.ty) imports

-- none of no imports
pub number_none : (kind : ImportType → Bool) (imports : List FileImport) → imports ≡ [] → number_of kind imports ≡ 0
unfolding number_of
number_none kind imports none = rw none refl

-- no start function fits
no_start : (p : Parts) (start : Option FuncId) → start ≡ None → FitsStart p start
no_start p start none = rw none tt

-- a start function stays one while types and functions do
same_start : (p q : Parts) → q.types ≡ p.types → q.imports ≡ p.imports → q.functions ≡ p.functions → (start : Option FuncId) → FitsStart p start → FitsStart q start
unfolding func_types
same_start p q types imports functions None h = tt
same_start p q types imports functions (Some func) h = rw (types, imports, functions) h

-- a list that has been read isn't ahead
passed : {A : Type 0} (n : ℕ) (x y : A) → n < n → x ≡ y
passed n x y lt = absurd (omega (arith, lt))

-- ---- one more list

-- any list is at least as long as an empty one
longer : {A : Type 0} (old new : List A) → old ≡ [] → length old ≤ length new
longer old new none = let short : length old ≡ 0 = ap length none in omega (arith, short)

-- the same behind so many imported entries
more_behind : {A : Type 0} (n : ℕ) (old new : List A) → old ≡ [] → n + length old ≤ n + length new
more_behind n old new none = let le = longer old new none in omega (arith, le)

-- the same of what is imported
more_imported : (kind : ImportType → Bool) (old new : List FileImport) (n : ℕ) → old ≡ [] → number_of kind old + n ≤ number_of kind new + n
more_imported kind old new n none = omega (arith, number_none kind old none)

-- imports alone aren't too many
few_imported : {A : Type 0} (kind : ImportType → Bool) (imports : List FileImport) (own : List A) → length imports ≤ most → own ≡ [] → number_of kind imports + length own ≤ most
few_imported kind imports own few none = let short : length own ≡ 0 = ap length none in omega (arith, few, short, number_few kind imports)

-- entries for which there is room beside imported ones
few_behind : (kind : ImportType → Bool) (imports : List FileImport) (n : ℕ) → length imports ≤ most → n ≤ most - number_of kind imports → number_of kind imports + n ≤ most
few_behind kind imports n few room = omega (arith, few, room, number_few kind imports)

-- lists that fit what stood before them
section_more : (after : ℕ) (p q : Parts) → AreAhead after q → AreFewEntries q → AreAtMost (counts_of p) (counts_of q) → FitLists (counts_of p) q → FitsStart q q.start → HaveBodies q → IsSoFar after q
section_more after p q ahead few grown lists start bodies = record { ahead = ahead; few = few; lists = lists_grow (counts_of p) (counts_of q) q grown lists; start = start; bodies = bodies }

-- ---- custom sections

custom_section_found : (rank : ℕ) (p : Parts) → IsSoFar rank p → Finds (custom_section p) (IsSoFar rank)
unfolding custom_section
custom_section_found rank p h = finds_bind custom_found (λ x fits.
    let customs = all_both (λ c. FitsCustom c × HasBytes c) p.customs (x ∷ []) h.lists.customs (fits, tt) in
    finds_pure (record p { customs = p.customs ++ x ∷ [] }) (record {
      ahead = assumption (h.ahead);
      few = assumption (h.few);
      lists = assumption (customs, h.lists);
      start = same_start p (record p { customs = p.customs ++ x ∷ [] }) refl refl refl p.start h.start;
      bodies = h.bodies;
    }))

-- ---- types, imports and functions

type_section_found : (rank : ℕ) (p : Parts) → rank < 1 → IsSoFar rank p → Finds (type_section p) (IsSoFar 1)
unfolding type_section
type_section_found rank p lt h = finds_bind (finds_listed most (func_type_found (counts_of p))) (λ xs all.
    let q : Parts = record p { types = xs } in
    finds_pure q (section_more 1 p q
    (assumption (passed 1 xs [], ahead_after rank 1 p lt h.ahead))
    (assumption (all.0, h.few))
    (assumption (longer p.types xs (h.ahead.types lt), at_most_same (counts_of p)))
    (assumption (all.1, h.lists))
    (no_start q p.start (h.ahead.start (omega (arith, lt))))
    (inl (h.ahead.bodies (omega (arith, lt))))))

import_section_found : (rank : ℕ) (p : Parts) → rank < 2 → IsSoFar rank p → Finds (import_section p) (IsSoFar 2)
unfolding import_section
import_section_found rank p lt h = finds_bind (finds_listed most (import_found (counts_of p))) (λ xs all.
    let q : Parts = record p { imports = xs } in
    let none = h.ahead.imports lt in
    let funcs = few_imported is_func xs p.functions all.0 (h.ahead.functions (omega (arith, lt))) in
    let tables = few_imported is_table xs p.tables all.0 (h.ahead.tables (omega (arith, lt))) in
    let memories = few_imported is_memory xs p.memories all.0 (h.ahead.memories (omega (arith, lt))) in
    let globals = few_imported is_global xs p.globals all.0 (h.ahead.globals (omega (arith, lt))) in
    let tags = few_imported is_tag xs p.tags all.0 (h.ahead.tags (omega (arith, lt))) in
    finds_pure q (section_more 2 p q
    (assumption (passed 2 xs [], ahead_after rank 2 p lt h.ahead))
    (assumption (all.0, funcs, tables, memories, globals, tags, h.few))
    (assumption (
      more_imported is_func p.imports xs (length p.functions) none,
      more_imported is_table p.imports xs (length p.tables) none,
      more_imported is_memory p.imports xs (length p.memories) none,
      more_imported is_global p.imports xs (length p.globals) none,
      more_imported is_tag p.imports xs (length p.tags) none,
      at_most_same (counts_of p),
    ))
    (assumption (all.1, h.lists))
    (no_start q p.start (h.ahead.start (omega (arith, lt))))
    (inl (h.ahead.bodies (omega (arith, lt))))))

function_section_found : (rank : ℕ) (p : Parts) → rank < 3 → IsSoFar rank p → Finds (function_section p) (IsSoFar 3)
unfolding function_section
function_section_found rank p lt h = finds_bind (finds_listed (most - number_of is_func p.imports) (type_found (counts_of p))) (λ xs all.
    let q : Parts = record p { functions = xs } in
    finds_pure q (section_more 3 p q
    (assumption (passed 3 xs [], ahead_after rank 3 p lt h.ahead))
    (assumption (few_behind is_func p.imports (length xs) h.few.imports_few all.0, h.few))
    (assumption (more_behind (number_of is_func p.imports) p.functions xs (h.ahead.functions lt), at_most_same (counts_of p)))
    (assumption (all.1, h.lists))
    (no_start q p.start (h.ahead.start (omega (arith, lt))))
    (inl (h.ahead.bodies (omega (arith, lt))))))

-- ---- tables, memories, tags and globals

table_section_found : (rank : ℕ) (p : Parts) → rank < 4 → IsSoFar rank p → Finds (table_section p) (IsSoFar 4)
unfolding table_section
table_section_found rank p lt h = finds_bind (finds_listed (most - number_of is_table p.imports) table_type_found) (λ xs all.
    let q : Parts = record p { tables = xs } in
    finds_pure q (section_more 4 p q
    (assumption (passed 4 xs [], ahead_after rank 4 p lt h.ahead))
    (assumption (few_behind is_table p.imports (length xs) h.few.imports_few all.0, h.few))
    (assumption (more_behind (number_of is_table p.imports) p.tables xs (h.ahead.tables lt), at_most_same (counts_of p)))
    (assumption (all.1, h.lists))
    (same_start p q refl refl refl p.start h.start)
    (inl (h.ahead.bodies (omega (arith, lt))))))

memory_section_found : (rank : ℕ) (p : Parts) → rank < 5 → IsSoFar rank p → Finds (memory_section p) (IsSoFar 5)
unfolding memory_section
memory_section_found rank p lt h = finds_bind (finds_listed (most - number_of is_memory p.imports) memory_type_found) (λ xs all.
    let q : Parts = record p { memories = xs } in
    finds_pure q (section_more 5 p q
    (assumption (passed 5 xs [], ahead_after rank 5 p lt h.ahead))
    (assumption (few_behind is_memory p.imports (length xs) h.few.imports_few all.0, h.few))
    (assumption (more_behind (number_of is_memory p.imports) p.memories xs (h.ahead.memories lt), at_most_same (counts_of p)))
    (assumption (all.1, h.lists))
    (same_start p q refl refl refl p.start h.start)
    (inl (h.ahead.bodies (omega (arith, lt))))))

tag_section_found : (rank : ℕ) (p : Parts) → rank < 6 → IsSoFar rank p → Finds (tag_section p) (IsSoFar 6)
unfolding tag_section
tag_section_found rank p lt h = finds_bind (finds_listed (most - number_of is_tag p.imports) (tag_type_found (counts_of p))) (λ xs all.
    let q : Parts = record p { tags = xs } in
    finds_pure q (section_more 6 p q
    (assumption (passed 6 xs [], ahead_after rank 6 p lt h.ahead))
    (assumption (few_behind is_tag p.imports (length xs) h.few.imports_few all.0, h.few))
    (assumption (more_behind (number_of is_tag p.imports) p.tags xs (h.ahead.tags lt), at_most_same (counts_of p)))
    (assumption (all.1, h.lists))
    (same_start p q refl refl refl p.start h.start)
    (inl (h.ahead.bodies (omega (arith, lt))))))

global_section_found : (rank : ℕ) (p : Parts) → rank < 7 → IsSoFar rank p → Finds (global_section p) (IsSoFar 7)
unfolding global_section
global_section_found rank p lt h = finds_bind (finds_allowed (λ n. leb n (most - number_of is_global p.imports)) finds_number32) (λ n room. finds_bind (finds_entries n (global_entry_found (with_globals n p))) (λ xs all.
    let q : Parts = record p { globals = xs } in
    let same = all.0 in
    let below = leb-true n (most - number_of is_global p.imports) room.1 in
    let fit : AllByRecursion (FitsGlobal (counts_of q)) xs = subst (λ n. AllByRecursion (FitsGlobal (with_globals n p)) xs) (sym same) all.1 in
    let grown : AreAtMost (counts_of p) (counts_of q) = assumption (more_behind (number_of is_global p.imports) p.globals xs (h.ahead.globals lt), at_most_same (counts_of p)) in
    let lists = lists_grow (counts_of p) (counts_of q) p grown h.lists in
    finds_pure q (record {
      ahead = assumption (passed 7 xs [], ahead_after rank 7 p lt h.ahead);
      few = assumption (few_behind is_global p.imports (length xs) h.few.imports_few (omega (arith, same, below)), h.few);
      lists = assumption (fit, lists);
      start = same_start p q refl refl refl p.start h.start;
      bodies = inl (h.ahead.bodies (omega (arith, lt)));
    })))

-- ---- exports, the start function and element segments

export_section_found : (rank : ℕ) (p : Parts) → rank < 8 → IsSoFar rank p → Finds (export_section p) (IsSoFar 8)
unfolding export_section
export_section_found rank p lt h = finds_bind (finds_listed most (export_found (counts_of p))) (λ xs all.
    let q : Parts = record p { exports = xs } in
    finds_pure q (section_more 8 p q
    (assumption (ahead_after rank 8 p lt h.ahead))
    (assumption (all.0, h.few))
    (at_most_same (counts_of p))
    (assumption (all.1, h.lists))
    (same_start p q refl refl refl p.start h.start)
    (inl (h.ahead.bodies (omega (arith, lt))))))

start_section_found : (rank : ℕ) (p : Parts) → rank < 9 → IsSoFar rank p → Finds (start_section p) (IsSoFar 9)
unfolding start_section
start_section_found rank p lt h = finds_bind (finds_allowed (λ func. is_plain (type_at p func)) (func_found (counts_of p))) (λ func plain.
    let q : Parts = record p { start = Some func } in
    let gone : 9 < 9 → Some func ≡ None = passed 9 (Some func) None in
    finds_pure q (section_more 9 p q
    (assumption (gone, ahead_after rank 9 p lt h.ahead))
    (assumption (h.few))
    (at_most_same (counts_of p))
    (assumption (h.lists))
    (same_start p q refl refl refl (Some func) plain)
    (inl (h.ahead.bodies (omega (arith, lt))))))

elem_section_found : (rank : ℕ) (p : Parts) → rank < 10 → IsSoFar rank p → Finds (elem_section p) (IsSoFar 10)
unfolding elem_section
elem_section_found rank p lt h = finds_bind (finds_listed most (elem_found (counts_of p))) (λ xs all.
    let q : Parts = record p { elems = xs } in
    finds_pure q (section_more 10 p q
    (assumption (passed 10 xs [], ahead_after rank 10 p lt h.ahead))
    (assumption (all.0, h.few))
    (assumption (longer p.elems xs (h.ahead.elems lt), at_most_same (counts_of p)))
    (assumption (all.1, h.lists))
    (same_start p q refl refl refl p.start h.start)
    (inl (h.ahead.bodies (omega (arith, lt))))))

-- ---- bodies and data segments

data_count_section_found : (rank : ℕ) (p : Parts) → rank < 11 → IsSoFar rank p → Finds (data_count_section p) (IsSoFar 11)
unfolding data_count_section
data_count_section_found rank p lt h = finds_bind (finds_allowed (λ n. leb n most) finds_number32) (λ n _.
    let q : Parts = record p { data_count = Some n } in
    let none : or_zero p.data_count ≡ 0 = ap or_zero (h.ahead.data_count lt) in
    let more : or_zero p.data_count ≤ n = omega (arith, none) in
    let gone : 11 < 11 → Some n ≡ None = passed 11 (Some n) None in
    finds_pure q (section_more 11 p q
    (assumption (gone, ahead_after rank 11 p lt h.ahead))
    (assumption (h.few))
    (assumption (more, at_most_same (counts_of p)))
    (assumption (h.lists))
    (same_start p q refl refl refl p.start h.start)
    (inl (h.ahead.bodies (omega (arith, lt))))))

-- a function that is there has no more parameters than locals are allowed
few_params : (types : List FuncType) → AllByRecursion FitsFuncType types → (i : ℕ) → params_of (slice_get types i) ≤ most_locals
few_params [] all i = omega arith
few_params (ty ∷ types) all zero = let few = all.0.params_few in omega (arith, few)
few_params (ty ∷ types) all (suc i) = few_params types all.1 i

bodies_found : (counts : Counts) (types : List FuncType) → AllByRecursion FitsFuncType types → (functions : List TypeId) → Finds (for_each functions (function_body counts types)) (λ bodies. FitBodies counts types functions bodies × AllByRecursion (λ (b : Body). joined_runs b.locals ≡ b.locals) bodies)
unfolding for_each function_body
bodies_found counts types all [] = finds_pure [] (tt, tt)
bodies_found counts types all (ty ∷ functions) = finds_bind (code_found counts (params_of (slice_get types ty.0)) (few_params types all ty.0)) (λ b one. finds_bind (bodies_found counts types all functions) (λ bodies more.
    finds_pure (b ∷ bodies) ((one.fits, more.0), (one.joined, more.1))))

code_section_found : (rank : ℕ) (p : Parts) → rank < 12 → IsSoFar rank p → Finds (code_section p) (IsSoFar 12)
unfolding code_section
code_section_found rank p lt h = finds_bind (finds_allowed (λ n. eqb n (length p.functions)) finds_number32) (λ n _. finds_bind (bodies_found (counts_of p) p.types h.lists.types p.functions) (λ xs all.
    let q : Parts = record p { bodies = xs } in
    finds_pure q (section_more 12 p q
    (assumption (passed 12 xs [], ahead_after rank 12 p lt h.ahead))
    (assumption (h.few))
    (at_most_same (counts_of p))
    (assumption (all.1, h.lists))
    (same_start p q refl refl refl p.start h.start)
    (inr (all.0)))))

data_section_found : (rank : ℕ) (p : Parts) → rank < 13 → IsSoFar rank p → Finds (data_section p) (IsSoFar 13)
unfolding data_section
data_section_found rank p lt h = finds_bind (finds_allowed (λ n. leb n most && is_told p.data_count n) finds_number32) (λ n told. finds_bind (finds_entries n (segment_found (counts_of p))) (λ xs all.
    let q : Parts = record p { segments = xs } in
    let same = all.0 in
    let below = leb-true n most (and_parts (leb n most) (is_told p.data_count n) told.1).0 in
    let few : length xs ≤ most = omega (arith, same, below) in
    finds_pure q (section_more 13 p q
    (assumption (ahead_after rank 13 p lt h.ahead))
    (assumption (few, h.few))
    (at_most_same (counts_of p))
    (assumption (all.1, h.lists))
    (same_start p q refl refl refl p.start h.start)
    h.bodies)))

-- ---- a section

-- content that is told by its id
at_id : (rank id n : ℕ) (r : Input → Result (Parts × Input) ℕ) → may_come rank id ≡ true → (may_come rank n ≡ true → Finds r (IsSoFar (rank_after rank n))) → eqb id n ≡ true → Finds r (IsSoFar (rank_after rank id))
at_id rank id n r comes h is =
    let same = eqb-true id n is in
    subst (λ i. Finds r (IsSoFar (rank_after rank i))) (sym same) (h (subst (λ i. may_come rank i ≡ true) same comes))

-- the content of a section that may come
content_found : (rank id : ℕ) (p : Parts) → may_come rank id ≡ true → IsSoFar rank p → Finds (content id p) (IsSoFar (rank_after rank id))
unfolding content
content_found rank id p comes h =
    finds_if (eqb id 0) (at_id rank id 0 (custom_section p) comes (λ _. custom_section_found rank p h)) (λ not0.
    finds_if (eqb id 1) (at_id rank id 1 (type_section p) comes (λ c. type_section_found rank p (ltb-true rank 1 c) h)) (λ not1.
    finds_if (eqb id 2) (at_id rank id 2 (import_section p) comes (λ c. import_section_found rank p (ltb-true rank 2 c) h)) (λ not2.
    finds_if (eqb id 3) (at_id rank id 3 (function_section p) comes (λ c. function_section_found rank p (ltb-true rank 3 c) h)) (λ not3.
    finds_if (eqb id 4) (at_id rank id 4 (table_section p) comes (λ c. table_section_found rank p (ltb-true rank 4 c) h)) (λ not4.
    finds_if (eqb id 5) (at_id rank id 5 (memory_section p) comes (λ c. memory_section_found rank p (ltb-true rank 5 c) h)) (λ not5.
    finds_if (eqb id 6) (at_id rank id 6 (global_section p) comes (λ c. global_section_found rank p (ltb-true rank 7 c) h)) (λ not6.
    finds_if (eqb id 7) (at_id rank id 7 (export_section p) comes (λ c. export_section_found rank p (ltb-true rank 8 c) h)) (λ not7.
    finds_if (eqb id 8) (at_id rank id 8 (start_section p) comes (λ c. start_section_found rank p (ltb-true rank 9 c) h)) (λ not8.
    finds_if (eqb id 9) (at_id rank id 9 (elem_section p) comes (λ c. elem_section_found rank p (ltb-true rank 10 c) h)) (λ not9.
    finds_if (eqb id 10) (at_id rank id 10 (code_section p) comes (λ c. code_section_found rank p (ltb-true rank 12 c) h)) (λ not10.
    finds_if (eqb id 11) (at_id rank id 11 (data_section p) comes (λ c. data_section_found rank p (ltb-true rank 13 c) h)) (λ not11.
    finds_if (eqb id 12) (at_id rank id 12 (data_count_section p) comes (λ c. data_count_section_found rank p (ltb-true rank 11 c) h)) (λ not12.
    elim (cases_Bool (eqb id 13)) [
      | inl is ↦ at_id rank id 13 (tag_section p) comes (λ c. tag_section_found rank p (ltb-true rank 6 c) h) is
      | inr not13 ↦
          let lost : ltb rank 0 ≡ true = rw (not0, not1, not2, not3, not4, not5, not13, not6, not7, not8, not9, not12, not10, not11) at comes in
          absurd (omega (arith, ltb-true rank 0 lost))
    ])))))))))))))

-- the lists so far, up to the section of a rank
abbrev pub IsProgress : Progress → Type 0
IsProgress m = IsSoFar m.rank m.parts

pub section_found : (m : Progress) → IsProgress m → Finds («section» m) IsProgress
unfolding «section»
section_found m h = finds_bind (finds_allowed (may_come m.rank) finds_byte) (λ id comes. finds_bind finds_number32 (λ len _. finds_bind (finds_filled len (content_found m.rank id m.parts comes.1 h)) (λ p so_far.
    finds_pure (record { rank = rank_after m.rank id; parts = p }) so_far)))
