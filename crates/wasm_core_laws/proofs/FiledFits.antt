-- The file of a module fits.
use Rattle.std.proofs.Common.{◌≡◌, ℕ, zero, suc, ◌<◌, ◌≤◌, ◌^◌, Bool, true, false, cond, not, eqb, List, [], ◌∷◌, ◌++◌, length, map, codes, Option, Some, None, refl, sym, ap, subst, ◌∙◌, arith}
use Rattle.std.specs.Prelude.{is_some, slice_get, ◌&&◌, ◌||◌, count_by}
use Rattle.std.specs.List.{AllByRecursion, filter_map, cons_option, flat_map}
use Rattle.std.specs.Option.{option_map}
use Rattle.std.specs.Str.{IsAscii}
use Rattle.std.proofs.lemmas.List.{length-map}
use Rattle.std.proofs.lemmas.Str.{is_utf8-from_IsUtf8, IsUtf8-from_ascii}
use Rattle.std.proofs.lemmas.Option.{slice_get-map, none-some}
use Rattle.wasm_bytes.specs.declared.counts.Counts.{Counts}
use Rattle.wasm_bytes.specs.Spelling.{list_bytes}
use Rattle.wasm_ops.specs.Numbers.{number_at}
use Rattle.wasm_code.specs.Numbers.{renumbered_ops, renumbered_body}
use Rattle.wasm_types.specs.declared.ids.FuncId.{FuncId}
use Rattle.wasm_types.specs.declared.ids.ImportId.{ImportId}
use Rattle.wasm_types.specs.declared.ids.MemoryId.{MemoryId}
use Rattle.wasm_types.specs.declared.ids.TypeId.{TypeId}
use Rattle.wasm_code.specs.declared.body.Body.{Body}
use Rattle.wasm_ops.specs.declared.ops.Numbering.{Numbering}
use Rattle.wasm_ops.specs.declared.ops.Op.{Op}
use Rattle.wasm_types.specs.declared.types.FuncType.{FuncType}
use Rattle.wasm_ops_laws.specs.Fits.{IsIndex, FitsBody}
use Rattle.wasm_file.specs.Entries.{memory_limit}
use Rattle.wasm_file.specs.Parts.{most, counts_of, named_type, is_plain, params_of}
use Rattle.wasm_file.specs.Sections.{type_at}
use Rattle.wasm_file.specs.Spelling.{is_func_ref, has_exprs, names_bytes, field_bytes}
use Rattle.wasm_file.specs.declared.entries.Elem.{Elem}
use Rattle.wasm_file.specs.declared.entries.ElemPlace.{ElemPlace}
use Rattle.wasm_file.specs.declared.entries.ElemPlace.TheVariants as spots
use Rattle.wasm_file.specs.declared.entries.Export.{Export}
use Rattle.wasm_file.specs.declared.entries.ExportItem.{ExportItem}
use Rattle.wasm_file.specs.declared.entries.ExportItem.TheVariants as items
use Rattle.wasm_file.specs.declared.entries.Names.{Names}
use Rattle.wasm_file.specs.declared.entries.Segment.{Segment}
use Rattle.wasm_file.specs.declared.entries.ImportType.{ImportType}
use Rattle.wasm_file_laws.specs.FileFits.{FitsFuncType, FitsTable, FitsLimits, FitsTypeId, FitsName, FitsImportType, FitsImport, FitsItem, FitsExport, FitsInitials, FitsGlobal, FitsFuncId, FitsElemPlace, FitsElemList, FitsElem, FitsSegmentPlace, FitsSegment, FitsCustom, FitBodies, FitsStart, AreFewEntries, FitsFile}
use Rattle.wasm_file_laws.proofs.EachItem.{all_apart, all_both, all_weaker}
use Rattle.wasm_reach.specs.declared.things.Thing.{Thing}
use Rattle.wasm_reach.specs.declared.things.Thing.TheVariants as things
use Rattle.wasm_core.specs.declared.types.Func.{Func}
use Rattle.wasm_core.specs.declared.types.GlobalVar.{GlobalVar}
use Rattle.wasm_core.specs.declared.types.Import.{Import}
use Rattle.wasm_core.specs.declared.types.ImportKind.{ImportKind}
use Rattle.wasm_core.specs.declared.types.ImportKind.TheVariants as kinds
use Rattle.wasm_core.specs.declared.types.Memory.{Memory}
use Rattle.wasm_core.specs.declared.types.Table.{Table}
use Rattle.wasm_core.specs.declared.types.Tag.{Tag}
use Rattle.wasm_core.specs.Contents.{Contents}
use Rattle.wasm_emission.specs.Emission.{live, own, own_type, own_body, own_table, own_memory, own_tag, own_global, body_or_empty, file_type, file_func, file_item, file_export, file_place, file_elem, file_segment_place, file_segment, file_start, func_asked, table_asked, memory_asked, global_asked, tag_asked, import_asked, import_of_type, file_import, file_customs, name_customs, producer_customs, file_names, has_names, filed_by, filed}
use Rattle.wasm_collect.specs.Reach.{item_thing, entry_of, entry_at, ops_names, func_thing, content_names, elem_place_names, segment_place_names}
use Rattle.wasm_emission.specs.Renumbering.{never, numbers, numbering}
use Rattle.wasm_emission.proofs.Filed.{counted}
use Rattle.wasm_core_laws.specs.Again.{in_order}
use Rattle.wasm_core_laws.specs.ModuleFits.{id_counts, Stands, AllStand, IfThere, type_of_func, FitsCode, FitsFunc, FitsTableEntry, FitsMemoryEntry, FitsInit, FitsGlobalEntry, FitsTagEntry, FitsImportEntry, FitsExportEntry, FitsElemEntry, FitsSegmentEntry, IsStart, FitsCustomEntry, func_imported, table_imported, memory_imported, global_imported, tag_imported, IsModule}
use Rattle.wasm_core_laws.specs.Renumbered.{IsNumber}
use Rattle.wasm_core_laws.proofs.FiledCounts.{AreCounts, counts_are, func_types_are, some_count_told}
use Rattle.wasm_core_laws.proofs.Numbers.{number_again, number_never, number_below, never_in_order}
use Rattle.wasm_core_laws.proofs.Renumbered.{ops_numbers, initials_fit, body_fits}
use Rattle.wasm_core_laws.proofs.Everywhere.{all_mapped, all_chosen}
use Rattle.wasm_core_laws.proofs.Entries.{all_live, there_at, if_there_at, standing}

-- ---- entries that name what has numbers

module _ (m : Contents) (n : Numbering) (after : Counts) (known : (t : Thing) → Stands m t → IsNumber n after t) where
  -- what stands has numbers
  all_known : (ts : List Thing) → AllStand m ts → AllByRecursion (IsNumber n after) ts
  all_known ts h = all_weaker (Stands m) (IsNumber n after) known ts h

  -- an initial expression fits
  expression_fits : (xs : List Op) → FitsInitials (id_counts m) xs → AllStand m (ops_names xs) → FitsInitials after (renumbered_ops n xs)
  expression_fits xs h k = initials_fit n (id_counts m) after xs h (ops_numbers n after xs (all_known (ops_names xs) k))

  -- ---- imports

  -- what is asked for a function fits
  func_fits : (o : Option (Option Func)) → IfThere (FitsFunc m) (entry_of o) → IfThere (FitsImportType after) (func_asked n o)
  func_fits (Some (Some f)) h = known (things.Type f.ty.0) h.ty_stands
  func_fits (Some None) h = tt
  func_fits None h = tt

  -- what is asked for a table fits
  table_fits : (o : Option (Option Table)) → IfThere FitsTableEntry (entry_of o) → IfThere (FitsImportType after) (table_asked o)
  table_fits (Some (Some t)) h = h
  table_fits (Some None) h = tt
  table_fits None h = tt

  -- what is asked for a memory fits
  memory_fits : (o : Option (Option Memory)) → IfThere FitsMemoryEntry (entry_of o) → IfThere (FitsImportType after) (memory_asked o)
  memory_fits (Some (Some x)) h = h
  memory_fits (Some None) h = tt
  memory_fits None h = tt

  -- what is asked for a global fits
  global_fits : (o : Option (Option GlobalVar)) → IfThere (FitsImportType after) (global_asked o)
  global_fits (Some (Some g)) = tt
  global_fits (Some None) = tt
  global_fits None = tt

  -- what is asked for a tag fits
  tag_fits : (o : Option (Option Tag)) → IfThere (FitsTagEntry m) (entry_of o) → IfThere (FitsImportType after) (tag_asked n o)
  tag_fits (Some (Some t)) h = known (things.Type t.ty.0) h
  tag_fits (Some None) h = tt
  tag_fits None h = tt

  -- what an import asks for fits
  asked_fits : IsModule m → (k : ImportKind) → IfThere (FitsImportType after) (import_asked m n k)
  unfolding import_asked
  asked_fits is (kinds.Func id) = func_fits (slice_get m.funcs id.0) (if_there_at (FitsFunc m) m.funcs id.0 is.funcs)
  asked_fits is (kinds.Table id) = table_fits (slice_get m.tables id.0) (if_there_at FitsTableEntry m.tables id.0 is.tables)
  asked_fits is (kinds.Memory id) = memory_fits (slice_get m.memories id.0) (if_there_at FitsMemoryEntry m.memories id.0 is.memories)
  asked_fits is (kinds.Global id) = global_fits (slice_get m.globals id.0)
  asked_fits is (kinds.Tag id) = tag_fits (slice_get m.tags id.0) (if_there_at (FitsTagEntry m) m.tags id.0 is.tags)

  -- an import with the type of its item fits
  import_with : (i : Import) (o : Option ImportType) → FitsImportEntry m i → IfThere (FitsImportType after) o → IfThere (FitsImport after) (import_of_type i o)
  import_with i (Some ty) h k = record { module_fits = h.module_fits; name_fits = h.name_fits; ty_fits = k }
  import_with i None h k = tt

  -- an import fits
  import_fits : IsModule m → (i : Import) → FitsImportEntry m i → IfThere (FitsImport after) (file_import m n i)
  import_fits is i h = import_with i (import_asked m n i.kind) h (asked_fits is i.kind)

  -- ---- entries of one's own

  -- what stands in the file for an entry that is not imported
  own_fits : {A : Type 0} (P : A → Type 0) (o : Option ImportId) (x : A) → (o ≡ None → P x) → IfThere P (own o x)
  own_fits P None x h = h refl
  own_fits P (Some i) x h = tt

  -- the initial expression of a global that is not imported fits
  global_with : (o : Option ImportId) (init : List Op) → o ≡ None → FitsInit m o init → FitsInitials after (renumbered_ops n init)
  global_with None init none h = expression_fits init h.0 h.1
  global_with (Some i) init none h = absurd (none-some i (sym none))

  -- ---- exports

  -- an exported item fits
  item_fits : (x : ExportItem) → Stands m (item_thing x) → FitsItem after (file_item n x)
  item_fits (items.Func id) h = known (things.Func id.0) h
  item_fits (items.Table id) h = known (things.Table id.0) h
  item_fits (items.Memory id) h = known (things.Memory id.0) h
  item_fits (items.Global id) h = known (things.Global id.0) h
  item_fits (items.Tag id) h = known (things.Tag id.0) h

  -- an export fits
  export_fits : (e : Export) → FitsExportEntry m e → FitsExport after (file_export n e)
  export_fits e h = record { name_fits = h.name_fits; item_fits = item_fits e.item h.item_stands }

  -- ---- segments

  -- the place of an element segment fits
  elem_place_fits : (p : ElemPlace) → FitsElemPlace (id_counts m) p → AllStand m (elem_place_names p) → FitsElemPlace after (file_place n p)
  elem_place_fits (spots.Active table init) h k = (known (things.Table table.0) k.0, expression_fits init h.1 k.1)
  elem_place_fits spots.Passive h k = tt
  elem_place_fits spots.Declared h k = tt

  -- its functions fit
  funcs_fit : (fs : List FuncId) → AllStand m (map func_thing fs) → AllByRecursion (FitsFuncId after) (map (file_func n) fs)
  funcs_fit [] h = tt
  funcs_fit (f ∷ fs) h = (known (things.Func f.0) h.0, funcs_fit fs h.1)

  -- its expressions fit
  expressions_fit : (xss : List (List Op)) → AllByRecursion (FitsInitials (id_counts m)) xss → AllStand m (flat_map ops_names xss) → AllByRecursion (FitsInitials after) (map (renumbered_ops n) xss)
  expressions_fit [] h k = tt
  expressions_fit (xs ∷ xss) h k = (
    expression_fits xs h.0 ((all_apart (Stands m) (ops_names xs) (flat_map ops_names xss) k).0),
    expressions_fit xss h.1 ((all_apart (Stands m) (ops_names xs) (flat_map ops_names xss) k).1),
  )

  -- its list of either fits
  elem_list_fits : (b : Bool) (e : Elem) → FitsElemList (id_counts m) e b → AllStand m (content_names e) → FitsElemList after (file_elem n e) b
  elem_list_fits true e h k = (
    h.0,
    ap (map (file_func n)) h.1,
    subst (λ (c : ℕ). c < 2 ^ 32) (sym (length-map e.exprs (renumbered_ops n))) h.2,
    expressions_fit e.exprs h.3 ((all_apart (Stands m) (map func_thing e.funcs) (flat_map ops_names e.exprs) k).1),
  )
  elem_list_fits false e h k = (
    subst (λ (c : ℕ). c < 2 ^ 32) (sym (length-map e.funcs (file_func n))) h.0,
    funcs_fit e.funcs ((all_apart (Stands m) (map func_thing e.funcs) (flat_map ops_names e.exprs) k).0),
  )

  -- it has expressions where it had some
  same_exprs : (e : Elem) → has_exprs (file_elem n e) ≡ has_exprs e
  same_exprs e = ap (λ (c : ℕ). not (eqb c 0) || not (is_func_ref e.ty)) (length-map e.exprs (renumbered_ops n))

  -- an element segment fits
  elem_fits : (e : Elem) → FitsElemEntry m e → FitsElem after (file_elem n e)
  elem_fits e h = record {
    place_fits = elem_place_fits e.place h.fits.place_fits ((all_apart (Stands m) (elem_place_names e.place) (content_names e) h.named_stand).0);
    entries_fit = subst (FitsElemList after (file_elem n e)) (sym (same_exprs e)) (elem_list_fits (has_exprs e) e h.fits.entries_fit ((all_apart (Stands m) (elem_place_names e.place) (content_names e) h.named_stand).1));
  }

  -- the place of a data segment fits
  segment_place_fits : (p : Option (MemoryId × List Op)) → FitsSegmentPlace (id_counts m) p → AllStand m (segment_place_names p) → FitsSegmentPlace after (file_segment_place n p)
  segment_place_fits (Some p) h k = (known (things.Memory p.0.0) k.0, expression_fits p.1 h.1 k.1)
  segment_place_fits None h k = tt

  -- a data segment fits
  segment_fits : (s : Segment) → FitsSegmentEntry m s → FitsSegment after (file_segment n s)
  segment_fits s h = record { place_fits = segment_place_fits s.place h.fits.place_fits h.named_stand; bytes_few = h.fits.bytes_few }

  -- ---- bodies

  -- the body of a function of one's own fits its type
  code_fits : (types : List FuncType) (f : Func) (o : Option ImportId) (b : Option Body) (tys : List TypeId) (bodies : List Body) → slice_get types (number_at n.types f.ty.0) ≡ entry_at m.types f.ty.0 → FitsCode m (entry_at m.types f.ty.0) o b → FitBodies after types tys bodies
      → FitBodies after types (cons_option (own o (file_type n f.ty)) tys) (cons_option (own o (renumbered_body n (body_or_empty b))) bodies)
  code_fits types f None (Some b) tys bodies same h rest = (
    subst (λ ty. FitsBody after (params_of ty) (renumbered_body n b)) (sym same) (body_fits n (id_counts m) after (params_of (entry_at m.types f.ty.0)) b h.0 (ops_numbers n after b.ops (all_known (ops_names b.ops) h.1))),
    rest,
  )
  code_fits types f (Some i) None tys bodies same h rest = rest
  code_fits types f None None tys bodies same h rest = absurd h
  code_fits types f (Some i) (Some b) tys bodies same h rest = absurd h

  -- each body fits the type of its function
  bodies_fit : (types : List FuncType) → ((ty : TypeId) → Stands m (things.Type ty.0) → slice_get types (number_at n.types ty.0) ≡ entry_at m.types ty.0) → (fs : List Func) → AllByRecursion (FitsFunc m) fs → FitBodies after types (filter_map (own_type n) fs) (filter_map (own_body n) fs)
  bodies_fit types same [] h = tt
  bodies_fit types same (f ∷ fs) h = code_fits types f f.«import» f.body (filter_map (own_type n) fs) (filter_map (own_body n) fs) (same f.ty h.0.ty_stands) h.0.code_fits (bodies_fit types same fs h.1)

-- ---- numbers of what stands

-- the number of an entry is an index
index_known : {A : Type 0} (test : A → Bool) (xs : List (Option A)) (i count : ℕ) → count ≡ length (in_order test xs) → count ≤ most → is_some (entry_at xs i) ≡ true → IsIndex count (number_at (numbers test xs) i)
index_known test xs i count is few h =
    let x = standing (entry_at xs i) h in
    let below = number_below test xs i x.0 x.1 in
    (omega (arith, is, below), omega (arith, is, below, few))

-- the number of an entry of a kind that can't be imported
index_never : {A : Type 0} (xs : List (Option A)) (i count : ℕ) → count ≡ length (live xs) → count ≤ most → is_some (entry_at xs i) ≡ true → IsIndex count (number_at (numbers never xs) i)
index_never xs i count is few h = index_known never xs i count (is ∙ sym (ap length (never_in_order xs))) few h

-- the file has as many segments as are there
segments_counted : (m : Contents) (n : Numbering) → length ((filed_by n m).segments) ≡ length (live m.segments)
unfolding filed_by
segments_counted m n = length-map (live m.segments) (file_segment n)

-- what stands has a number in the file
number_known : (m : Contents) → IsModule m → AreFewEntries (filed m) → (t : Thing) → Stands m t → IsNumber (numbering m) (counts_of (filed m)) t
unfolding numbering
number_known m is few t h = of_kind t h
  where
    counts : AreCounts m (counts_of (filed m))
    counts = counts_are m (numbering m) is.order

    segments_few : (counts_of (filed m)).segments ≤ most
    segments_few = omega (arith, counts.segments, few.segments_few, segments_counted m (numbering m))

    of_kind : (t : Thing) → Stands m t → IsNumber (numbering m) (counts_of (filed m)) t
    of_kind (things.Type i) h = index_never m.types i (counts_of (filed m)).types counts.types few.types_few h
    of_kind (things.Func i) h = index_known func_imported m.funcs i (counts_of (filed m)).funcs counts.funcs few.funcs_few h
    of_kind (things.Table i) h = index_known table_imported m.tables i (counts_of (filed m)).tables counts.tables few.tables_few h
    of_kind (things.Memory i) h = index_known memory_imported m.memories i (counts_of (filed m)).memories counts.memories few.memories_few h
    of_kind (things.Global i) h = index_known global_imported m.globals i (counts_of (filed m)).globals counts.globals few.globals_few h
    of_kind (things.Tag i) h = index_known tag_imported m.tags i (counts_of (filed m)).tags counts.tags few.tags_few h
    of_kind (things.Elem i) h = index_never m.elems i (counts_of (filed m)).elems counts.elems few.elems_few h
    of_kind (things.Segment i) h = index_never m.segments i (counts_of (filed m)).segments counts.segments segments_few h

-- ---- types

-- the type of an id stands at its number
type_again : (m : Contents) (ty : TypeId) → Stands m (things.Type ty.0) → slice_get (live m.types) (number_at (numbering m).types ty.0) ≡ entry_at m.types ty.0
unfolding numbering
type_again m ty h =
    let x = standing (entry_at m.types ty.0) h in
    number_never m.types ty.0 x.0 x.1 ∙ sym x.1

-- the type of a function in the file is that of the function
type_at_is : (m : Contents) → IsModule m → (id : FuncId) → Stands m (things.Func id.0) → type_at (filed m) (file_func (numbering m) id) ≡ type_of_func m (entry_at m.funcs id.0)
unfolding numbering filed_by
type_at_is m is id h =
    let f = standing (entry_at m.funcs id.0) h in
    let make : Func → TypeId = λ f. file_type (numbering m) f.ty in
    let number : ℕ = number_at (numbering m).funcs id.0 in
    let fits : FitsFunc m f.0 = there_at (FitsFunc m) m.funcs id.0 f.0 is.funcs f.1 in
    ap (λ tys. named_type (live m.types) (slice_get tys number)) (func_types_are m (numbering m) is.order)
    ∙ ap (named_type (live m.types)) (slice_get-map make (in_order func_imported m.funcs) number ∙ ap (option_map make) (number_again func_imported m.funcs id.0 f.0 f.1))
    ∙ type_again m f.0.ty fits.ty_stands
    ∙ ap (type_of_func m) (sym f.1)

-- the start function fits
start_fits : (m : Contents) → IsModule m → AreFewEntries (filed m) → (o : Option FuncId) → IsStart m o → FitsStart (filed m) (file_start (numbering m) o)
start_fits m is few (Some func) h = (number_known m is few (things.Func func.0) h.0, ap is_plain (type_at_is m is func h.0) ∙ h.1)
start_fits m is few None h = tt

-- ---- custom sections

-- bytes below 128 are ASCII
ascii_bytes : (bytes : List ℕ) → AllByRecursion (λ b. b < 128) bytes → IsAscii bytes
ascii_bytes [] h i = omega arith
ascii_bytes (b ∷ bytes) h zero = h.0
ascii_bytes (b ∷ bytes) h (suc i) = ascii_bytes bytes h.1 i

-- a short text of ASCII is a name
ascii_name : (text : List ℕ) → AllByRecursion (λ b. b < 128) text → length text < 2 ^ 32 → FitsName text
ascii_name text h few = (is_utf8-from_IsUtf8 text (IsUtf8-from_ascii text (ascii_bytes text h)), few)

-- the name section fits
name_customs_fit : (wanted : Bool) (names : Names) → AllByRecursion FitsCustom (name_customs wanted names)
unfolding name_customs
name_customs_fit wanted names = where_wanted (wanted && has_names names)
  where
    where_wanted : (b : Bool) → AllByRecursion FitsCustom (cond b (record { name = codes "name"; bytes = names_bytes names } ∷ []) [])
    where_wanted true = (ascii_name (codes "name") (omega arith, (omega arith, (omega arith, (omega arith, tt)))) (omega arith), tt)
    where_wanted false = tt

-- the producers section fits
producer_customs_fit : (m : Contents) → AllByRecursion FitsCustom (producer_customs m)
unfolding producer_customs
producer_customs_fit m = where_wanted (m.config.producers && not (eqb (length m.producers) 0))
  where
    where_wanted : (b : Bool) → AllByRecursion FitsCustom (cond b (record { name = codes "producers"; bytes = list_bytes field_bytes m.producers } ∷ []) [])
    where_wanted true = (ascii_name (codes "producers") (omega arith, (omega arith, (omega arith, (omega arith, (omega arith, (omega arith, (omega arith, (omega arith, (omega arith, tt))))))))) (omega arith), tt)
    where_wanted false = tt

-- each custom section fits
customs_fit : (m : Contents) (n : Numbering) → AllByRecursion FitsCustomEntry m.customs → AllByRecursion FitsCustom (file_customs n m)
unfolding file_customs
customs_fit m n h =
    all_both FitsCustom (name_customs m.config.names (file_names m n)) (producer_customs m ++ m.customs) (name_customs_fit m.config.names (file_names m n))
    (all_both FitsCustom (producer_customs m) m.customs (producer_customs_fit m) (all_weaker FitsCustomEntry FitsCustom (λ c h. h.fits) m.customs h))

-- ---- the file

-- each list of the file fits
pub filed_fits : (m : Contents) → IsModule m → AreFewEntries (filed m) → FitsFile (filed m)
unfolding filed_by
filed_fits m is few =
    let n : Numbering = numbering m in
    let after : Counts = counts_of (filed m) in
    let known : (t : Thing) → Stands m t → IsNumber n after t = number_known m is few in
    record {
      few = few;
      types_fit = all_live FitsFuncType m.types is.types;
      imports_fit = all_chosen (FitsImportEntry m) (FitsImport after) (file_import m n) (import_fits m n after known is) (live m.imports) (all_live (FitsImportEntry m) m.imports is.imports);
      functions_fit = all_chosen (FitsFunc m) (FitsTypeId after) (own_type n) (λ f h. own_fits m n after known (FitsTypeId after) f.«import» (file_type n f.ty) (λ none. known (things.Type f.ty.0) h.ty_stands)) (live m.funcs) (all_live (FitsFunc m) m.funcs is.funcs);
      tables_fit = all_chosen FitsTableEntry FitsTable own_table (λ t h. own_fits m n after known FitsTable t.«import» (record { elem = t.elem; limits = t.limits }) (λ none. h)) (live m.tables) (all_live FitsTableEntry m.tables is.tables);
      memories_fit = all_chosen FitsMemoryEntry (FitsLimits memory_limit) own_memory (λ x h. own_fits m n after known (FitsLimits memory_limit) x.«import» x.limits (λ none. h)) (live m.memories) (all_live FitsMemoryEntry m.memories is.memories);
      tags_fit = all_chosen (FitsTagEntry m) (FitsTypeId after) (own_tag n) (λ t h. own_fits m n after known (FitsTypeId after) t.«import» (file_type n t.ty) (λ none. known (things.Type t.ty.0) h)) (live m.tags) (all_live (FitsTagEntry m) m.tags is.tags);
      globals_fit = all_chosen (FitsGlobalEntry m) (FitsGlobal after) (own_global n) (λ g h. own_fits m n after known (FitsGlobal after) g.«import» (record { ty = g.ty; mutable = g.mutable; init = renumbered_ops n g.init }) (λ none. global_with m n after known g.«import» g.init none h)) (live m.globals) (all_live (FitsGlobalEntry m) m.globals is.globals);
      exports_fit = all_mapped (FitsExportEntry m) (FitsExport after) (file_export n) (export_fits m n after known) (live m.exports) (all_live (FitsExportEntry m) m.exports is.exports);
      start_fits = start_fits m is few m.start is.start;
      elems_fit = all_mapped (FitsElemEntry m) (FitsElem after) (file_elem n) (elem_fits m n after known) (live m.elems) (all_live (FitsElemEntry m) m.elems is.elems);
      count_told = some_count_told (count_by is_some m.segments) (length (map (file_segment n) (live m.segments))) (length-map (live m.segments) (file_segment n) ∙ sym (counted (λ x. x) m.segments));
      bodies_fit = bodies_fit m n after known (live m.types) (type_again m) (live m.funcs) (all_live (FitsFunc m) m.funcs is.funcs);
      segments_fit = all_mapped (FitsSegmentEntry m) (FitsSegment after) (file_segment n) (segment_fits m n after known) (live m.segments) (all_live (FitsSegmentEntry m) m.segments is.segments);
      customs_fit = customs_fit m n is.customs;
    }
