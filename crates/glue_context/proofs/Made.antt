-- What is made of a description that is checked: linked, defined and published.
use Rattle.glue_context.proofs.Common.{◌≡◌, ℕ, ◌+◌, ◌<◌, ◌==◌, inl, inr, List, [], ◌∷◌, ◌++◌, map, length, Bool, true, false, true≢false, None, Some, refl, sym, ap, ◌∙◌, subst, arith, append-nil, codes, flat_map, flat_map_single, bytes_eq-Decides, list_any, list_all, IsPermutation-sym, IsIn, AreDistinct, AreAmong, AreApart, distinct_both, ImportId, Item, AuxImport, HOSTS, bound_in, bound_names, used_in, is_export_key, AllItems, Belongs, Context, Settings, NameMap, AreNames, Deno, Lowered, host_names, fixed_names, fixed_public, live_count, own_imports, is_one_of, described_hosts, names_of, js_import, foreign_lines, foreign_modules, frame_of, line_form, IsGlue, IsClosureItem, callback_name, used_closures, rewritten, IsLinked, IsDefined, defined_by, defined_places, IsPublished, published_pairs, published_by, fixed_published, fixed_by, EachItem, IsExported, IsPrescribed, export_names, FileFlags, unbuilt, verdict}
use Rattle.std.proofs.Common.{All, ◌⊎◌}
use Rattle.std.specs.Prelude.{◌≤◌, ◌^◌, ◌&&◌, cond, not, Option}
use Rattle.std.proofs.lemmas.{List.map-id, Bool.and_from, Bool.Decides.Decides-eqb, List.Sums.list_all-from_AllPass}
use Rattle.values.proofs.Members.{in_left, in_right, in_either}
use Rattle.glue_targets.specs.Published.{IsImportBound, IsNamed, fixed_of}
use Rattle.glue_targets.specs.RoleWords.{role_words}
use Rattle.glue_targets.specs.Targets.{FixedText, Frame, frame_end, frame_start, frame_texts, module_name, own_path}
use Rattle.glue_shared.specs.declared.import.Intrinsic.{Intrinsic}
use Rattle.glue_shared.specs.declared.import.Intrinsic.TheVariants as intrinsics
use Rattle.glue_shared.specs.declared.settings.Target.{Target}
use Rattle.glue_shared.specs.declared.settings.Target.TheVariants as targets
use Rattle.glue_shared.specs.declared.aux.AuxStringEnum.{AuxStringEnum}
use Rattle.glue_shared.specs.declared.import.JsImportName.{JsImportName}
use Rattle.glue_shared.specs.declared.import.JsImportName.TheVariants as js
use Rattle.glue_shared.specs.Names.{described_names, entry_of, has_number, inspect_names, is_node, target_hosts}
use Rattle.glue_words.specs.declared.word.Word.{Word}
use Rattle.glue_words.specs.declared.item.Role.TheVariants as role
use Rattle.glue_words.specs.Ident.{is_ident}
use Rattle.glue_words.specs.Spacing.{is_wasm}
use Rattle.glue_words.proofs.{Among.among_both, Among.among_by, Among.among_in, Among.among_itself, Among.among_left, Among.among_right, Among.among_trans, Among.apart_among, Among.apart_both, Among.apart_by, Among.apart_in, Among.apart_joined, Among.apart_parts, Among.apart_swap, Fitting.linked_by_words, Fitting.belongs_by_facts, Fitting.declared_are}
use Rattle.glue_lines.specs.Grouped.{Imported}
use Rattle.glue_lines.specs.Lines.{foreign_line}
use Rattle.glue_lines.specs.declared.form.LineForm.{LineForm}
use Rattle.glue_lines.specs.declared.form.LineForm.TheVariants.{Es}
use Rattle.glue_lines.proofs.LineFacts.{foreign_belongs, foreign_holds}
use Rattle.glue_lines.proofs.TextsFacts.{texts_hold}
use Rattle.helper_table.specs.declared.parts.HelperParts.{HelperParts}
use Rattle.helper_table.proofs.Held.{held_item}
use Rattle.helper_table.specs.Closed.{asked_helpers, binder}
use Rattle.helper_table.proofs.HeldItems.{each_entry, helper_hosts}
use Rattle.helper_table.proofs.ListedNames.{IsListed, unlisted_unbound}
use Rattle.helper_table.proofs.Supplies.{IsProvided, given_exports, is_supplied}
use Rattle.helper_table.proofs.Supplied.{asked_supplied, in_provided, provided_declared, provided_names, supplied_belong, supplied_distinct, supplied_inner}
use Rattle.glue_imports.specs.Roots.{plain_name}
use Rattle.glue_imports.specs.Intrinsics.{loaded_name}
use Rattle.glue_targets.proofs.FixedTexts as fixed
use Rattle.glue_targets.proofs.FixedTexts.{start_binds}
use Rattle.glue_targets.proofs.FrameEnd.{module_names, own_name, end_bound, end_fixed, end_fits, end_hosts}
use Rattle.glue_published.specs.Reexports.{Reexport, is_outside}
use Rattle.glue_names.specs.Given.{closure_names, values_name}
use Rattle.glue_names.specs.Handed.{own_callees}
use Rattle.glue_names.proofs.Globals.{described_host, from_flat, in_flat, more_hosts}
use Rattle.glue_check.proofs.OwnPairs.{pair_kept}
use Rattle.glue_check.proofs.Steps.{IsClosureOf}
use Rattle.glue_context.specs.Defined.{HoldsClosure}
use Rattle.glue_context.specs.DefinedItems.{takes_memory}
use Rattle.glue_context.specs.Edits.{has_start}
use Rattle.glue_context.specs.FrameIn.{frame_in}
use Rattle.glue_context.specs.Keys.{described_keys}
use Rattle.glue_context.specs.ListedItems.{list_item}
use Rattle.glue_context.specs.Linked.{IsOneOf}
use Rattle.glue_context.specs.Foreign.{has_strings, path_of}
use Rattle.glue_naming.specs.Listed.{names_drawn}
use Rattle.glue_naming.specs.Naming.{import_name}
use Rattle.glue_naming.specs.Pairs.{is_among, own_pairs}
use Rattle.glue_naming.specs.declared.named.Named.TheVariants as things
use Rattle.glue_naming.proofs.CalledNames as called
use Rattle.glue_names.proofs.MappedLists.{from_map, in_map}
use Rattle.glue_context.specs.Parts.{helper_parts}
use Rattle.glue_context.specs.Rewritten.{shim_global}
use Rattle.glue_context.proofs.{Declared.AreDrawn, Declared.AreStanding, Declared.all_apart, Declared.all_distinct, Declared.all_found, Declared.all_names, Declared.constants_first, Declared.first_among, Declared.first_names, Declared.first_unlisted, Declared.frame_first, Declared.given_first, Declared.held_among, Declared.imports_first, Declared.lines_first, Declared.loading_bound, Declared.loading_first, Declared.modules_few, Declared.modules_idents, Declared.names_first, Declared.own_fixed, Declared.own_framed, Declared.own_names, Declared.own_no_hosts}
use Rattle.glue_context.proofs.ClosureFacts as closed
use Rattle.glue_context.proofs.ClosureNames.{callback_listed, free_no_callbacks}
use Rattle.glue_context.proofs.HeldNames.{asked_listed}
use Rattle.glue_context.proofs.ImportBound.{import_bound_among}
use Rattle.glue_context.proofs.ImportedFacts as imported
use Rattle.glue_context.proofs.ListedFacts as chosen
use Rattle.glue_context.proofs.TreeFacts as published
use Rattle.taken_items.proofs.ItemNames.{names_with_added}
use Rattle.glue_context.proofs.Provided.{all_given, memory_stands, table_stands}
use Rattle.glue_context.proofs.ExpressionFits.{IsBegunWell, IsWell}
use Rattle.glue_context.proofs.ExpressionNames.{HasBegun, HasName}
use Rattle.glue_context.proofs.HandedParts.{entry_there}
use Rattle.glue_context.proofs.{Facts.Facts, Facts.built, Facts.own_pair, Fits.names_with, Fits.AreTaken, Fits.AreWell, Fits.HasBasis, DefinedFacts.define_belongs, DefinedFacts.define_binds, DefinedFacts.define_exported, DefinedFacts.define_holds, DefinedFacts.define_role, Lists.arranged_from, Lists.moved_from, Lists.distinct_moved, Lists.all_are, Lists.flat_none, Lists.all_applied, Lists.all_kept, Lists.constants, Lists.each_among, Lists.each_any, Lists.each_at, Lists.each_item, Lists.each_line, Lists.front, Lists.given, Lists.closure_stands, Lists.declared_stands, Lists.imported_stands, Lists.imports, Lists.items_with, Lists.loading, Lists.none_given, Lists.with_held, Edited.item_exported, Edited.last_exports, Edited.rewritten_exports, Edited.shim_export, Paths.written_count}

-- the three facts of items that a built description asks for
pub record IsSound (s : Settings) (m : NameMap) (l : Lowered) (items : List Item) : Type 0 where
  pub linked : IsLinked s (host_names s l.aux) (described_keys l.aux) (rewritten s l) items (has_start l.«module»)
  pub defined : IsDefined s m l (rewritten s l) items
  pub published : IsPublished s l.aux (fixed_public s l.«module» l.wit l.aux) items

-- what holds of all items holds of one of them
one_of : (P : Item → Type 0) (xs : List Item) (item : Item) → AllItems P xs → IsIn item xs → P item
one_of P [] item h at = absurd at
one_of P (x ∷ xs) item h (inl same) = subst P (sym same) h.0
one_of P (x ∷ xs) item h (inr at) = one_of P xs item h.1 at

-- loading uses what is declared there
loading_within : (memory starts : Bool) → AreAmong (fixed.loading_uses starts) (start_binds memory ++ loading_bound)
loading_within true starts = grind arith
loading_within false starts = grind arith

-- the names of the values of intrinsics are among those that loading declares
deno_loaded : (value : Intrinsic) (name : List ℕ) → loaded_name targets.Deno value ≡ Some name → IsIn name loading_bound
deno_loaded intrinsics.Instance name h = let same : name ≡ codes "wasmInstance" = cc in inr (inr (inl same))
deno_loaded other name h = cc

-- what foreign lines declare, and that they publish nothing
lines_bound : (from : ℕ) (paths : List (List ℕ)) → flat_map (λ (item : Item). bound_in item.words) (foreign_lines from paths) ≡ module_names from paths
lines_bound from [] = refl
lines_bound from (path ∷ paths) = ap (λ (ns : List (List ℕ)). module_name from ∷ ns) (lines_bound (from + 1) paths)

lines_inner : (from : ℕ) (paths : List (List ℕ)) → AllItems (λ item. fixed_by item ≡ []) (foreign_lines from paths)
lines_inner from paths = each_line (λ item. fixed_by item ≡ []) from paths (λ n path less.
    ap (λ (b : Bool). fixed_of (role.Foreign n) b (foreign_line Es n path).words) (foreign_holds Es n path).inner)

-- both texts of the frame are told
frame_told : (t : Target) (stem : List ℕ) (frame : Frame) → t ≡ Deno
    → (let texts = map (λ (text : FixedText). text.words) (frame_texts t stem frame) in
    IsIn (frame_start stem frame.memory).words texts × IsIn (frame_end stem frame.modules frame.strings).words texts)
frame_told t stem frame e =
    subst (λ (u : Target). let texts = map (λ (text : FixedText). text.words) (frame_texts u stem frame) in
    IsIn (frame_start stem frame.memory).words texts × IsIn (frame_end stem frame.modules frame.strings).words texts) (sym e) (inl refl, inr (inl refl))

-- what is a name of the host by itself is brought of the outside
plain_host : (omitted : Bool) (n : JsImportName) → is_outside omitted n ≡ true → IsIn (plain_name n) (described_hosts omitted n)
plain_host omitted (js.Global name) h = inl refl
plain_host omitted (js.VendorPrefixed name prefixes) h = absurd (true≢false (sym h))
plain_host true (js.Module from name) h = inl refl
plain_host true (js.LocalModule from name) h = inl refl
plain_host true (js.InlineJs from index name) h = inl refl
plain_host false n h = absurd (true≢false (sym h))

-- on Deno no class is inspected
none_inspected : (s : Settings) (l : Lowered) → s.target ≡ Deno → inspect_names s l.aux ≡ []
none_inspected s l deno = by s.omit_imports (is_node s.target) (list_any (λ s. s.inspectable) l.aux.structs) (ap is_node deno)
  where
    by : (omitted node inspected : Bool) → node ≡ false → cond (omitted && (node && inspected)) (codes "inspect" ∷ []) [] ≡ []
    by true true inspected h = absurd (true≢false h)
    by true false inspected h = refl
    by false node inspected h = refl

-- words belong where others are declared, if what they use is
belongs_among : (c : Context) (declared : List (List ℕ)) (words : List Word) → Belongs c words → AreAmong (used_in words) declared
    → Belongs (record c { declared = declared }) words
belongs_among c declared words h used = record {
  resolved = record { bound = used; known = h.resolved.known };
  local = h.local;
  exported = h.exported;
  described = h.described;
  alone = h.alone;
}

module _ (s : Settings) (m : NameMap) (l : Lowered) (items : List Item) (b : Facts s l) (n : AreNames s l m) (g : IsGlue s m l items) where
  abbrev all : List Item
  all = items_with g g.helpers

  abbrev paths : List (List ℕ)
  paths = foreign_modules s l

  abbrev starts : Bool
  starts = has_start l.«module»

  abbrev memory : Bool
  memory = takes_memory s l

  abbrev strings : Bool
  strings = has_strings s l

  abbrev own_places : List ℕ
  own_places = own_imports s l.«module» l.wit l.aux

  abbrev form : LineForm
  form = line_form s.target

  -- ---- helpers

  abbrev parts : HelperParts
  parts = helper_parts s l m

  -- names that they provide
  abbrev provided : List (List ℕ)
  provided = provided_names parts

  standing : AreStanding l.«module» parts
  standing = record { memories = memory_stands s l m n.items g.few; table = table_stands s l m n.items g.few }

  abbrev needed : List ℕ
  needed = asked_helpers parts (front g)

  -- what holds of a helper's item whatever its words are
  held_so : (P : Item → Type 0) → ((entry : List ℕ × List Word) → P (held_item entry)) → AllItems P g.helpers
  held_so P give = each_entry parts needed g.helpers g.asked P (λ e at. give e)

  -- ---- items that bind names of the outside

  lines_so : (P : Item → Type 0) → ((item : Item) → imported.IsImportItem item → P item) → AllItems P g.lines
  lines_so P give = all_kept imported.IsImportItem P g.lines (λ item k h. give item h) (imported.lines_each form (imports g) g.lines g.imported)

  constants_so : (P : Item → Type 0) → ((item : Item) → imported.IsImportItem item → P item) → AllItems P (constants g)
  constants_so P give = all_kept imported.IsImportItem P (constants g) (λ item k h. give item h) (imported.constants_each form (imports g) g.lines g.imported)

  lists_so : (P : Item → Type 0) → ((e : AuxStringEnum) → P (list_item e)) → AllItems P g.lists
  lists_so P give = chosen.lists_each s l g.lists g.listed P give

  -- the list of an enum isn't exported
  list_inner : (e : AuxStringEnum) → fixed_by (list_item e) ≡ []
  list_inner e = ap (λ (b : Bool). fixed_of role.Body b (list_item e).words) (texts_hold (values_name e) e.variants).inner

  closures_so : (P : Item → Type 0) → ((id : ℕ) (item : Item) → IsIn id (used_closures s l) → IsClosureItem s m l id item → P item) → AllItems P g.closures
  closures_so P give = closed.closures_each s m l g.closures g.enclosed P give

  -- they give nothing together where each import gives nothing
  lines_none : {B : Type 0} (give : Item → List B) → ((item : Item) → imported.IsImportItem item → give item ≡ []) → flat_map give g.lines ≡ []
  lines_none give none = none_given give g.lines (lines_so (λ item. give item ≡ []) none)

  lists_none : {B : Type 0} (give : Item → List B) → ((e : AuxStringEnum) → give (list_item e) ≡ []) → flat_map give g.lists ≡ []
  lists_none give none = none_given give g.lists (lists_so (λ item. give item ≡ []) none)

  closures_none : {B : Type 0} (give : Item → List B) → ((id : ℕ) (item : Item) → IsIn id (used_closures s l) → IsClosureItem s m l id item → give item ≡ [])
      → flat_map give g.closures ≡ []
  closures_none give none = none_given give g.closures (closures_so (λ item. give item ≡ []) none)

  constants_none : {B : Type 0} (give : Item → List B) → ((item : Item) → imported.IsImportItem item → give item ≡ []) → flat_map give (constants g) ≡ []
  constants_none give none = none_given give (constants g) (constants_so (λ item. give item ≡ []) none)

  -- ---- pairs of own imports, and what they call

  sub : (pair : ImportId × ℕ) → IsIn pair g.pairs → IsIn pair l.wit.implements
  sub pair k = (own_pair s l pair (arranged_from g.by_import pair k)).0

  has : (pair : ImportId × ℕ) → IsIn pair l.wit.implements → has_number pair.0.0 (own_imports s l.«module» l.wit l.aux) ≡ true → IsIn pair g.pairs
  has pair at mine =
      let own = own_imports s l.«module» l.wit l.aux in
      moved_from g.pairs (own_pairs s l) (IsPermutation-sym _ _ g.by_import.same) pair (pair_kept (is_among own) l.wit.implements pair at mine)

  abbrev drawn : List (List ℕ)
  drawn = names_drawn (imports g)

  drawn_idents : list_all is_ident drawn ≡ true
  drawn_idents = called.listed_idents s l m n g.pairs sub has

  -- each is drawn for an import
  drawn_of : (x : List ℕ) → IsIn x drawn → (name : JsImportName) × (import_name m name ≡ Some x)
  drawn_of x i =
      let r = from_map (λ (import : Imported). import.1) x (imports g) i in
      (r.0.0, (called.listed_named s l m n g.pairs sub has r.0 r.1).1 ∙ ap Some (sym r.2))

  drawn_distinct : AreDistinct drawn
  drawn_distinct = called.listed_distinct s l m n g.pairs sub has

  no_host : (import : Imported) → IsIn import (imports g) → is_outside s.omit_imports import.0 ≡ false
  no_host import i = called.named_no_host s l m n import.0 import.1 (called.listed_named s l m n g.pairs sub has import i).1

  module _ (id : ℕ) (w : AuxImport) (own : has_number id (own_callees s l) ≡ true) (is : entry_of id l.aux.imports ≡ Some w)
      (name : JsImportName) (i : IsIn name (names_of (js_import w))) where
    -- the name that is drawn for what an own import's adapter calls is listed
    entry_drawn : (text : List ℕ) → import_name m name ≡ Some text → IsIn text drawn
    entry_drawn text found =
        let there = called.entry_called s l m n g.pairs sub has id w own is name i in
        in_map (λ (x : Imported). x.1) (name, text) (imports g) (called.named_listed s l m n g.pairs sub has name text there found)

    -- and what has no drawn name is a name of the host that it brings
    entry_brought : import_name m name ≡ None → IsIn (plain_name name) (described_hosts s.omit_imports name)
    entry_brought none =
        let there = called.entry_called s l m n g.pairs sub has id w own is name i in
        plain_host s.omit_imports name (called.unnamed_host s l m n g.pairs sub has name there none)

    described_entry : IsIn (id, w) l.aux.imports
    described_entry = entry_there id l.aux.imports w is

    begun_described : IsIn name (described_names l.aux)
    begun_described =
        in_left name (flat_map (λ (e : ℕ × AuxImport). names_of (js_import e.1)) l.aux.imports) (map (λ r. r.1.name) l.aux.reexports)
        (in_flat (λ (e : ℕ × AuxImport). names_of (js_import e.1)) l.aux.imports (id, w) name described_entry i)

  -- ---- names

  abbrev names : List (List ℕ)
  names = bound_names g.declares

  abbrev imported_names : List (List ℕ)
  imported_names = bound_names g.lines

  abbrev constant_names : List (List ℕ)
  constant_names = bound_names (constants g)

  abbrev closures : List (List ℕ)
  closures = bound_names g.closures

  abbrev lists : List (List ℕ)
  lists = bound_names g.lists

  -- names that are given, and not drawn
  abbrev given_names : List (List ℕ)
  given_names = closures ++ lists

  abbrev held : List (List ℕ)
  held = flat_map (λ (item : Item). bound_in item.words) g.helpers

  listed : (name : List ℕ) → IsIn name held → IsListed parts name
  listed = asked_listed parts (front g) g.helpers g.asked

  few : length paths ≤ live_count l.«module».imports
  few = subst (λ (n : ℕ). length paths ≤ n) (written_count s l)
      (modules_few (own_imports s l.«module» l.wit l.aux) 0 (map path_of (rewritten s l).imports))

  -- what the file declares, and what its first items may use
  abbrev declared : List (List ℕ)
  declared = all_names s l.«module» paths held memory few g.numbered parts standing listed imported_names constant_names names given_names

  abbrev first : List (List ℕ)
  first = first_names s l.«module» paths held memory few g.numbered parts standing listed imported_names constant_names names given_names

  abbrev own : List (List ℕ)
  own = own_names s l.«module» paths held memory few g.numbered parts standing listed

  own_all_fixed : AreAmong own (fixed_names s l.«module»)
  own_all_fixed = own_fixed s l.«module» paths held memory few g.numbered parts standing listed

  -- what is apart from fixed names is apart from the file's own
  no_own : (xs : List (List ℕ)) → AreApart xs (fixed_names s l.«module») → AreApart xs own
  no_own xs h =
      apart_swap own xs (apart_among own (fixed_names s l.«module») xs own_all_fixed (apart_swap xs (fixed_names s l.«module») h))

  lines_drawn : AreAmong imported_names drawn
  lines_drawn = imported.lines_declare form (imports g) g.lines g.imported

  constants_drawn : AreAmong constant_names drawn
  constants_drawn = imported.constants_declare form (imports g) g.lines g.imported

  -- what all drawn names of imports are apart from
  lines_apart : (ys : List (List ℕ)) → AreApart drawn ys → AreApart imported_names ys
  lines_apart ys h = apart_among imported_names drawn ys lines_drawn h

  constants_apart : (ys : List (List ℕ)) → AreApart drawn ys → AreApart constant_names ys
  constants_apart ys h = apart_among constant_names drawn ys constants_drawn h

  -- what the names of lists of all string enums are apart from, those of the file are
  lists_among : AreAmong lists (map values_name l.aux.string_enums)
  lists_among = among_trans lists (chosen.list_names s l) (map values_name l.aux.string_enums)
      (among_by lists (chosen.list_names s l) (chosen.lists_declare s l g.lists g.listed)) (chosen.names_among s l)

  no_list : (ys : List (List ℕ)) → AreApart (map values_name l.aux.string_enums) ys → AreApart lists ys
  no_list ys h = apart_among lists (map values_name l.aux.string_enums) ys lists_among h

  from_lists : (xs : List (List ℕ)) → AreApart xs (map values_name l.aux.string_enums) → AreApart xs lists
  from_lists xs h = apart_swap lists xs (no_list xs (apart_swap xs (map values_name l.aux.string_enums) h))

  -- so are those of functions of closures from what the names of all such functions are apart from
  no_closure : (ys : List (List ℕ)) → AreApart (closure_names l) ys → AreApart closures ys
  no_closure ys h = apart_among closures (closure_names l) ys (closed.closures_among s m l g.closures g.enclosed) h

  from_closures : (xs : List (List ℕ)) → AreApart xs (closure_names l) → AreApart xs closures
  from_closures xs h = apart_swap closures xs (no_closure xs (apart_swap xs (closure_names l) h))

  -- all given names
  no_given : (ys : List (List ℕ)) → AreApart (closure_names l) ys → AreApart (map values_name l.aux.string_enums) ys → AreApart given_names ys
  no_given ys h k = apart_both closures lists ys (no_closure ys h) (no_list ys k)

  from_given : (xs : List (List ℕ)) → AreApart xs (closure_names l) → AreApart xs (map values_name l.aux.string_enums) → AreApart xs given_names
  from_given xs h k = apart_joined xs closures lists (from_closures xs h) (from_lists xs k)

  drawn_no_callbacks : AreApart drawn (closure_names l)
  drawn_no_callbacks = free_no_callbacks s l drawn (called.listed_free s l m n g.pairs sub has)

  given_no_fixed : AreApart given_names (fixed_names s l.«module»)
  given_no_fixed = no_given (fixed_names s l.«module») b.callbacks.no_fixed b.lists.no_fixed

  are_drawn : AreDrawn s l.«module» paths held memory few g.numbered parts standing listed imported_names constant_names names given_names
  are_drawn =
      let names_apart = published.tree_apart s m l b n g.declares g.declared drawn drawn_of in
      let fixed_apart = called.listed_no_fixed s l m n g.pairs sub has in
      let given_apart = from_given drawn drawn_no_callbacks (called.listed_no_values s l m n g.pairs sub has) in record {
        imports_once = imported.lines_distinct form (imports g) g.lines g.imported drawn_distinct;
        constants_once = imported.constants_distinct form (imports g) g.lines g.imported drawn_distinct;
        names_once = published.tree_distinct s m l b n g.declares g.declared;
        given_once = distinct_both closures lists (closed.closures_distinct s m l g.closures g.enclosed b.callbacks.of_one)
            (chosen.lists_distinct s l g.lists g.listed b.lists.once) (no_closure lists (from_lists (closure_names l) b.callbacks.no_values));
        imports_constants = imported.lines_constants form (imports g) g.lines g.imported drawn_distinct;
        imports_names = lines_apart names names_apart;
        constants_names = constants_apart names names_apart;
        imports_given = lines_apart given_names given_apart;
        constants_given = constants_apart given_names given_apart;
        names_given = from_given names (published.tree_no_callbacks s m l b n g.declares g.declared)
            (published.tree_no_values s m l b n g.declares g.declared);
        imports_own = no_own imported_names (lines_apart (fixed_names s l.«module») fixed_apart);
        constants_own = no_own constant_names (constants_apart (fixed_names s l.«module») fixed_apart);
        names_own = no_own names (published.tree_no_fixed s m l b n g.declares g.declared);
        given_own = no_own given_names given_no_fixed;
      }

  hosts_are : host_names s l.aux ≡ map (λ w. w.now) HOSTS ++ flat_map (described_hosts s.omit_imports) (described_names l.aux)
  unfolding host_names
  hosts_are =
      let fixed = map (λ w. w.now) HOSTS in
      let described = flat_map (described_hosts s.omit_imports) (described_names l.aux) in
      ap (λ (t : Target). fixed ++ (target_hosts t ++ (described ++ inspect_names s l.aux))) b.deno
      ∙ ap (λ (names : List (List ℕ)). fixed ++ (described ++ names)) (none_inspected s l b.deno)
      ∙ ap (λ (names : List (List ℕ)). fixed ++ names) (append-nil described)

  -- what described names bring is away from the file's own names
  described_apart : AreApart (flat_map (described_hosts s.omit_imports) (described_names l.aux)) own
  described_apart =
      apart_by (flat_map (described_hosts s.omit_imports) (described_names l.aux)) own (λ x i k.
      let r = from_flat (described_hosts s.omit_imports) (described_names l.aux) x i in
      b.apart r.0 r.1 x r.2 (among_in x own (fixed_names s l.«module») own_all_fixed k))

  -- the file's own names are none of the host
  outside : AreApart own (host_names s l.aux)
  outside =
      rw hosts_are (apart_joined own (map (λ w. w.now) HOSTS) _ (own_no_hosts s l.«module» paths held memory few g.numbered parts standing listed) (apart_swap _ own described_apart))

  -- nor are given ones
  given_no_host : AreApart given_names (host_names s l.aux)
  given_no_host =
      rw hosts_are (apart_joined given_names (map (λ w. w.now) HOSTS) _ (no_given (map (λ w. w.now) HOSTS) b.callbacks.no_common b.lists.no_common)
      (no_given _ b.callbacks.no_described b.lists.no_described))

  -- a name of the host that each file has
  known : (ys : List (List ℕ)) → list_all (is_one_of (map (λ w. w.now) HOSTS)) ys ≡ true → AreAmong ys (host_names s l.aux)
  known ys h = rw hosts_are (among_left ys (map (λ w. w.now) HOSTS) _ (all_found (map (λ w. w.now) HOSTS) ys h))

  bound : bound_names all ≡ declared
  bound = declared_are all
      ∙ given g (λ item. bound_in item.words) (λ place. []) g.helpers (λ place item k d. define_binds s m l place item d)
      ∙ rw (
        sym (declared_are g.lines),
        sym (declared_are (constants g)),
        sym (declared_are g.declares),
        sym (declared_are g.closures),
        sym (declared_are g.lists),
      )
      (simp (flat_none, lines_bound, fixed.start_bound, end_bound, fixed.loading_bound, append-nil))

  -- ---- what functions use

  -- the file declares `wasm` itself
  own_wasm : IsIn (codes "wasm") own
  own_wasm = in_right (codes "wasm") (module_names 1 paths) (start_binds memory ++ (held ++ loading_bound))
      (in_right (codes "wasm") (start_binds memory) (held ++ loading_bound) (in_right (codes "wasm") held loading_bound (inr (inr (inr (inl refl))))))

  -- so no name that is no fixed one is `wasm`
  not_wasm : (names : List (List ℕ)) → AreApart names (fixed_names s l.«module») → (name : List ℕ) → IsIn name names → is_wasm name ≡ false
  not_wasm names no_fixed name at = by (is_wasm name) refl
    where
      by : (b : Bool) → is_wasm name ≡ b → b ≡ false
      by false q = refl
      by true q =
          let same = (bytes_eq-Decides (codes "wasm") name).0 q in
          absurd (apart_in (codes "wasm") own names (apart_swap names own (no_own names no_fixed)) own_wasm
          (subst (λ (x : List ℕ). IsIn x names) (sym same) at))

  no_wasm : (name : List ℕ) → IsIn name drawn → is_wasm name ≡ false
  no_wasm = not_wasm drawn (called.listed_no_fixed s l m n g.pairs sub has)

  taken : AreTaken s l m
  taken = record { items = n.items; few = g.few }

  begun_well : (id : ℕ) (w : AuxImport) → has_number id (own_callees s l) ≡ true → entry_of id l.aux.imports ≡ Some w → (name : JsImportName)
      → IsIn name (names_of (js_import w)) → IsWell m name
  begun_well id w mine is name i = by (import_name m name) refl
    where
      by : (drawn : Option (List ℕ)) → import_name m name ≡ drawn → IsBegunWell drawn (plain_name name)
      by (Some text) found = (n.good.idents (things.Import name) text found, no_wasm text (entry_drawn id w mine is name i text found))
      by None none = b.idents name (begun_described id w mine is name i) (plain_name name) (entry_brought id w mine is name i none)

  list_ident : (name : List ℕ) → IsIn name (chosen.list_names s l) → is_ident name ≡ true
  list_ident name i = b.lists.idents name (among_in name (chosen.list_names s l) (map values_name l.aux.string_enums) (chosen.names_among s l) i)

  callback_ident : (id : ℕ) (name : List ℕ) → callback_name l id ≡ Some name → is_ident name ≡ true
  callback_ident id name h = b.callbacks.idents name (callback_listed l id name h)

  -- the name of the function of a closure that a function makes
  closure_well : (function : List ℕ) → IsClosureOf s l function → (is_ident function && not (is_wasm function)) ≡ true
  closure_well function c =
      and_from (is_ident function) (not (is_wasm function)) (callback_ident c.adapter function c.named)
      (ap not (not_wasm (closure_names l) b.callbacks.no_fixed function (callback_listed l c.adapter function c.named)))

  well : AreWell s l m
  well = record { named = begun_well; closures = closure_well; lists = list_ident; taken = taken }

  -- what stands among the first names, or is provided
  there : (ys : List (List ℕ)) → AreAmong ys first → AreAmong ys (first ++ provided)
  there ys h = among_left ys first provided h

  drawn_first : (name : List ℕ) → IsIn name drawn → IsIn name (first ++ provided)
  drawn_first name at = elim (imported.one_declares form (imports g) g.lines g.imported s.omit_imports no_host name at) [
    | inl here ↦ among_in name imported_names (first ++ provided)
        (there imported_names (imports_first s l.«module» paths held memory few g.numbered parts standing listed imported_names constant_names names given_names)) here
    | inr here ↦ among_in name constant_names (first ++ provided)
        (there constant_names (constants_first s l.«module» paths held memory few g.numbered parts standing listed imported_names constant_names names given_names)) here
  ]

  loaded : AreAmong loading_bound first
  loaded = loading_first s l.«module» paths held memory few g.numbered parts standing listed imported_names constant_names names given_names

  framed : AreAmong (start_binds memory) first
  framed = frame_first s l.«module» paths held memory few g.numbered parts standing listed imported_names constant_names names given_names

  supplied_first : AreAmong given_names first
  supplied_first = given_first s l.«module» paths held memory few g.numbered parts standing listed imported_names constant_names names given_names

  closures_first : AreAmong closures first
  closures_first = among_trans closures given_names first (among_left closures closures lists (among_itself closures)) supplied_first

  listed_first : AreAmong lists first
  listed_first = among_trans lists given_names first (among_right lists closures lists (among_itself lists)) supplied_first

  begun : (id : ℕ) (w : AuxImport) → has_number id (own_callees s l) ≡ true → entry_of id l.aux.imports ≡ Some w → (name : JsImportName)
      → IsIn name (names_of (js_import w)) → HasName (names_with s l (first ++ provided)) m name
  begun id w mine is name i = by (import_name m name) refl
    where
      by : (drawn : Option (List ℕ)) → import_name m name ≡ drawn → HasBegun (names_with s l (first ++ provided)) drawn (plain_name name)
      by (Some text) found = drawn_first text (entry_drawn id w mine is name i text found)
      by None none = described_host s l name (begun_described id w mine is name i) (plain_name name) (entry_brought id w mine is name i none)

  basis : HasBasis s l m (first ++ provided)
  basis = record {
    wasm = (there loading_bound loaded).1.1.1.0;
    memory = λ taken. among_in (codes "memory") (start_binds memory) (first ++ provided) (there (start_binds memory) framed)
        (subst (λ (b : Bool). IsIn (codes "memory") (start_binds b)) (sym taken) (inr (inl refl)));
    helpers = among_right provided first provided (among_itself provided);
    closures = λ function c. among_in function closures (first ++ provided) (there closures closures_first)
        (closed.closure_declared s m l g.closures g.enclosed function c);
    lists = among_trans (chosen.list_names s l) lists (first ++ provided)
        (among_by (chosen.list_names s l) lists (chosen.lists_declare_all s l g.lists g.listed)) (there lists listed_first);
    begun = begun;
    values = λ value name h. among_in name loading_bound (first ++ provided) (there loading_bound loaded)
        (deno_loaded value name (subst (λ (target : Target). loaded_name target value ≡ Some name) b.deno h));
    taken = taken;
  }

  -- ---- re-exports

  -- what a re-export names is listed with a drawn name
  reexport_listed : (r : Reexport) → IsIn r l.aux.reexports → (x : List ℕ) × (import_name m (r.1).name ≡ Some x) × IsIn ((r.1).name, x) (imports g)
  reexport_listed r i = called.reexport_listed s l m n g.pairs sub has r i (published.no_outside s m l b n g.declares g.declared r i)

  -- it stands among the first names
  reexport_first : (r : Reexport) → IsIn r l.aux.reexports → (x : List ℕ) × (import_name m (r.1).name ≡ Some x) × IsIn x (first ++ provided)
  reexport_first r i =
      let d = reexport_listed r i in
      (d.0, d.1, drawn_first d.0 (in_map (λ (import : Imported). import.1) ((r.1).name, d.0) (imports g) d.2))

  -- and an item binds it for the import
  reexport_bound : (r : Reexport) → IsIn r l.aux.reexports → (x : List ℕ) × (import_name m (r.1).name ≡ Some x) × IsImportBound all (r.1).name x
  reexport_bound r i =
      let d = reexport_listed r i in (
        d.0,
        d.1,
        import_bound_among form (imports g) g.lines g.imported all
            (λ item k. imported_stands g g.helpers item (inl k)) (λ item k. imported_stands g g.helpers item (inr k))
            s.omit_imports (r.1).name d.0 d.2 (published.no_outside s m l b n g.declares g.declared r i),
      )

  -- ---- linkage

  -- what a drawn name's vendor brings are identifiers, and known
  import_hosts : (c : Context) → c.hosts ≡ host_names s l.aux → (import : Imported) → IsIn import (imports g) → imported.AreHosts c import.0
  import_hosts c hosts import i =
      let described = called.called_described s l m n g.pairs sub has import.0 (called.listed_named s l m n g.pairs sub has import i).0 in record {
        idents = list_all-from_AllPass is_ident (described_hosts false import.0) (all_are (λ (x : List ℕ). is_ident x ≡ true) (described_hosts false import.0)
            (λ x k. b.idents import.0 described x (more_hosts s.omit_imports import.0 x k)));
        known = among_by (described_hosts false import.0) c.hosts (λ x k.
            subst (IsIn x) (sym hosts) (described_host s l import.0 described x (more_hosts s.omit_imports import.0 x k)));
      }

  -- the module of the members is declared by the frame's start
  first_module : IsIn (codes "import0") (first ++ provided)
  first_module = among_in (codes "import0") (start_binds memory) (first ++ provided) (there (start_binds memory) framed) (own_framed memory)

  -- and what its end uses of the host is known
  proxy_known : (handed : Bool) → AreAmong (end_hosts handed) (host_names s l.aux)
  proxy_known true = known (codes "Proxy" ∷ []) refl
  proxy_known false = tt

  -- the items but helpers belong where all names of helpers are declared too that are provided
  firsts : AllItems (λ item. Belongs (names_with s l (first ++ provided)) item.words) (items_with g [])
  firsts =
      let c = names_with s l (first ++ provided) in
      let lined = lines_first s l.«module» paths held memory few g.numbered parts standing listed imported_names constant_names names given_names in
      let small : 1 + length paths < 2 ^ 64 = let h = g.numbered in omega (arith, h) in
      let own0 : module_names 0 (own_path s.stem ∷ paths) ≡ codes "import0" ∷ module_names 1 paths = ap (λ (n : List ℕ). n ∷ module_names 1 paths) own_name in
      each_item g (λ item. Belongs c item.words) []
      (imported.lines_belong form (imports g) g.lines g.imported c drawn_idents (rw b.deno tt))
      (each_line (λ item. Belongs c item.words) 1 paths (λ n path less. foreign_belongs Es n path c (omega (arith, less, small)) tt))
      (imported.constants_belong form (imports g) g.lines g.imported c drawn_idents (known (codes "undefined" ∷ []) refl).0 (import_hosts c refl))
      (published.items_belong s m l b n g.declares g.declared well c.declared basis
      (there names (names_first s l.«module» paths held memory few g.numbered parts standing listed imported_names constant_names names given_names)) reexport_first)
      (λ place item k x. define_belongs s m l well c.declared basis b.pair_steps b.hands place k (b.defined place k) item x)
      (belongs_by_facts c _ (fixed.start_fits c s.stem memory))
      (belongs_by_facts c _ (end_fits s.stem paths strings c (modules_idents 0 (own_path s.stem ∷ paths) (omega (arith, small)))
      (subst (λ (ns : List (List ℕ)). AreAmong ns c.declared) (sym own0) (first_module, there (module_names 1 paths) lined)) (proxy_known strings)))
      (closures_so (λ item. Belongs c item.words) (λ id item k d.
      closed.closure_belongs s m l id item d well (callback_ident id d.name d.named) (b.closure_steps id k) c.declared basis))
      (chosen.lists_belong s l g.lists g.listed c list_ident)
      tt
      (belongs_by_facts c _ (fixed.loading_fits c s.stem strings starts
      (among_trans (fixed.loading_uses starts) (start_binds memory ++ loading_bound) c.declared (loading_within memory starts)
      (there (start_binds memory ++ loading_bound) (among_both (start_binds memory) loading_bound first framed loaded)))
      (known (codes "URL" ∷ codes "WebAssembly" ∷ codes "fetch" ∷ []) refl)
      (among_right (fixed.call_takes starts) (names_with_added s l) (last_exports s l)
      (among_right (fixed.call_takes starts) (shim_export (shim_global s l)) (fixed.call_takes starts) (among_itself (fixed.call_takes starts))))))

  -- ---- helpers that are held

  -- a name that an item in front uses is that of no helper, or provided
  asked_so : (item : Item) (name : List ℕ) → IsIn item (front g) → IsIn name (used_in item.words) → (binder parts name ≡ None) ⊎ IsProvided parts name
  asked_so item name ahead k =
      let belongs = one_of (λ (i : Item). Belongs (names_with s l (first ++ provided)) i.words) (items_with g []) item firsts
      (in_left item (front g) (loading g ∷ []) ahead) in
      let fixed_apart = called.listed_no_fixed s l m n g.pairs sub has in
      elim (in_either name first provided (among_in name (used_in item.words) (first ++ provided) belongs.resolved.bound k)) [
        | inl here ↦ inl (unlisted_unbound parts name
            (first_unlisted s l.«module» paths held memory few g.numbered parts standing listed imported_names constant_names names given_names
            (lines_apart (fixed_names s l.«module») fixed_apart) (constants_apart (fixed_names s l.«module») fixed_apart)
            (published.tree_no_fixed s m l b n g.declares g.declared) given_no_fixed name here))
        | inr free ↦ inr (in_provided parts name free)
      ]

  -- so all that are asked for are supplied
  roots : All (λ i. is_supplied parts i ≡ true) needed
  roots = asked_supplied parts (front g) asked_so

  held_fixed : AllItems (λ item. fixed_by item ≡ []) g.helpers
  held_fixed =
      all_applied (λ item. list_any is_export_key item.words ≡ false) (λ item. fixed_by item ≡ []) g.helpers
      (held_so _ (λ entry h. ap (λ (b : Bool). fixed_of (role.Helper entry.0) b entry.1) h)) (supplied_inner parts needed g.helpers g.asked roots)

  -- loading uses what the frame and it declare
  loading_declared : AreAmong (used_in (loading g).words) declared
  loading_declared =
      let bound = start_binds memory ++ loading_bound in
      subst (λ (ns : List (List ℕ)). AreAmong ns declared) (sym (fixed.loading_used s.stem strings starts))
      (among_trans (fixed.loading_uses starts) bound declared (loading_within memory starts)
      (among_trans bound first declared (among_both (start_binds memory) loading_bound first framed loaded)
      (first_among s l.«module» paths held memory few g.numbered parts standing listed imported_names constant_names names given_names)))

  -- a name that such an item uses is declared: where it is a helper's, that one is held
  first_declared : (item : Item) → IsIn item (items_with g []) → AreAmong (used_in item.words) (first ++ provided) → AreAmong (used_in item.words) declared
  first_declared item at used = elim (in_either item (front g) (loading g ∷ []) at) [
    | inl ahead ↦ among_by (used_in item.words) declared (λ name k.
        elim (in_either name first provided (among_in name (used_in item.words) (first ++ provided) used k)) [
          | inl here ↦ among_in name first declared
              (first_among s l.«module» paths held memory few g.numbered parts standing listed imported_names constant_names names given_names) here
          | inr free ↦ among_in name held declared
              (held_among s l.«module» paths held memory few g.numbered parts standing listed imported_names constant_names names given_names)
              (provided_declared parts (front g) g.helpers g.asked item name ahead k (in_provided parts name free))
        ])
    | inr (inl same) ↦ subst (λ (i : Item). AreAmong (used_in i.words) declared) (sym same) loading_declared
    | inr (inr none) ↦ absurd none
  ]

  belong : AllItems (λ item. Belongs (names_with s l declared) item.words) all
  belong =
      let c = names_with s l declared in
      with_held g (λ item. Belongs c item.words) g.helpers
      (all_kept (λ item. Belongs (names_with s l (first ++ provided)) item.words) (λ item. Belongs c item.words) (items_with g [])
      (λ item at h. belongs_among (names_with s l (first ++ provided)) declared item.words h (first_declared item at h.resolved.bound)) firsts)
      (supplied_belong parts needed g.helpers g.asked roots c (among_in (codes "wasm") loading_bound declared
      (among_trans loading_bound first declared loaded (first_among s l.«module» paths held memory few g.numbered parts standing listed imported_names constant_names names given_names))
      (inr (inr (inr (inl refl))))) (held_among s l.«module» paths held memory few g.numbered parts standing listed imported_names constant_names names given_names)
      (known helper_hosts refl)
      (among_by (given_exports parts) c.exports (λ name at.
      in_left name (names_with_added s l) (last_exports s l) (all_given s l m n.items g.few name at))))

  -- the words of an item are asked for among items
  abbrev IsAsked : List Item → Item → Type 0
  IsAsked items item = IsOneOf item.words (role_words s starts (frame_of s l) items item.role (bound_in item.words))

  linked : IsLinked s (host_names s l.aux) (described_keys l.aux) (rewritten s l) all starts
  linked =
      let c = names_with s l declared in
      let d = supplied_distinct parts needed g.helpers g.asked roots in
      let hosts_apart = called.listed_no_host s l m n g.pairs sub has in
      let k = linked_by_words c all (sym bound) belong
      (rw bound (all_distinct s l.«module» paths held memory few g.numbered parts standing listed imported_names constant_names names given_names d are_drawn))
      (rw bound (all_apart s l.«module» paths held memory few g.numbered parts standing listed imported_names constant_names names given_names c.hosts (lines_apart c.hosts hosts_apart)
      (constants_apart c.hosts hosts_apart) (published.tree_no_host s m l b n g.declares g.declared) given_no_host outside)) in
      let exported : EachItem (IsExported (export_names (rewritten s l))) [] all = rw (rewritten_exports s l) at k.exported in
      let asked : List Item → Item → List Item → Type 0 = IsPrescribed s starts (frame_of s l) in
      let each = each_item g (λ item. (before after : List Item) → before ++ item ∷ after ≡ all → asked before item after) g.helpers
      (lines_so _ (λ item h before after e. imported.import_prescribed item h s starts (frame_of s l) before after))
      (each_line _ 1 paths (λ n path less before after e. tt))
      (constants_so _ (λ item h before after e. imported.import_prescribed item h s starts (frame_of s l) before after))
      (all_kept _ _ g.declares (λ item i h before after e. subst (λ (items : List Item). IsAsked items item) (sym e) h)
      (published.tree_prescribed s m l b n g.declares g.declared well all (declared_stands g g.helpers) starts (frame_of s l)))
      (λ place item k x before after e. rw (define_role s m l place item x) tt)
      (λ before after e. (frame_told s.target s.stem (frame_of s l) b.deno).0) (λ before after e. (frame_told s.target s.stem (frame_of s l) b.deno).1)
      (closures_so _ (λ id item k d before after e. rw d.is tt)) (lists_so _ (λ x before after e. tt)) (held_so _ (λ entry before after e. tt))
      (λ before after e. rw b.deno (inl refl)) in
      let prescribed : EachItem asked [] all = each_among asked all [] all refl (λ before item after k e.
      each_at (λ item. (before after : List Item) → before ++ item ∷ after ≡ all → asked before item after) item all each k before after e) in
      let framed : EachItem (IsPrescribed s starts (frame_in s.stem (rewritten s l))) [] all =
      subst (λ (frame : Frame). EachItem (IsPrescribed s starts frame) [] all) b.framed prescribed in
      assumption (k, exported, framed)

  -- ---- functions of closures

  -- no item but those of closures that are made declares the name of a closure's function
  closures_hold : AllItems (HoldsClosure s m l) all
  closures_hold =
      let others = closed.others_hold s m l in
      let other = closed.other_holds s m l in
      let by_names = λ (items : List Item) (h : AreApart (bound_names items) (closure_names l)).
      others items (subst (λ (ns : List (List ℕ)). AreApart ns (closure_names l)) (declared_are items) h) in
      let own_apart = apart_swap (closure_names l) own (no_own (closure_names l) b.callbacks.no_fixed) in
      let lined = apart_parts (module_names 1 paths) (start_binds memory ++ (held ++ loading_bound)) (closure_names l) own_apart in
      let started = apart_parts (start_binds memory) (held ++ loading_bound) (closure_names l) lined.1 in
      let behind = apart_parts held loading_bound (closure_names l) started.1 in
      each_item g (HoldsClosure s m l) g.helpers
      (by_names g.lines (lines_apart (closure_names l) drawn_no_callbacks))
      (others (foreign_lines 1 paths) (subst (λ (ns : List (List ℕ)). AreApart ns (closure_names l)) (sym (lines_bound 1 paths)) lined.0))
      (by_names (constants g) (constants_apart (closure_names l) drawn_no_callbacks))
      (by_names g.declares (published.tree_no_callbacks s m l b n g.declares g.declared))
      (λ place item k x. other item (rw (define_binds s m l place item x) tt))
      (other (frame_start s.stem memory) (rw (fixed.start_bound s.stem memory) started.0))
      (other (frame_end s.stem paths strings) (rw (end_bound s.stem paths strings) tt))
      (closures_so _ (λ id item k d. closed.closure_holds s m l id item d b.callbacks.of_one k))
      (by_names g.lists (no_list (closure_names l) (apart_swap (closure_names l) (map values_name l.aux.string_enums) b.callbacks.no_values)))
      (others g.helpers behind.0)
      (other (loading g) (rw (fixed.loading_bound s.stem strings starts) behind.1))

  defined : IsDefined s m l (rewritten s l) all
  defined =
      let places : defined_places all ≡ g.places =
      given g (λ item. defined_by item.role) (λ place. place ∷ []) g.helpers (λ place item k x. ap defined_by (define_role s m l place item x))
      ∙ rw (
        lines_none (λ item. defined_by item.role) imported.import_defined,
        none_given (λ item. defined_by item.role) (foreign_lines 1 paths) (each_line _ 1 paths (λ n path less. refl)),
        constants_none (λ item. defined_by item.role) imported.import_defined,
        none_given (λ item. defined_by item.role) g.declares (published.tree_defines s m l b n g.declares g.declared),
        closures_none (λ item. defined_by item.role) (λ id item k d. rw d.is refl),
        lists_none (λ item. defined_by item.role) (λ e. refl),
        none_given (λ item. defined_by item.role) g.helpers (held_so _ (λ entry. refl)),
      ) (simp (flat_map_single, map-id, append-nil)) in
      let moved = g.by_place.same in
      record {
        only = λ place h. moved_from own_places g.places moved place (rw places at h);
        all = λ place h. rw places (moved_from g.places own_places (IsPermutation-sym _ _ moved) place h);
        once = rw places (distinct_moved ◌==◌ Decides-eqb own_places g.places moved b.once);
        functions = each_any _ [] all (each_item g _ g.helpers
            (lines_so _ (λ item h before after. imported.import_function item h s m l (rewritten s l)))
            (each_line _ 1 paths (λ n path less before after. tt))
            (constants_so _ (λ item h before after. imported.import_function item h s m l (rewritten s l)))
            (all_kept _ _ g.declares (λ item i h before after. h) (published.tree_functions s m l b n g.declares g.declared))
            (λ place item h x before after. define_holds s m l place item h (b.defined place h) x)
            (λ before after. tt) (λ before after. tt) (closures_so _ (λ id item k d before after. rw d.is tt)) (lists_so _ (λ e before after. tt))
            (held_so _ (λ entry before after. tt)) (λ before after. tt));
        closures = λ id k.
            let r = closed.closure_there s m l g.closures g.enclosed id k in (r.0, closure_stands g g.helpers r.0 r.1, r.2);
        callbacks = each_any _ [] all (all_kept (HoldsClosure s m l) _ all (λ item i h before after. h) closures_hold);
        given = item_exported s l m n.items;
      }

  -- ---- what is published

  -- the name under which an item publishes a thing stands for it
  names_stand : AllItems (λ item. IsNamed s l.aux all item.role) all
  names_stand =
      each_item g (λ item. IsNamed s l.aux all item.role) g.helpers
      (lines_so _ (λ item h. imported.import_named item h s l.aux all))
      (each_line _ 1 paths (λ n path less. tt))
      (constants_so _ (λ item h. imported.import_named item h s l.aux all))
      (published.items_named s m l b n g.declares g.declared well all (declared_stands g g.helpers) reexport_bound)
      (λ place item k x. rw (define_role s m l place item x) tt) tt tt (closures_so _ (λ id item k d. rw d.is tt)) (lists_so _ (λ e. tt))
      (held_so _ (λ entry. tt)) tt

  -- the glue file publishes no fixed name
  none_fixed : fixed_public s l.«module» l.wit l.aux ≡ []
  none_fixed = rw (b.deno, b.plain_files.0, b.plain_files.1) refl

  exactly : IsPublished s l.aux (fixed_public s l.«module» l.wit l.aux) all
  exactly =
      let tree = published.tree_published s m l b n g.declares g.declared well in
      let pairs : published_pairs all ≡ published_pairs g.declares =
      given g published_by (λ place. []) g.helpers (λ place item k x. rw (define_role s m l place item x) refl)
      ∙ rw (
        lines_none published_by imported.import_published,
        none_given published_by (foreign_lines 1 paths) (each_line _ 1 paths (λ n path less. refl)),
        constants_none published_by imported.import_published,
        closures_none published_by (λ id item k d. rw d.is refl),
        lists_none published_by (λ e. refl),
        none_given published_by g.helpers (held_so _ (λ entry. refl)),
      ) (simp (flat_none, append-nil)) in
      let none : fixed_published all ≡ [] =
      given g fixed_by (λ place. []) g.helpers (λ place item k x. rw (define_role s m l place item x, define_exported s m l well (first ++ provided) basis b.pair_steps b.hands place k (b.defined place k) item x) refl)
      ∙ rw (
        lines_none fixed_by imported.import_fixed,
        none_given fixed_by (foreign_lines 1 paths) (lines_inner 1 paths),
        constants_none fixed_by imported.import_fixed,
        none_given fixed_by g.declares (published.tree_fixed s m l b n g.declares g.declared),
        closures_none fixed_by (λ id item k d. closed.closure_inner s m l id item d well (callback_ident id d.name d.named) (b.closure_steps id k)),
        lists_none fixed_by list_inner,
        none_given fixed_by g.helpers held_fixed,
      ) (simp (flat_none, fixed.start_fixed, end_fixed, fixed.loading_fixed)) in
      record {
        only = λ pair. rw pairs (tree.only pair);
        all = λ pair. rw pairs (tree.all pair);
        once = rw pairs tree.once;
        named = each_among (λ before item after. IsNamed s l.aux (before ++ item ∷ after) item.role) all [] all refl (λ before item after k e.
            subst (λ (items : List Item). IsNamed s l.aux items item.role) (sym e) (each_at (λ item. IsNamed s l.aux all item.role) item all names_stand k));
        fixed_only = λ name h. absurd (elim h [ inl k ↦ subst (IsIn name) none k | inr a ↦ fixed.nothing_assigned s all name b.deno a ]);
        fixed_all = λ name h. absurd (subst (IsIn name) none_fixed h);
      }

  -- from the facts, however they were found
  pub sound_by_facts : IsSound s m l items
  sound_by_facts = rw g.all (record { linked = linked; defined = defined; published = exactly })

pub sound : (f : FileFlags) (s : Settings) (m : NameMap) (l : Lowered) (items : List Item) → unbuilt f s l ≡ None → verdict s l ≡ None → AreNames s l m
    → IsGlue s m l items → IsSound s m l items
sound f s m l items whole passed drawn = sound_by_facts s m l items (built f s l whole passed) drawn
