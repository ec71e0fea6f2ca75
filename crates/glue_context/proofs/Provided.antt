-- Helpers that instructions call are provided by what the module gives: their names are among those that helpers may bind there, and what is given
-- stands.
use Rattle.glue_context.proofs.Common.{◌≡◌, ℕ, zero, suc, ◌+◌, ◌<◌, List, [], ◌∷◌, ◌++◌, Bool, true, false, true≢false, Option, Some, None, refl, sym, ap, ◌∙◌, subst, arith, inl, inr, codes, is_some, length, list_all, some_of, IsIn, Item, Lowered, NameMap, Settings, option_map, in_left, in_right, bytes_eq-Decides, Contents}
use Rattle.values.proofs.Members.{in_either}
use Rattle.std.specs.Prelude.{◌^◌, ◌≤◌, ◌&&◌, cond, filter, not, slice_get, nat_le}
use Rattle.std.specs.List.{flat_map}
use Rattle.std.specs.Fmt.{decimal}
use Rattle.std.proofs.lemmas.Bool.{and_parts, leb-true, lt-ltb}
use Rattle.std.proofs.lemmas.Option.{slice_get_within}
use Rattle.values.specs.Map.{look_up}
use Rattle.wasm_core.specs.declared.types.Memory.{Memory}
use Rattle.wasm_core.specs.entries.ExportItem.{ExportItem}
use Rattle.wasm_core.specs.entries.ExportItem.TheVariants as items
use Rattle.wasm_core.specs.ids.FuncId.{FuncId}
use Rattle.wasm_core.specs.ids.MemoryId.{MemoryId}
use Rattle.wasm_core.specs.ids.TableId.{TableId}
use Rattle.glue_shared.specs.declared.adapter.Instruction.{Instruction}
use Rattle.glue_shared.specs.declared.adapter.Instruction.TheVariants as instr
use Rattle.glue_shared.specs.declared.adapter.VectorKind.TheVariants as vectors
use Rattle.glue_shared.specs.Roots.{instruction_items, is_entry, is_live_item, live_item, listed}
use Rattle.glue_steps.specs.declared.needed.ReferencePart.{ReferencePart}
use Rattle.glue_steps.specs.declared.needed.ReferencePart.TheVariants as part
use Rattle.glue_steps.specs.Needed.{destroyer, destroyer_item, destroyer_taken, goes_by, makes_closure, named_by, needed_items, part_item, part_named, part_taken, parts_taken, store_item}
use Rattle.glue_steps.specs.Resolving.{handle_helper, helper_of, item_order, or_empty}
use Rattle.taken_items.specs.ItemNames.{item_map, item_names}
use Rattle.taken_items.proofs.ItemNames.{given_listed, item_named, name_given, names_with_added, needed_asked, store_asked}
use Rattle.printed_adapters.specs.Caught.{catches, handing}
use Rattle.glue_check.proofs.Complete.{CanHand}
use Rattle.glue_check.proofs.Steps.{IsHelperOf, IsNamedFunction, IsPrinted}
use Rattle.glue_helpers.specs.declared.closures.ClosureHelper.{ClosureHelper}
use Rattle.glue_helpers.specs.declared.closures.ClosureHelper.TheVariants as closure
use Rattle.glue_helpers.specs.declared.element.ElementKind.TheVariants as element
use Rattle.glue_helpers.specs.declared.element.Width.TheVariants as width
use Rattle.glue_helpers.specs.Closures.{closure_item}
use Rattle.glue_helpers.specs.Errors.{handle_error_by_heap, handle_error_by_table}
use Rattle.glue_helpers.proofs.ClosureTexts.{closure_holds}
use Rattle.glue_helpers.proofs.ErrorTexts.{by_heap_holds, by_table_holds}
use Rattle.helper_table.specs.Laws.{any_in}
use Rattle.helper_table.specs.declared.parts.HelperParts.{HelperParts}
use Rattle.helper_table.specs.declared.parts.TableExport.{TableExport}
use Rattle.helper_table.specs.declared.kinds.MemoryHelper.{MemoryHelper}
use Rattle.helper_table.specs.declared.kinds.MemoryHelper.TheVariants as memory
use Rattle.helper_table.specs.declared.kinds.Family.TheVariants as family
use Rattle.helper_table.specs.declared.kinds.TableHelper.TheVariants as table
use Rattle.helper_table.specs.declared.kinds.Single.TheVariants as single
use Rattle.helper_table.specs.declared.kinds.TheConstants.{FAMILY_BINDS, SINGLES}
use Rattle.helper_table.specs.Made.{added, closure_made, error_handled, family_at, is_there, memory_item, single_at, taken, values_got, values_passed}
use Rattle.helper_table.specs.Names.{family_name, family_owner}
use Rattle.helper_table.proofs.HeldItems.{none_some, some_is}
use Rattle.helper_table.specs.Names as table_names
use Rattle.helper_table.specs.Names.{single_names}
use Rattle.helper_table.proofs.Held.{base_names}
use Rattle.helper_table.proofs.ListedNames.{IsListed, unlisted_not}
use Rattle.helper_table.proofs.Supplies.{IsProvided, base_provided, can_add, family_ready, given_exports, is_adding, option_names, single_provides, table_exports}
use Rattle.helper_table.proofs.SuppliedNames.{memory_provided, memory_stems, table_provided, table_stems}
use Rattle.glue_helpers.proofs.Numbered.{numbered_name}
use Rattle.glue_words.specs.Ident.{is_ident}
use Rattle.glue_words.specs.Names.{bound_in}
use Rattle.glue_words.specs.Spacing.{is_wasm}
use Rattle.glue_words.proofs.Idents.{ascii_ident, is_ascii_ident}
use Rattle.std.specs.Str.{chars, is_utf8}
use lib.Utf8.{encode}
use Rattle.glue_context.specs.Parts.{are_few, export_at, helper_parts, memory_exports, reference_item, table_export}
use Rattle.glue_context.specs.Parts as made_parts

-- ---- lists

-- a test that all pass, one of them passes
each_passes : {A : Type 0} (test : A → Bool) (xs : List A) (x : A) → list_all test xs ≡ true → IsIn x xs → test x ≡ true
each_passes test [] x h at = absurd at
each_passes test (y ∷ ys) x h (inl same) = ap test same ∙ (and_parts (test y) (list_all test ys) h).0
each_passes test (y ∷ ys) x h (inr at) = each_passes test ys x (and_parts (test y) (list_all test ys) h).1 at

-- and is kept
kept_by : {A : Type 0} (test : A → Bool) (xs : List A) (x : A) → test x ≡ true → IsIn x xs → IsIn x (filter test xs)
kept_by test [] x h at = absurd at
kept_by test (y ∷ ys) x h (inl same) = rw (ap test (sym same) ∙ h) (inl same)
kept_by test (y ∷ ys) x h (inr at) = by (test y) (kept_by test ys x h at)
  where
    by : (b : Bool) → IsIn x (filter test ys) → IsIn x (cond b (y ∷ filter test ys) (filter test ys))
    by true k = inr k
    by false k = k

-- the item of an option
listed_in : (o : Option ExportItem) (item : ExportItem) → o ≡ Some item → IsIn item (listed o)
listed_in o item e = subst (λ (p : Option ExportItem). IsIn item (listed p)) (sym e) (inl refl)

-- a live item is the one that is named
live_is : (m : Contents) (o : Option ExportItem) (item : ExportItem) → live_item m o ≡ Some item → (o ≡ Some item) × (is_live_item m item ≡ true)
live_is m None item e = absurd (none_some item e)
live_is m (Some x) item e = by (is_live_item m x) refl e
  where
    by : (b : Bool) → is_live_item m x ≡ b → cond b (Some x) None ≡ Some item → (Some x ≡ Some item) × (is_live_item m item ≡ true)
    by true q h = (h, subst (λ (y : ExportItem). is_live_item m y ≡ true) (some_is x item h) q)
    by false q h = absurd (none_some item h)

-- ---- names that helpers may bind

-- a name that a place may follow, so that both are an identifier
abbrev is_plain_stem : List ℕ → Bool
is_plain_stem stem = is_utf8 stem && is_ascii_ident stem

abbrev stems : List (List ℕ)
stems = memory_stems ++ table_stems

stems_fit : list_all is_plain_stem stems ≡ true
unfolding is_utf8 chars encode
stems_fit = refl

placed_ident : (stem : List ℕ) (place : ℕ) → IsIn stem stems → is_ident (table_names.printed stem (Some place)) ≡ true
placed_ident stem place at =
    let p = and_parts (is_utf8 stem) (is_ascii_ident stem) (each_passes is_plain_stem stems stem stems_fit at) in numbered_name stem place p.0 p.1

-- all of them are identifiers
pub listed_ident : (parts : HelperParts) (name : List ℕ) → IsListed parts name → is_ident name ≡ true
listed_ident parts name (inl at) = ascii_ident name (each_passes is_ascii_ident single_names name refl at)
listed_ident parts name (inr (inl o)) = ap is_ident o.told ∙ placed_ident o.stem o.place (in_left o.stem memory_stems table_stems o.listed)
listed_ident parts name (inr (inr o)) = ap is_ident o.told ∙ placed_ident o.stem o.«export».place (in_right o.stem memory_stems table_stems o.listed)

-- and none is `wasm`
pub listed_apart : (parts : HelperParts) (name : List ℕ) → IsListed parts name → not (is_wasm name) ≡ true
listed_apart parts name h = by (is_wasm name) refl
  where
    by : (b : Bool) → is_wasm name ≡ b → not b ≡ true
    by false q = refl
    by true q = absurd (unlisted_not parts (codes "wasm") refl (subst (IsListed parts) (sym ((bytes_eq-Decides (codes "wasm") name).0 q)) h))

-- ---- exports of memories

-- the export of a memory that stands, by its place
memory_at : (m : NameMap) (from n : ℕ) (memories : List (Option Memory)) → is_entry (slice_get memories n) ≡ true
    → slice_get (memory_exports m from memories) n ≡ Some (export_at m (Some (items.Memory (record { 0 = from + n }))))
memory_at m from n [] h = absurd (true≢false (sym h))
memory_at m from zero (None ∷ memories) h = absurd (true≢false (sym h))
memory_at m from zero (Some memory ∷ memories) h = ap (λ (k : ℕ). Some (export_at m (Some (items.Memory (record { 0 = k }))))) (omega arith)
memory_at m from (suc n) (entry ∷ memories) h =
    memory_at m (from + 1) n memories h ∙ ap (λ (k : ℕ). Some (export_at m (Some (items.Memory (record { 0 = k }))))) (omega arith)

-- the same, where the first has the place 0
memory_here : (m : NameMap) (n : ℕ) (memories : List (Option Memory)) → is_entry (slice_get memories n) ≡ true
    → slice_get (memory_exports m 0 memories) n ≡ Some (export_at m (Some (items.Memory (record { 0 = n }))))
memory_here m n memories h =
    let same : 0 + n ≡ n = omega arith in
    memory_at m 0 n memories h ∙ ap (λ (k : ℕ). Some (export_at m (Some (items.Memory (record { 0 = k }))))) same

-- where one is given, it stands, and its name was drawn
memory_from : (m : NameMap) (from n : ℕ) (memories : List (Option Memory)) (export : List ℕ)
    → slice_get (memory_exports m from memories) n ≡ Some (Some export)
    → (is_entry (slice_get memories n) ≡ true) × (look_up item_order m.wasm (items.Memory (record { 0 = from + n })) ≡ Some export)
memory_from m from n [] export h = cc
memory_from m from zero (None ∷ memories) export h = cc
memory_from m from zero (Some memory ∷ memories) export h =
    let here : look_up item_order m.wasm (items.Memory (record { 0 = from })) ≡ Some export = cc in
    (refl, subst (λ (k : ℕ). look_up item_order m.wasm (items.Memory (record { 0 = k })) ≡ Some export) (omega arith) here)
memory_from m from (suc n) (entry ∷ memories) export h =
    let r = memory_from m (from + 1) n memories export h in
    (r.0, subst (λ (k : ℕ). look_up item_order m.wasm (items.Memory (record { 0 = k })) ≡ Some export) (omega arith) r.1)

-- a place that stands is within the list
within : {A : Type 0} (xs : List (Option A)) (n : ℕ) → is_entry (slice_get xs n) ≡ true → n < length xs
within xs n h = by (slice_get xs n) refl h
  where
    by : (o : Option (Option _)) → slice_get xs n ≡ o → is_entry o ≡ true → n < length xs
    by None e k = absurd (true≢false (sym k))
    by (Some x) e k = slice_get_within xs n x e

module _ (s : Settings) (l : Lowered) (m : NameMap) (known : m.wasm ≡ item_map (item_names s l)) (few : are_few l.«module» ≡ true) where
  abbrev parts : HelperParts
  parts = helper_parts s l m

  -- ids name all memories and tables
  memory_small : (n : ℕ) → is_entry (slice_get l.«module».memories n) ≡ true → n < 2 ^ 32
  memory_small n h =
      let most = leb-true (length l.«module».memories) (2 ^ 32) (and_parts (nat_le (length l.«module».memories) (2 ^ 32)) (nat_le (length l.«module».tables) (2 ^ 32)) few).0 in
      let here = within l.«module».memories n h in omega (arith, most, here)

  table_small : (n : ℕ) → is_entry (slice_get l.«module».tables n) ≡ true → n < 2 ^ 32
  table_small n h =
      let most = leb-true (length l.«module».tables) (2 ^ 32) (and_parts (nat_le (length l.«module».memories) (2 ^ 32)) (nat_le (length l.«module».tables) (2 ^ 32)) few).1 in
      let here = within l.«module».tables n h in omega (arith, most, here)

  -- ---- names of exports

  -- an item that an instruction takes has a name, under which the module exports
  pub item_known : (i : Instruction) (item : ExportItem) → IsPrinted s l i → IsIn item (needed_items s l i)
      → (name : List ℕ) × ((look_up item_order m.wasm item ≡ Some name) × IsIn name (names_with_added s l))
  item_known i item printed at =
      let n = item_named s l item (needed_asked s l i item printed.among at) in
      (n.0, (ap (λ (es : List (ExportItem × List ℕ)). look_up item_order es item) known ∙ n.1.0, given_listed s l item n.0 n.1.1))

  -- the parts of a table of references that an instruction goes by
  abbrev parts_beside : Instruction → List ExportItem
  parts_beside i = cond s.externref (parts_taken l.aux i) []

  -- and what it takes beside what its ids name
  abbrev taken_beside : Instruction → List ExportItem
  taken_beside i = parts_beside i ++ destroyer_taken l.aux i

  -- so has each that its ids name
  named_needed : (i : Instruction) (item : ExportItem) → IsPrinted s l i → IsIn item (instruction_items i) → IsIn item (needed_items s l i)
  named_needed i item printed at =
      kept_by (is_live_item l.«module») (named_by s.externref l.aux i) item
      (each_passes (is_live_item l.«module») (instruction_items i) item printed.live at)
      (in_left item (instruction_items i) (taken_beside i) at)

  -- and each part that it goes by
  part_needed : (i : Instruction) (p : ReferencePart) (item : ExportItem) → s.externref ≡ true → goes_by i p ≡ true → part_item l p ≡ Some item
      → IsIn item (needed_items s l i)
  part_needed i p item on goes e =
      let live = live_is l.«module» (part_named l.aux p) item e in
      kept_by (is_live_item l.«module») (named_by s.externref l.aux i) item live.1
      (in_right item (instruction_items i) (taken_beside i) (in_left item (parts_beside i) (destroyer_taken l.aux i) (rw on (by p (here p goes live.0)))))
    where
      here : (p : ReferencePart) → goes_by i p ≡ true → part_named l.aux p ≡ Some item → IsIn item (part_taken l.aux i p)
      here p goes named = rw goes (listed_in (part_named l.aux p) item named)

      taken_by : ReferencePart → List ExportItem
      taken_by p = part_taken l.aux i p

      by : (p : ReferencePart) → IsIn item (part_taken l.aux i p) → IsIn item (parts_taken l.aux i)
      by part.Alloc at = in_left item (taken_by part.Alloc) (taken_by part.Drop ++ (taken_by part.DropSlice ++ taken_by part.Table)) at
      by part.Drop at =
          in_right item (taken_by part.Alloc) (taken_by part.Drop ++ (taken_by part.DropSlice ++ taken_by part.Table))
          (in_left item (taken_by part.Drop) (taken_by part.DropSlice ++ taken_by part.Table) at)
      by part.DropSlice at =
          in_right item (taken_by part.Alloc) (taken_by part.Drop ++ (taken_by part.DropSlice ++ taken_by part.Table))
          (in_right item (taken_by part.Drop) (taken_by part.DropSlice ++ taken_by part.Table)
          (in_left item (taken_by part.DropSlice) (taken_by part.Table) at))
      by part.Table at =
          in_right item (taken_by part.Alloc) (taken_by part.Drop ++ (taken_by part.DropSlice ++ taken_by part.Table))
          (in_right item (taken_by part.Drop) (taken_by part.DropSlice ++ taken_by part.Table)
          (in_right item (taken_by part.DropSlice) (taken_by part.Table) at))

  -- and the function that destroys closures, where it makes one
  destroyer_needed : (i : Instruction) (item : ExportItem) → makes_closure i ≡ true → destroyer_item l ≡ Some item → IsIn item (needed_items s l i)
  destroyer_needed i item makes e =
      let live = live_is l.«module» (destroyer l.aux) item e in
      kept_by (is_live_item l.«module») (named_by s.externref l.aux i) item live.1
      (in_right item (instruction_items i) (taken_beside i)
      (in_right item (parts_beside i) (destroyer_taken l.aux i) (rw makes (listed_in (destroyer l.aux) item live.0))))

  -- the export of a function that an instruction names
  pub function_known : (name : List ℕ) → IsNamedFunction s l m name → IsIn name (names_with_added s l)
  function_known name f =
      let n = item_known f.instruction (items.Func f.function) f.printed (named_needed f.instruction (items.Func f.function) f.printed f.named) in
      subst (λ (x : List ℕ). IsIn x (names_with_added s l)) (sym (f.is ∙ or_name n.1.0)) n.1.1
    where
      or_name : {o : Option (List ℕ)} {x : List ℕ} → o ≡ Some x → or_empty o ≡ x
      or_name e = ap or_empty e

  -- ---- what is given

  -- the memory that an instruction names is given
  memory_given : (i : Instruction) (id : MemoryId) → IsPrinted s l i → IsIn (items.Memory id) (instruction_items i)
      → (export : List ℕ) × (slice_get parts.memories id.0 ≡ Some (Some export)) × (id.0 < 2 ^ 32)
  memory_given i id printed at =
      let live = each_passes (is_live_item l.«module») (instruction_items i) (items.Memory id) printed.live at in
      let n = item_known i (items.Memory id) printed (named_needed i (items.Memory id) printed at) in
      (n.0, memory_here m id.0 l.«module».memories live ∙ ap Some n.1.0, memory_small id.0 live)

  -- a part that an instruction goes by is given
  part_given : (i : Instruction) (p : ReferencePart) → IsPrinted s l i → s.externref ≡ true → goes_by i p ≡ true
      → (item : ExportItem) × ((part_item l p ≡ Some item) × ((name : List ℕ) × (look_up item_order m.wasm item ≡ Some name)))
  part_given i p printed on goes =
      let there = some_of (part_item l p) (printed.complete.parts on p goes) in
      let n = item_known i there.0 printed (part_needed i p there.0 on goes there.1) in
      (there.0, (there.1, (n.0, n.1.0)))

  -- its export is that of the parts
  part_export : (i : Instruction) (p : ReferencePart) → IsPrinted s l i → s.externref ≡ true → goes_by i p ≡ true
      → (name : List ℕ) × (export_at m (reference_item s l p) ≡ Some name)
  part_export i p printed on goes =
      let g = part_given i p printed on goes in
      (g.1.1.0, ap (λ (b : Bool). export_at m (cond b (part_item l p) None)) on ∙ ap (export_at m) g.1.0 ∙ g.1.1.1)

  -- the function that destroys closures is given, where an instruction makes one
  destroyer_given : (i : Instruction) → IsPrinted s l i → makes_closure i ≡ true → (destroy : List ℕ) × (parts.destroy_closure ≡ Some destroy)
  destroyer_given i printed makes =
      let there = some_of (destroyer_item l) (printed.complete.destroys makes) in
      let n = item_known i there.0 printed (destroyer_needed i there.0 makes there.1) in
      (n.0, ap (export_at m) there.1 ∙ n.1.0)

  -- the table is given with its place
  abbrev IsTable : TableId → TableExport → Type 0
  IsTable id t = (l.aux.externref_table ≡ Some id) × ((t.place ≡ id.0) × (parts.table ≡ Some t)) × (t.place < 2 ^ 32)

  table_given : (i : Instruction) → IsPrinted s l i → s.externref ≡ true → goes_by i part.Table ≡ true
      → (id : TableId) × ((t : TableExport) × IsTable id t)
  table_given i printed on goes =
      let g = part_given i part.Table printed on goes in
      let live = live_is l.«module» (part_named l.aux part.Table) g.0 g.1.0 in
      by l.aux.externref_table refl g.0 live.0 live.1 g.1.0 g.1.1.0 g.1.1.1
    where
      by : (o : Option TableId) → l.aux.externref_table ≡ o → (item : ExportItem) → option_map items.Table o ≡ Some item
          → is_live_item l.«module» item ≡ true → part_item l part.Table ≡ Some item → (name : List ℕ) → look_up item_order m.wasm item ≡ Some name
          → (id : TableId) × ((t : TableExport) × IsTable id t)
      by None q item e live there name drawn = absurd (none_some item e)
      by (Some id) q (items.Table k) e live there name drawn =
          let same : k ≡ id = cc in
          let t : TableExport = record { place = k.0; name = name } in
          let made : parts.table ≡ Some t =
          ap (λ (b : Bool). table_export m (cond b (part_item l part.Table) None)) on ∙ ap (table_export m) there
          ∙ ap (option_map (λ (n : List ℕ). record { place = k.0; name = n })) drawn in
          (id, (t, (q, (ap (λ (x : TableId). x.0) same, made), table_small k.0 live)))
      by (Some id) q other e live there name drawn = cc

  -- ---- helpers of references

  -- a name of the object table's
  by_objects : (name : List ℕ) → IsIn name base_names → (helper : List ℕ) → Some name ≡ Some helper → IsProvided parts helper
  by_objects name at helper e = base_provided parts helper (subst (λ (x : List ℕ). IsIn x base_names) (some_is name helper e) at)

  -- one that goes by the table, by its place in the list of names, where it is there for the table that is given
  by_table : (objects references : List ℕ) (i : Instruction) → IsPrinted s l i → goes_by i part.Table ≡ true → IsIn objects base_names
      → ((t : TableExport) → s.externref ≡ true → parts.table ≡ Some t → t.place < 2 ^ 32 → IsProvided parts (references ++ decimal t.place))
      → (helper : List ℕ) → handle_helper s l objects references ≡ Some helper → IsProvided parts helper
  by_table objects references i printed goes base give helper e = by s.externref refl e
    where
      by : (b : Bool) → s.externref ≡ b → cond b (option_map (λ (id : TableId). references ++ decimal id.0) l.aux.externref_table) (Some objects) ≡ Some helper
          → IsProvided parts helper
      by false q h = by_objects objects base helper h
      by true q h =
          let t = table_given i printed q goes in
          let named : Some (references ++ decimal t.0.0) ≡ Some helper =
          ap (option_map (λ (id : TableId). references ++ decimal id.0)) (sym t.1.1.0) ∙ h in
          let same : references ++ decimal t.1.0.place ≡ helper = ap (λ (n : ℕ). references ++ decimal n) t.1.1.1.0 ∙ some_is _ helper named in
          subst (IsProvided parts) same (give t.1.0 q t.1.1.1.1 t.1.1.2)

  -- values are added where the table and the function for it are given
  adding : (i : Instruction) → IsPrinted s l i → goes_by i part.Table ≡ true → goes_by i part.Alloc ≡ true → is_adding parts ≡ true
  adding i printed goes allocates = by s.externref refl
    where
      by : (b : Bool) → s.externref ≡ b → cond b (can_add parts.table parts.externref_alloc) true ≡ true
      by false q = refl
      by true q =
          let t = table_given i printed q goes in
          let a = part_export i part.Alloc printed q allocates in
          ap (λ (o : Option TableExport). can_add o parts.externref_alloc) t.1.1.1.1
          ∙ ap (can_add (Some t.1.0)) a.1
          ∙ lt-ltb t.1.0.place (2 ^ 32) t.1.1.2

  -- an array of values is given, and passed
  got_there : (i : Instruction) (n : ℕ) → IsPrinted s l i → goes_by i part.Table ≡ true → goes_by i part.DropSlice ≡ true
      → is_there (values_got s.externref parts.table parts.externref_drop_slice n) ≡ true
  got_there i n printed goes drops = by s.externref refl
    where
      by : (b : Bool) → s.externref ≡ b → is_there (values_got b parts.table parts.externref_drop_slice n) ≡ true
      by false q = refl
      by true q =
          let t = table_given i printed q goes in
          let f = part_export i part.DropSlice printed q drops in
          ap (λ (o : Option TableExport). is_there (values_got true o parts.externref_drop_slice n)) t.1.1.1.1
          ∙ ap (λ (o : Option (List ℕ)). is_there (values_got true (Some t.1.0) o n)) f.1

  passed_there : (i : Instruction) (n : ℕ) → IsPrinted s l i → goes_by i part.Table ≡ true → is_there (values_passed s.externref parts.table n) ≡ true
  passed_there i n printed goes = by s.externref refl
    where
      by : (b : Bool) → s.externref ≡ b → is_there (values_passed b parts.table n) ≡ true
      by false q = refl
      by true q = let t = table_given i printed q goes in ap (λ (o : Option TableExport). is_there (values_passed true o n)) t.1.1.1.1

  -- ---- helpers of closures

  -- one that makes closures, by its number
  by_destroyer : (n : ℕ) (h : ClosureHelper) (name : List ℕ) (i : Instruction) → IsPrinted s l i → makes_closure i ≡ true → n < SINGLES
      → single_at n ≡ single.Closure h → ((destroy : List ℕ) → IsIn name (bound_in (closure_item h destroy).words)) → (helper : List ℕ)
      → Some name ≡ Some helper → IsProvided parts helper
  by_destroyer n h name i printed makes lt is binds helper e =
      let g = destroyer_given i printed makes in
      subst (IsProvided parts) (some_is name helper e)
      (single_provides parts n (single.Closure h) (closure_item h g.0) name lt is (ap (closure_made h) g.1) refl (binds g.0))

  -- ---- helpers of memories

  -- one that needs nothing but the memory, by its place in the list of names, or what it needs is given
  by_memory : (p : ℕ) (h : MemoryHelper) (i : Instruction) (id : MemoryId) → IsPrinted s l i → IsIn (items.Memory id) (instruction_items i)
      → p < FAMILY_BINDS → family_at (family_owner p) ≡ family.Memory h → ((export : List ℕ) → is_there (memory_item parts h id.0 export) ≡ true)
      → family_ready parts (family.Memory h) ≡ true → (helper : List ℕ) → Some (family_name p id.0) ≡ Some helper → IsProvided parts helper
  by_memory p h i id printed at lt is there ready helper e =
      let g = memory_given i id printed at in
      subst (IsProvided parts) (some_is (family_name p id.0) helper e) (memory_provided parts p id.0 h g.0 lt is g.2 g.1 (there g.0) ready)

  -- the memory that a string is written to is named
  string_memory : (malloc : FuncId) (realloc : Option FuncId) (id : MemoryId)
      → IsIn (items.Memory id) (items.Func malloc ∷ (listed (option_map items.Func realloc) ++ items.Memory id ∷ []))
  string_memory malloc realloc id = inr (in_right (items.Memory id) (listed (option_map items.Func realloc)) (items.Memory id ∷ []) (inl refl))

  -- ---- the helper of an instruction

  taken_by_table : (i : Instruction) → IsPrinted s l i → goes_by i part.Drop ≡ true → (t : TableExport) → s.externref ≡ true → parts.table ≡ Some t → t.place < 2 ^ 32
      → IsProvided parts (codes "takeFromExternrefTable" ++ decimal t.place)
  taken_by_table i printed drops t on given small =
      let f = part_export i part.Drop printed on drops in
      table_provided parts 27 table.Take t (omega arith) refl small given (ap (λ (o : Option (List ℕ)). is_there (taken t.place t.name o)) f.1)

  provides : (i : Instruction) → IsPrinted s l i → (helper : List ℕ) → helper_of s l i ≡ Some helper → IsProvided parts helper
  provides instr.IndexFromOwned printed helper e =
      by_table (codes "addHeapObject") (codes "addToExternrefTable") instr.IndexFromOwned printed refl (any_in _ base_names refl) (λ t on given small.
      let f = part_export instr.IndexFromOwned part.Alloc printed on refl in
      table_provided parts 25 table.Add t (omega arith) refl small given (ap (λ (o : Option (List ℕ)). is_there (added t.place t.name o)) f.1)) helper e
  provides instr.TakeIndex printed helper e =
      by_table (codes "takeObject") (codes "takeFromExternrefTable") instr.TakeIndex printed refl (any_in _ base_names refl)
      (taken_by_table instr.TakeIndex printed refl) helper e
  provides instr.UnwrapResult printed helper e =
      by_table (codes "takeObject") (codes "takeFromExternrefTable") instr.UnwrapResult printed refl (any_in _ base_names refl)
      (taken_by_table instr.UnwrapResult printed refl) helper e
  provides instr.GetIndex printed helper e =
      by_table (codes "getObject") (codes "getFromExternrefTable") instr.GetIndex printed refl (any_in _ base_names refl)
      (λ t on given small. table_provided parts 26 table.Get t (omega arith) refl small given refl) helper e
  provides (instr.StringToMemory malloc realloc id) printed helper e =
      by_memory 22 memory.PassString (instr.StringToMemory malloc realloc id) id printed (string_memory malloc realloc id) (omega arith) refl (λ export. refl) refl helper e
  provides (instr.OptionStringToMemory malloc realloc id) printed helper e =
      by_memory 22 memory.PassString (instr.OptionStringToMemory malloc realloc id) id printed (string_memory malloc realloc id) (omega arith) refl (λ export. refl)
      refl helper e
  provides (instr.MemoryToString id) printed helper e =
      by_memory 21 memory.GetString (instr.MemoryToString id) id printed (inl refl) (omega arith) refl (λ export. refl) refl helper e
  provides (instr.LoadRetptr offset ty id) printed helper e =
      by_memory 8 memory.DataView (instr.LoadRetptr offset ty id) id printed (inl refl) (omega arith) refl (λ export. refl) refl helper e
  provides (instr.StoreRetptr offset ty id) printed helper e =
      by_memory 8 memory.DataView (instr.StoreRetptr offset ty id) id printed (inl refl) (omega arith) refl (λ export. refl) refl helper e
  provides (instr.VecFromWasm vectors.I8 id) printed helper e =
      by_memory 9 (memory.GetArray element.I8) (instr.VecFromWasm vectors.I8 id) id printed (inl refl) (omega arith) refl (λ export. refl) refl helper e
  provides (instr.VecFromWasm vectors.U8 id) printed helper e =
      by_memory 10 (memory.GetArray element.U8) (instr.VecFromWasm vectors.U8 id) id printed (inl refl) (omega arith) refl (λ export. refl) refl helper e
  provides (instr.VecFromWasm vectors.I16 id) printed helper e =
      by_memory 11 (memory.GetArray element.I16) (instr.VecFromWasm vectors.I16 id) id printed (inl refl) (omega arith) refl (λ export. refl) refl helper e
  provides (instr.VecFromWasm vectors.U16 id) printed helper e =
      by_memory 12 (memory.GetArray element.U16) (instr.VecFromWasm vectors.U16 id) id printed (inl refl) (omega arith) refl (λ export. refl) refl helper e
  provides (instr.VecFromWasm vectors.I32 id) printed helper e =
      by_memory 13 (memory.GetArray element.I32) (instr.VecFromWasm vectors.I32 id) id printed (inl refl) (omega arith) refl (λ export. refl) refl helper e
  provides (instr.VecFromWasm vectors.U32 id) printed helper e =
      by_memory 14 (memory.GetArray element.U32) (instr.VecFromWasm vectors.U32 id) id printed (inl refl) (omega arith) refl (λ export. refl) refl helper e
  provides (instr.VecFromWasm vectors.I64 id) printed helper e =
      by_memory 15 (memory.GetArray element.I64) (instr.VecFromWasm vectors.I64 id) id printed (inl refl) (omega arith) refl (λ export. refl) refl helper e
  provides (instr.VecFromWasm vectors.U64 id) printed helper e =
      by_memory 16 (memory.GetArray element.U64) (instr.VecFromWasm vectors.U64 id) id printed (inl refl) (omega arith) refl (λ export. refl) refl helper e
  provides (instr.VecFromWasm vectors.Value id) printed helper e =
      by_memory 23 memory.GetValues (instr.VecFromWasm vectors.Value id) id printed (inl refl) (omega arith) refl
      (λ export. got_there (instr.VecFromWasm vectors.Value id) id.0 printed refl refl) refl helper e
  provides (instr.VecToWasm vectors.I8 malloc id) printed helper e =
      by_memory 17 (memory.PassArray width.Bits8) (instr.VecToWasm vectors.I8 malloc id) id printed (inr (inl refl)) (omega arith) refl (λ export. refl) refl helper e
  provides (instr.VecToWasm vectors.U8 malloc id) printed helper e =
      by_memory 17 (memory.PassArray width.Bits8) (instr.VecToWasm vectors.U8 malloc id) id printed (inr (inl refl)) (omega arith) refl (λ export. refl) refl helper e
  provides (instr.VecToWasm vectors.I16 malloc id) printed helper e =
      by_memory 18 (memory.PassArray width.Bits16) (instr.VecToWasm vectors.I16 malloc id) id printed (inr (inl refl)) (omega arith) refl (λ export. refl) refl helper e
  provides (instr.VecToWasm vectors.U16 malloc id) printed helper e =
      by_memory 18 (memory.PassArray width.Bits16) (instr.VecToWasm vectors.U16 malloc id) id printed (inr (inl refl)) (omega arith) refl (λ export. refl) refl helper e
  provides (instr.VecToWasm vectors.I32 malloc id) printed helper e =
      by_memory 19 (memory.PassArray width.Bits32) (instr.VecToWasm vectors.I32 malloc id) id printed (inr (inl refl)) (omega arith) refl (λ export. refl) refl helper e
  provides (instr.VecToWasm vectors.U32 malloc id) printed helper e =
      by_memory 19 (memory.PassArray width.Bits32) (instr.VecToWasm vectors.U32 malloc id) id printed (inr (inl refl)) (omega arith) refl (λ export. refl) refl helper e
  provides (instr.VecToWasm vectors.I64 malloc id) printed helper e =
      by_memory 20 (memory.PassArray width.Bits64) (instr.VecToWasm vectors.I64 malloc id) id printed (inr (inl refl)) (omega arith) refl (λ export. refl) refl helper e
  provides (instr.VecToWasm vectors.U64 malloc id) printed helper e =
      by_memory 20 (memory.PassArray width.Bits64) (instr.VecToWasm vectors.U64 malloc id) id printed (inr (inl refl)) (omega arith) refl (λ export. refl) refl helper e
  provides (instr.VecToWasm vectors.Value malloc id) printed helper e =
      let i = instr.VecToWasm vectors.Value malloc id in
      by_memory 24 memory.PassValues i id printed (inr (inl refl)) (omega arith) refl (λ export. passed_there i id.0 printed refl)
      (adding i printed refl refl) helper e
  provides (instr.Closure id true) printed helper e =
      by_destroyer 23 closure.MakeMutClosure (codes "makeMutClosure") (instr.Closure id true) printed refl (omega arith) refl
      (λ destroy. subst (λ (ns : List (List ℕ)). IsIn (codes "makeMutClosure") ns) (sym (closure_holds destroy closure.MakeMutClosure).binds) (inl refl))
      helper e
  provides (instr.Closure id false) printed helper e =
      by_destroyer 22 closure.MakeClosure (codes "makeClosure") (instr.Closure id false) printed refl (omega arith) refl
      (λ destroy. subst (λ (ns : List (List ℕ)). IsIn (codes "makeClosure") ns) (sym (closure_holds destroy closure.MakeClosure).binds) (inl refl))
      helper e
  provides other printed helper e = absurd (none_some helper e)

  -- it is provided
  pub helper_provided : (helper : List ℕ) → IsHelperOf s l helper → IsProvided parts helper
  helper_provided helper h = provides h.instruction h.printed helper h.calls

  -- ---- what imports throw

  -- the instruction by which it is handed on, where it is caught
  handing_printed : catches s l ≡ true → CanHand s l → IsPrinted s l handing
  handing_printed caught can = record { among = inr (caught, refl); complete = can.complete; live = refl }

  -- the function that takes it is given
  store_given : catches s l ≡ true → CanHand s l → (store : List ℕ) × (parts.exn_store ≡ Some store)
  store_given caught can =
      let there = some_of (store_item l) can.store in
      let n = item_named s l there.0 (store_asked s l there.0 caught there.1) in
      (n.0, ap (export_at m) there.1 ∙ (ap (λ (es : List (ExportItem × List ℕ)). look_up item_order es there.0) known ∙ n.1.0))

  -- the helper that hands it on is there
  handler_there : (store : List ℕ) → parts.exn_store ≡ Some store → IsPrinted s l handing
      → (item : Item) × (error_handled parts.externref parts.table parts.exn_store ≡ Some item) × IsIn (codes "handleError") (bound_in item.words)
  handler_there store given printed = by s.externref refl
    where
      binds_of : (item : Item) (names : List (List ℕ)) → bound_in item.words ≡ names → IsIn (codes "handleError") names
          → IsIn (codes "handleError") (bound_in item.words)
      binds_of item names h at = subst (λ (ns : List (List ℕ)). IsIn (codes "handleError") ns) (sym h) at

      by : (b : Bool) → s.externref ≡ b
          → (item : Item) × (error_handled b parts.table parts.exn_store ≡ Some item) × IsIn (codes "handleError") (bound_in item.words)
      by false q = (
        handle_error_by_heap store,
        ap (λ (o : Option (List ℕ)). error_handled false parts.table o) given,
        binds_of (handle_error_by_heap store) _ (by_heap_holds store).binds (inl refl),
      )
      by true q =
          let t = table_given handing printed q refl in (
            handle_error_by_table t.1.0.place store,
            ap (λ (o : Option TableExport). error_handled true o parts.exn_store) t.1.1.1.1
                ∙ ap (λ (o : Option (List ℕ)). error_handled true (Some t.1.0) o) given,
            binds_of (handle_error_by_table t.1.0.place store) _ (by_table_holds store t.1.0.place).binds (inl refl),
          )

  -- so it is provided
  pub errors_provided : catches s l ≡ true → CanHand s l → IsProvided parts (codes "handleError")
  errors_provided caught can =
      let printed = handing_printed caught can in
      let store = store_given caught can in
      let h = handler_there store.0 store.1 printed in
      single_provides parts 24 single.HandleError h.0 (codes "handleError") (omega arith) refl h.1 (adding handing printed refl refl) h.2

  -- ---- what is given stands

  -- a memory that is given stands
  pub memory_stands : (n : ℕ) (export : List ℕ) → slice_get parts.memories n ≡ Some (Some export) → is_entry (slice_get l.«module».memories n) ≡ true
  memory_stands n export e = (memory_from m 0 n l.«module».memories export e).0

  -- so does the table
  pub table_stands : (t : TableExport) → parts.table ≡ Some t → is_entry (slice_get l.«module».tables t.place) ≡ true
  table_stands t e = by s.externref e
    where
      named : (o : Option ExportItem) → ((item : ExportItem) → o ≡ Some item → is_live_item l.«module» item ≡ true) → table_export m o ≡ Some t
          → is_entry (slice_get l.«module».tables t.place) ≡ true
      named None live h = absurd (none_some t h)
      named (Some (items.Table id)) live h = drawn (export_at m (Some (items.Table id))) h
        where
          drawn : (o : Option (List ℕ)) → option_map (λ (name : List ℕ). record { place = id.0; name = name }) o ≡ Some t
              → is_entry (slice_get l.«module».tables t.place) ≡ true
          drawn None k = absurd (none_some t k)
          drawn (Some name) k =
              let same : id.0 ≡ t.place = ap (λ (u : TableExport). u.place) (some_is _ t k) in
              subst (λ (n : ℕ). is_entry (slice_get l.«module».tables n) ≡ true) same (live (items.Table id) refl)
      named (Some other) live h = absurd (none_some t h)

      by : (b : Bool) → table_export m (cond b (part_item l part.Table) None) ≡ Some t → is_entry (slice_get l.«module».tables t.place) ≡ true
      by false h = absurd (none_some t h)
      by true h = named (part_item l part.Table) (λ item q. (live_is l.«module» (part_named l.aux part.Table) item q).1) h

  -- an export that is given is one of the written module
  given_known : (o : Option ExportItem) (name : List ℕ) → IsIn name (option_names (export_at m o)) → IsIn name (names_with_added s l)
  given_known None name at = absurd at
  given_known (Some item) name at = by (look_up item_order m.wasm item) refl at
    where
      by : (o : Option (List ℕ)) → look_up item_order m.wasm item ≡ o → IsIn name (option_names o) → IsIn name (names_with_added s l)
      by None q k = absurd k
      by (Some x) q (inl same) =
          let drawn = ap (λ (es : List (ExportItem × List ℕ)). look_up item_order es item) (sym known) ∙ q in
          subst (λ (n : List ℕ). IsIn n (names_with_added s l)) (sym same) (given_listed s l item x (name_given s l item x drawn))
      by (Some x) q (inr none) = absurd none

  memories_known : (from : ℕ) (memories : List (Option Memory)) (name : List ℕ) → IsIn name (flat_map option_names (memory_exports m from memories))
      → IsIn name (names_with_added s l)
  memories_known from [] name at = absurd at
  memories_known from (memory ∷ memories) name at =
      elim (in_either name (option_names (export_at m (made_parts.memory_item memory from))) (flat_map option_names (memory_exports m (from + 1) memories)) at) [
        | inl here ↦ given_known (made_parts.memory_item memory from) name here
        | inr later ↦ memories_known (from + 1) memories name later
      ]

  table_known : (o : Option ExportItem) (name : List ℕ) → IsIn name (table_exports parts (table_export m o)) → IsIn name (names_with_added s l)
  table_known None name at = absurd at
  table_known (Some (items.Table id)) name at = by (export_at m (Some (items.Table id))) refl at
    where
      others : List (List ℕ)
      others = option_names parts.externref_alloc ++ (option_names parts.externref_drop ++ option_names parts.externref_drop_slice)

      rest : IsIn name others → IsIn name (names_with_added s l)
      rest k = elim (in_either name (option_names parts.externref_alloc) (option_names parts.externref_drop ++ option_names parts.externref_drop_slice) k) [
        | inl first ↦ given_known (reference_item s l part.Alloc) name first
        | inr second ↦ elim (in_either name (option_names parts.externref_drop) (option_names parts.externref_drop_slice) second) [
          | inl one ↦ given_known (reference_item s l part.Drop) name one
          | inr all ↦ given_known (reference_item s l part.DropSlice) name all
        ]
      ]

      by : (o : Option (List ℕ)) → export_at m (Some (items.Table id)) ≡ o
          → IsIn name (table_exports parts (option_map (λ (n : List ℕ). record { place = id.0; name = n }) o)) → IsIn name (names_with_added s l)
      by None q k = absurd k
      by (Some x) q (inl same) = given_known (Some (items.Table id)) name (subst (λ (o : Option (List ℕ)). IsIn name (option_names o)) (sym q) (inl same))
      by (Some x) q (inr k) = rest k
  table_known (Some other) name at = absurd at

  -- all exports that are given are such ones
  pub all_given : (name : List ℕ) → IsIn name (given_exports parts) → IsIn name (names_with_added s l)
  all_given name at =
      elim (in_either name (flat_map option_names parts.memories) (table_exports parts parts.table ++ functions) at) [
        | inl memories ↦ memories_known 0 l.«module».memories name memories
        | inr rest ↦ elim (in_either name (table_exports parts parts.table) functions rest) [
          | inl table ↦ table_known (reference_item s l part.Table) name table
          | inr others ↦ elim (in_either name (option_names parts.exn_store) (option_names parts.destroy_closure) others) [
            | inl takes ↦ given_known (store_item l) name takes
            | inr destroys ↦ given_known (destroyer_item l) name destroys
          ]
        ]
      ]
    where
      functions : List (List ℕ)
      functions = option_names parts.exn_store ++ option_names parts.destroy_closure
