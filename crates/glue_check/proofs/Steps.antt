-- Each adapter that becomes a function has steps, and what each step names is there: where the places of instructions on the stack are
-- checked and all is built.
use Rattle.std.proofs.Common.{◌≡◌, ℕ, zero, suc, ◌==◌, List, [], ◌∷◌, map, arith, true, false, Option, Some, None, true≢false, refl, sym, ap, ◌∙◌, subst, Bool, inl, inr, ◌++◌}
use Rattle.std.specs.Prelude.{◌&&◌, ◌||◌, not, codes, cond, option_and_then, option_map, IsSomeAnd}
use Rattle.std.specs.Fmt.{decimal}
use Rattle.std.specs.List.{AllByRecursion, count_by, flat_map, list_any, list_all, filter_map, find}
use Rattle.std.specs.Option.{is_some}
use Rattle.std.proofs.lemmas.Bool.{and_parts, eqb-true}
use Rattle.std.proofs.lemmas.Slice.Eq.{bytes_eq-Decides}
use Rattle.std.specs.Str.{bytes_eq}
use Rattle.values.specs.Lists.{IsIn}
use Rattle.values.proofs.Members.{in_left, in_right}
use Rattle.wasm_core.specs.ids.ExportId.{ExportId}
use Rattle.wasm_core.specs.ids.FuncId.{FuncId}
use Rattle.wasm_core.specs.ids.ImportId.{ImportId}
use Rattle.wasm_core.specs.ids.MemoryId.{MemoryId}
use Rattle.wasm_core.specs.ids.TableId.{TableId}
use Rattle.wasm_core.specs.entries.ExportItem.TheVariants as items
use Rattle.wasm_core.specs.entries.Export.{Export}
use Rattle.glue_shared.specs.declared.adapter.Adapter.{Adapter}
use Rattle.glue_shared.specs.declared.adapter.AdapterJsImportKind.{AdapterJsImportKind}
use Rattle.glue_shared.specs.declared.adapter.AdapterKind.{AdapterKind}
use Rattle.glue_shared.specs.declared.adapter.AdapterKind.TheVariants as kinds
use Rattle.glue_shared.specs.declared.adapter.Instruction.{Instruction}
use Rattle.glue_shared.specs.declared.adapter.Instruction.TheVariants as instr
use Rattle.glue_shared.specs.declared.adapter.VectorKind.{VectorKind}
use Rattle.glue_shared.specs.declared.adapter.VectorKind.TheVariants as vectors
use Rattle.glue_shared.specs.declared.aux.AuxExport.{AuxExport}
use Rattle.glue_shared.specs.declared.aux.AuxStringEnum.{AuxStringEnum}
use Rattle.glue_shared.specs.declared.import.AuxImport.{AuxImport}
use Rattle.glue_shared.specs.declared.description.Lowered.{Lowered}
use Rattle.glue_shared.specs.declared.name_map.NameMap.{NameMap}
use Rattle.glue_shared.specs.declared.settings.Settings.{Settings}
use Rattle.glue_shared.specs.Names.{entry_of, has_number, is_one_of, own_imports}
use Rattle.glue_shared.specs.Roots.{instruction_items, listed, live_item}
use Rattle.glue_steps.specs.declared.needed.ReferencePart.TheVariants as parts
use Rattle.glue_steps.specs.Needed.{goes_by}
use Rattle.glue_steps.specs.Room.{has_stack}
use Rattle.glue_adapters.specs.step.Step.{Step}
use Rattle.glue_adapters.specs.step.Step.TheVariants.{CallExport, CallImport, CallHelper, UnwrapResult, PassToMemory, DeferFree, CopyOut, ReturnPointer, LoadReturn, StoreReturn, MakeClosure, IndexOf, ItemAt}
use Rattle.glue_adapters.specs.Resolving.{entry_at, is_some_item, export_named, export_step, functions_named, given_of, handle_helper, helper_of, is_spread, import_step_of, import_step, list_named, listed_id, reading_helper, step_of, steps_of, with_step, code_steps, adapter_steps, callback_name, closure_made, vector_read}
use Rattle.glue_adapters.specs.Exported.{export_name, export_names}
use Rattle.glue_adapters.specs.declared.kind.Kind.{Kind}
use Rattle.glue_adapters.specs.Adapters.{adapter_at, code_of, has_code, has_counts, is_few, is_import, is_import_call, is_export_call, is_described_call, calls_export, calls_import, calls_one_import, is_outward, passes_kinds, fits_outward, fits_inward, writes_result}
use Rattle.glue_adapters.specs.Pairs.{called_back, described, environment_of}
use Rattle.glue_adapters.specs.Stack.{closure_kinds, is_callback, js_kinds, kinds_of, export_type, call_effect, effect, memory_effect, names_live, stack_after, leaves, uses_room, keeps_stack, is_well_stacked}
use Rattle.glue_check.specs.declared.files.FileFlags.{FileFlags}
use Rattle.glue_imports.specs.declared.part.Expression.{Expression}
use Rattle.glue_imports.specs.Expressions.{expression}
use Rattle.glue_imports.specs.Given.{given_item, gives_item}
use Rattle.glue_imports.proofs.Any.{any_call}
use Rattle.glue_names.specs.Given.{values_name}
use Rattle.glue_names.specs.Handed.{own_callees}
use Rattle.printed_adapters.specs.Caught.{IsOfGlue}
use Rattle.printed_adapters.specs.Printed.{adapter_ids, code_by, enum_named, export_code, named_enums, outer_code, pair_code, printed_code, used_closures, uses_shim}
use Rattle.printed_adapters.proofs.Used.{used_printed}
use Rattle.glue_check.specs.Missing.{lends}
use Rattle.glue_check.specs.Classes.{instruction_class}
use Rattle.glue_check.specs.Verdict.{unbuilt, verdict}
use Rattle.glue_faults.proofs.First.{neither}
use Rattle.glue_check.proofs.BuiltForm.{AreBuiltImports, imports_built, not_true, one_found}
use Rattle.glue_check.proofs.Callbacks.{callback_named}
use Rattle.glue_check.proofs.NoClass.{no_class}
use Rattle.glue_names.proofs.Called.{called_own, number_in}
use Rattle.glue_names.proofs.Globals.{in_flat, some_of}
use Rattle.glue_names.proofs.MappedLists.{from_map, in_map}
use Rattle.glue_check.proofs.Complete.{IsComplete, complete_code, moved_on, only_if, room_made, same_code, used_called}
use Rattle.glue_check.proofs.Embedded.{code_complete, expression_there, given_there}
use Rattle.glue_check.proofs.Passed.{callbacks_fit, exports_fit, pairs_fit, looked_up}

-- the expression of a described import that an adapter of an own import calls, where these names are drawn; the item of the module that it
-- gives stands
pub record IsDescribed (s : Settings) (l : Lowered) (names : NameMap) (text : Expression) : Type 0 where
  pub entry : ℕ × AuxImport
  pub among : IsIn entry l.aux.imports
  pub own : has_number entry.0 (own_callees s l) ≡ true
  pub first : entry_of entry.0 l.aux.imports ≡ Some entry.1
  pub call : AdapterJsImportKind
  pub spread : Bool
  pub bound : Bool
  pub is : expression s names (given_of names l entry.1) call spread bound entry.1 ≡ Some text
  pub given : gives_item entry.1 ≡ true → is_some (given_item l entry.1) ≡ true

-- an instruction that the glue file goes by: nothing that it needs is lacked, and what its ids name is there
pub record IsPrinted (s : Settings) (l : Lowered) (i : Instruction) : Type 0 where
  pub among : IsOfGlue s l i
  pub complete : IsComplete s l i
  pub live : names_live l i ≡ true

-- the helper that such an instruction calls
pub record IsHelperOf (s : Settings) (l : Lowered) (helper : List ℕ) : Type 0 where
  pub instruction : Instruction
  pub printed : IsPrinted s l instruction
  pub calls : helper_of s l instruction ≡ Some helper

-- the export that gives a function which such an instruction names, where these names are drawn
pub record IsNamedFunction (s : Settings) (l : Lowered) (names : NameMap) (name : List ℕ) : Type 0 where
  pub instruction : Instruction
  pub printed : IsPrinted s l instruction
  pub function : FuncId
  pub named : IsIn (items.Func function) (instruction_items instruction)
  pub is : name ≡ export_named names (Some (items.Func function))

-- the list of the texts of a described string enum that such an instruction names
pub record IsListOf (s : Settings) (l : Lowered) (list : List ℕ) : Type 0 where
  pub values : AuxStringEnum
  pub among : IsIn values l.aux.string_enums
  pub named : is_one_of (named_enums s l) values.name ≡ true
  pub is : list ≡ values_name values

-- the function of a closure that is used
pub record IsClosureOf (s : Settings) (l : Lowered) (function : List ℕ) : Type 0 where
  pub adapter : ℕ
  pub used : IsIn adapter (used_closures s l)
  pub named : callback_name l adapter ≡ Some function

-- what a step names is there: an export of the module, the expression of a described import, a helper that an instruction calls, exports of
-- functions that it names, the export that moves the stack, and the global that tells where it ends, the function of a closure, or the list of a
-- string enum
abbrev pub IsThere : Settings → Lowered → NameMap → Step → Type 0
IsThere s l names (CallExport name n has_result) = IsIn name (export_names l.«module»)
IsThere s l names (CallImport adapter n has_result text) = IsDescribed s l names text
IsThere s l names (CallHelper helper n) = IsHelperOf s l helper
IsThere s l names (UnwrapResult helper) = IsHelperOf s l helper
IsThere s l names (PassToMemory helper exports optional) = IsHelperOf s l helper × AllByRecursion (IsNamedFunction s l names) exports
IsThere s l names (DeferFree free align) = IsNamedFunction s l names free
IsThere s l names (CopyOut helper) = IsHelperOf s l helper
IsThere s l names (ReturnPointer size) = (uses_shim s l ≡ true) × (has_stack l ≡ true)
IsThere s l names (LoadReturn view offset is_wide) = IsHelperOf s l view
IsThere s l names (StoreReturn view offset is_wide) = IsHelperOf s l view
IsThere s l names (MakeClosure helper function) = IsHelperOf s l helper × IsClosureOf s l function
IsThere s l names (IndexOf list) = IsListOf s l list
IsThere s l names (ItemAt list) = IsListOf s l list
IsThere s l names other = Unit {0}

-- an adapter has steps, whatever names are drawn, and what each of them names is there
abbrev pub HasSteps : Settings → Lowered → ℕ → Type 0
HasSteps s l id = (names : NameMap) → IsSomeAnd (adapter_steps s names l id) (AllByRecursion (IsThere s l names))

-- the name of a live export is among those of all
live_named : (xs : List (Option Export)) (place : ℕ) (e : Export) → entry_at xs place ≡ Some e → IsIn e.name (filter_map export_name xs)
live_named [] place e h = cc
live_named (x ∷ xs) zero e h = grind arith
live_named (x ∷ xs) (suc place) e h = let rest = live_named xs place e h in grind arith

-- the first entry of an id has a fact that the first of its entries have
first_has : (P : ℕ × AuxImport → Type 0) (id : ℕ) (entries : List (ℕ × AuxImport)) → has_number id (map (λ (e : ℕ × AuxImport). e.0) entries) ≡ true
    → ((e : ℕ × AuxImport) → IsIn e entries → e.0 ≡ id → find (λ (e : ℕ × AuxImport). e.0 == id) entries ≡ Some e → P e)
    → IsSomeAnd (find (λ (e : ℕ × AuxImport). e.0 == id) entries) P
first_has P id [] h give = absurd (true≢false (sym h))
first_has P id (e ∷ entries) h give = by (e.0 == id) refl h (first_has P id entries) give
  where
    by : (b : Bool) → (e.0 == id) ≡ b → (b || has_number id (map (λ (e : ℕ × AuxImport). e.0) entries)) ≡ true
        → (has_number id (map (λ (e : ℕ × AuxImport). e.0) entries) ≡ true
        → ((x : ℕ × AuxImport) → IsIn x entries → x.0 ≡ id → find (λ (e : ℕ × AuxImport). e.0 == id) entries ≡ Some x → P x)
        → IsSomeAnd (find (λ (e : ℕ × AuxImport). e.0 == id) entries) P)
        → ((x : ℕ × AuxImport) → IsIn x (e ∷ entries) → x.0 ≡ id → cond b (Some e) (find (λ (e : ℕ × AuxImport). e.0 == id) entries) ≡ Some x → P x)
        → IsSomeAnd (cond b (Some e) (find (λ (e : ℕ × AuxImport). e.0 == id) entries)) P
    by true q h rest give = give e (inl refl) (eqb-true e.0 id q) refl
    by false q h rest give = rest h (λ x i same found. give x (inr i) same found)

-- an instruction calls no import adapter but those that adapters of own imports call
abbrev is_own_call : Settings → Lowered → Instruction → Bool
is_own_call s l (instr.CallAdapter id) = has_number id (own_callees s l)
is_own_call s l other = true

-- a described string enum of a name
enum_of : (enums : List AuxStringEnum) (name : List ℕ) → is_one_of (map (λ (e : AuxStringEnum). e.name) enums) name ≡ true
    → (e : AuxStringEnum) × IsIn e enums × (name ≡ e.name)
enum_of [] name h = absurd (true≢false (sym h))
enum_of (e ∷ enums) name h = by (bytes_eq e.name name) refl h (enum_of enums name)
  where
    by : (b : Bool) → bytes_eq e.name name ≡ b → (b || is_one_of (map (λ (e : AuxStringEnum). e.name) enums) name) ≡ true
        → (is_one_of (map (λ (e : AuxStringEnum). e.name) enums) name ≡ true → (x : AuxStringEnum) × IsIn x enums × (name ≡ x.name))
        → (x : AuxStringEnum) × IsIn x (e ∷ enums) × (name ≡ x.name)
    by true q h later = (e, inl refl, sym ((bytes_eq-Decides e.name name).0 q))
    by false q h later = let r = later h in (r.0, inr r.1, r.2)

module _ (s : Settings) (l : Lowered) (names : NameMap) where
  -- a call that has an effect is that of an export
  called_export : (id : ℕ) → is_some (option_and_then call_effect (export_type l.«module» id)) ≡ true → IsSomeAnd (export_step l.«module» id) (IsThere s l names)
  called_export id h = let named = live_named l.«module».exports id in grind arith

  -- an entry gives a step, however its adapter calls it
  abbrev HasStep : ℕ → ℕ × AuxImport → Type 0
  HasStep id e = (a : Adapter) (call : AdapterJsImportKind) → IsSomeAnd (import_step_of s names l id a call e.1) (IsThere s l names)

  entry_step : AreBuiltImports s l → verdict s l ≡ None → (id : ℕ) (e : ℕ × AuxImport) → IsIn e l.aux.imports → has_number e.0 (own_callees s l) ≡ true
      → entry_of e.0 l.aux.imports ≡ Some e.1 → HasStep id e
  entry_step built passed id e i own first a call =
      let spread = is_spread l id in
      let bound = is_some_item a.results in
      let given = given_of names l e.1 in
      let g = some_of (expression s names given call spread bound e.1) (any_call s names given call spread bound e.1 ∙ expression_there s l built passed e i) in
      rw g.1 (record {
        entry = e;
        among = i;
        own = own;
        first = first;
        call = call;
        spread = spread;
        bound = bound;
        is = g.1;
        given = given_there s l passed e i;
      })

  -- a call of such a described import adapter is a step
  called_adapter : AreBuiltImports s l → verdict s l ≡ None → (id : ℕ) → is_described_call l (described l) (instr.CallAdapter id) ≡ true
      → has_number id (own_callees s l) ≡ true → IsSomeAnd (import_step s names l id) (IsThere s l names)
  called_adapter built passed id h own =
      let p = and_parts (is_import (adapter_at l id)) (has_number id (described l)) h in
      let e = first_has (HasStep id) id l.aux.imports p.1
      (λ e i same found. entry_step built passed id e i (subst (λ (n : ℕ). has_number n (own_callees s l) ≡ true) (sym same) own)
      (subst (λ (n : ℕ). entry_of n l.aux.imports ≡ Some e.1) (sym same) (ap (option_map (λ (x : ℕ × AuxImport). x.1)) found))) in grind arith

  -- an object is lent where nothing is lacked, to the object table
  lent : (externref : Bool) → (externref ≡ true → lends instr.IndexFromBorrow ≡ false) → externref ≡ false
  lent true h = absurd (true≢false (h refl))
  lent false h = refl

  -- the helper of handles is known, where the table of references is there
  known : (externref : Bool) (of_objects of_references : List ℕ) (table : Option TableId)
      → (externref ≡ true → is_some (live_item l.«module» (option_map items.Table table)) ≡ true)
      → is_some (cond externref (option_map (λ (t : TableId). of_references ++ decimal t.0) table) (Some of_objects)) ≡ true
  known false of_objects of_references table h = refl
  known true of_objects of_references None h = h refl
  known true of_objects of_references (Some t) h = refl

  -- so a step that is made of it is there
  handled : (i : Instruction) (of_objects of_references : List ℕ) (step : List ℕ → Step) → IsPrinted s l i
      → helper_of s l i ≡ handle_helper s l of_objects of_references → goes_by i parts.Table ≡ true
      → ((helper : List ℕ) → IsHelperOf s l helper → IsThere s l names (step helper))
      → IsSomeAnd (option_map step (handle_helper s l of_objects of_references)) (IsThere s l names)
  handled i of_objects of_references step printed calls goes give =
      let g = some_of (handle_helper s l of_objects of_references)
      (known s.externref of_objects of_references l.aux.externref_table (λ on. printed.complete.parts on parts.Table goes)) in
      rw g.1 (give g.0 (record { instruction = i; printed = printed; calls = calls ∙ g.1 }))

  -- the exports of functions that an instruction names are there
  functions_there : (i : Instruction) → IsPrinted s l i → (functions : List FuncId)
      → ((f : FuncId) → IsIn f functions → IsIn (items.Func f) (instruction_items i))
      → AllByRecursion (IsNamedFunction s l names) (functions_named names functions)
  functions_there i printed [] give = tt
  functions_there i printed (f ∷ functions) give = (
    record { instruction = i; printed = printed; function = f; named = give f (inl refl); is = refl },
    functions_there i printed functions (λ g at. give g (inr at)),
  )

  -- the functions that allocate for a string are named
  allocating : (malloc : FuncId) (realloc : Option FuncId) (memory : MemoryId) (f : FuncId) → IsIn f (malloc ∷ listed_id realloc)
      → IsIn (items.Func f) (items.Func malloc ∷ (listed (option_map items.Func realloc) ++ items.Memory memory ∷ []))
  allocating malloc realloc memory f (inl same) = inl (ap items.Func same)
  allocating malloc None memory f (inr at) = absurd at
  allocating malloc (Some r) memory f (inr (inl same)) = inr (inl (ap items.Func same))
  allocating malloc (Some r) memory f (inr (inr none)) = absurd none

  -- the list of a string enum that an instruction names is that of a described one
  enum_listed : (i : Instruction) → IsIn i (printed_code s l) → IsComplete s l i → (name : List ℕ) → IsIn name (enum_named i)
      → IsListOf s l (list_named name)
  enum_listed i at k name own =
      let r = enum_of l.aux.string_enums name (k.enums name own) in record {
        values = r.0;
        among = r.1;
        named = subst (λ (n : List ℕ). is_one_of (named_enums s l) n ≡ true) r.2
            (one_found name (named_enums s l) (in_flat enum_named (printed_code s l) i name at own));
        is = ap list_named r.2;
      }

  -- a closure is made where its adapter is one that closures can call
  closed : verdict s l ≡ None → (id : ℕ) (mutable : Bool) → IsIn (instr.Closure id mutable) (printed_code s l) → IsComplete s l (instr.Closure id mutable)
      → IsSomeAnd (closure_made l id mutable) (IsThere s l names)
  closed passed id mutable at k =
      let called = and_parts (has_number id (called_back l)) (is_callback (adapter_at l id)) (k.closures id refl) in
      let g = callback_named s l passed id called.0 in
      rw g.1 (
        record { instruction = instr.Closure id mutable; printed = record { among = inl at; complete = k; live = refl }; calls = refl },
        record { adapter = id; used = used_printed s l id mutable at (there (adapter_at l id) refl called.1); named = g.1 },
      )
    where
      there : (o : Option Adapter) → adapter_at l id ≡ o → is_callback o ≡ true → IsIn id (adapter_ids l)
      there None q h = absurd (true≢false (sym h))
      there (Some a) q h = in_map (λ (e : ℕ × Adapter). e.0) (id, a) l.wit.adapters (looked_up l.wit.adapters id a q)

  -- an instruction that is built, with an effect and an import that is described, is a step
  called : AreBuiltImports s l → verdict s l ≡ None → (params : List Kind) (i : Instruction) → IsIn i (printed_code s l) → IsComplete s l i
      → instruction_class i ≡ None → is_some (effect l (environment_of l) params i) ≡ true → is_described_call l (described l) i ≡ true → is_own_call s l i ≡ true
      → IsSomeAnd (step_of s names l i) (IsThere s l names)
  unfolding effect
  called built passed params instr.IndexFromOwned at k u e d own =
      handled instr.IndexFromOwned (codes "addHeapObject") (codes "addToExternrefTable") (λ helper. CallHelper helper 1)
      (record { among = inl at; complete = k; live = refl }) refl refl (λ helper h. h)
  called built passed params instr.IndexFromBorrow at k u e d own = rw (lent s.externref k.unlent) tt
  called built passed params instr.TakeIndex at k u e d own =
      handled instr.TakeIndex (codes "takeObject") (codes "takeFromExternrefTable") (λ helper. CallHelper helper 1)
      (record { among = inl at; complete = k; live = refl }) refl refl (λ helper h. h)
  called built passed params instr.GetIndex at k u e d own =
      handled instr.GetIndex (codes "getObject") (codes "getFromExternrefTable") (λ helper. CallHelper helper 1)
      (record { among = inl at; complete = k; live = refl }) refl refl (λ helper h. h)
  called built passed params instr.UnwrapResult at k u e d own =
      handled instr.UnwrapResult (codes "takeObject") (codes "takeFromExternrefTable") UnwrapResult
      (record { among = inl at; complete = k; live = refl }) refl refl (λ helper h. h)
  called built passed params (instr.StringToMemory malloc realloc memory) at k u e d own =
      let i = instr.StringToMemory malloc realloc memory in
      let printed : IsPrinted s l i = record { among = inl at; complete = k; live = only_if (names_live l i) (memory_effect params i) e } in
      (record { instruction = i; printed = printed; calls = refl }, functions_there i printed (malloc ∷ listed_id realloc) (allocating malloc realloc memory))
  called built passed params (instr.OptionStringToMemory malloc realloc memory) at k u e d own =
      let i = instr.OptionStringToMemory malloc realloc memory in
      let printed : IsPrinted s l i = record { among = inl at; complete = k; live = only_if (names_live l i) (memory_effect params i) e } in
      (record { instruction = i; printed = printed; calls = refl }, functions_there i printed (malloc ∷ listed_id realloc) (allocating malloc realloc memory))
  called built passed params (instr.MemoryToString memory) at k u e d own =
      let i = instr.MemoryToString memory in
      record { instruction = i; printed = record { among = inl at; complete = k; live = only_if (names_live l i) (memory_effect params i) e }; calls = refl }
  called built passed params (instr.DeferFree free align) at k u e d own =
      let i = instr.DeferFree free align in record {
        instruction = i;
        printed = record { among = inl at; complete = k; live = only_if (names_live l i) (memory_effect params i) e };
        function = free;
        named = inl refl;
        is = refl;
      }
  called built passed params (instr.VecFromWasm kind memory) at k u e d own =
      let i = instr.VecFromWasm kind memory in
      by kind (record { instruction = i; printed = record { among = inl at; complete = k; live = only_if (names_live l i) (memory_effect params i) e }; calls = refl })
    where
      by : (kind : VectorKind) → IsHelperOf s l (reading_helper kind memory) → IsThere s l names (vector_read kind memory)
      by vectors.Value h = h
      by other h = h
  called built passed params (instr.VecToWasm kind malloc memory) at k u e d own =
      let i = instr.VecToWasm kind malloc memory in
      let printed : IsPrinted s l i = record { among = inl at; complete = k; live = only_if (names_live l i) (memory_effect params i) e } in
      (record { instruction = i; printed = printed; calls = refl }, functions_there i printed (malloc ∷ []) (λ f at. one f at))
    where
      one : (f : FuncId) → IsIn f (malloc ∷ []) → IsIn (items.Func f) (items.Func malloc ∷ items.Memory memory ∷ [])
      one f (inl same) = inl (ap items.Func same)
      one f (inr none) = absurd none
  called built passed params (instr.Retptr size) at k u e d own = (room_made (printed_code s l) (instr.Retptr size) at refl, k.room refl)
  called built passed params (instr.LoadRetptr offset ty memory) at k u e d own =
      let i = instr.LoadRetptr offset ty memory in
      record { instruction = i; printed = record { among = inl at; complete = k; live = only_if (names_live l i) (memory_effect params i) e }; calls = refl }
  called built passed params (instr.StoreRetptr offset ty memory) at k u e d own =
      let i = instr.StoreRetptr offset ty memory in
      record { instruction = i; printed = record { among = inl at; complete = k; live = only_if (names_live l i) (memory_effect params i) e }; calls = refl }
  called built passed params (instr.Closure id mutable) at k u e d own = closed passed id mutable at k
  called built passed params (instr.EnumIndex name) at k u e d own = enum_listed (instr.EnumIndex name) at k name (inl refl)
  called built passed params (instr.EnumText name) at k u e d own = enum_listed (instr.EnumText name) at k name (inl refl)
  called built passed params (instr.ArgGet n) at k u e d own = tt
  called built passed params instr.Int32ToWasm at k u e d own = tt
  called built passed params instr.Int64ToWasm at k u e d own = tt
  called built passed params instr.I32FromBool at k u e d own = tt
  called built passed params (instr.WasmToInt32 false) at k u e d own = tt
  called built passed params (instr.WasmToInt32 true) at k u e d own = tt
  called built passed params (instr.WasmToInt64 false) at k u e d own = tt
  called built passed params (instr.WasmToInt64 true) at k u e d own = tt
  called built passed params instr.BoolFromI32 at k u e d own = tt
  called built passed params (instr.CallExport id) at k u e d own = called_export id.0 e
  called built passed params (instr.CallAdapter id) at k u e d own = called_adapter built passed id d own
  called built passed params (instr.Other name) at k u e d own = absurd (true≢false (sym e))
  called built passed params (instr.ClassIntoPtr class) at k u e d own = cc
  called built passed params (instr.ClassPtr class) at k u e d own = cc
  called built passed params (instr.ClassFromPtr class) at k u e d own = cc

  -- a first step and the others
  joined : (step : Option Step) (steps : Option (List Step)) → IsSomeAnd step (IsThere s l names) → IsSomeAnd steps (AllByRecursion (IsThere s l names))
      → IsSomeAnd (with_step step steps) (AllByRecursion (IsThere s l names))
  joined None steps h k = absurd h
  joined (Some step) None h k = absurd k
  joined (Some step) (Some steps) h k = (h, k)

  -- a code that is built and well stacked, of which nothing lacks a part and each call is described, has steps
  code_there : AreBuiltImports s l → verdict s l ≡ None → (params results stack : List Kind) (code : List Instruction)
      → ((i : Instruction) → IsIn i code → IsIn i (printed_code s l)) → ((i : Instruction) → IsIn i code → IsComplete s l i)
      → ((i : Instruction) → IsIn i code → instruction_class i ≡ None)
      → list_all (is_described_call l (described l)) code ≡ true → list_all (is_own_call s l) code ≡ true → leaves results (stack_after (effect l (environment_of l) params) stack code) ≡ true
      → IsSomeAnd (steps_of s names l code) (AllByRecursion (IsThere s l names))
  code_there built passed params results stack [] at k u d own h = tt
  code_there built passed params results stack (i ∷ code) at k u d own h =
      let calls = and_parts (is_described_call l (described l) i) (list_all (is_described_call l (described l)) code) d in
      let mine = and_parts (is_own_call s l i) (list_all (is_own_call s l) code) own in
      let went = moved_on l params results stack i code h in
      joined (step_of s names l i) (steps_of s names l code)
      (called built passed params i (at i (inl refl)) (k i (inl refl)) (u i (inl refl)) went.1 calls.0 mine.0)
      (code_there built passed params results went.0 code (λ j q. at j (inr q)) (λ j q. k j (inr q)) (λ j q. u j (inr q)) calls.1 mine.1 went.2)

module _ (s : Settings) (l : Lowered) where
  -- where no import is called, each that is called is described, and called by an adapter of an own import
  none_called : (code : List Instruction) → list_any is_import_call code ≡ false → list_all (is_described_call l (described l)) code ≡ true
  unfolding is_import_call
  none_called [] h = refl
  none_called (i ∷ code) h = let rest = none_called code in grind arith

  none_own : (code : List Instruction) → list_any is_import_call code ≡ false → list_all (is_own_call s l) code ≡ true
  unfolding is_import_call
  none_own [] h = refl
  none_own (i ∷ code) h = let rest = none_own code in grind arith

  -- what the adapter of an own import calls is called by one
  pair_own : (pair : ImportId × ℕ) → IsIn pair l.wit.implements → has_number pair.0.0 (own_imports s l.«module» l.wit l.aux) ≡ true
      → (a : Adapter) → adapter_at l pair.1 ≡ Some a → list_all (is_own_call s l) (code_of a.kind) ≡ true
  pair_own pair i own a there = each (code_of a.kind) (λ id at. called_own s l pair i own id (rw (there, same_code a) at))
    where
      each : (code : List Instruction) → ((id : ℕ) → IsIn (instr.CallAdapter id) code → has_number id (own_callees s l) ≡ true) → list_all (is_own_call s l) code ≡ true
      each [] h = refl
      each (i ∷ code) h = by i h (each code (λ id at. h id (inr at)))
        where
          by : (i : Instruction) → ((id : ℕ) → IsIn (instr.CallAdapter id) (i ∷ code) → has_number id (own_callees s l) ≡ true) → list_all (is_own_call s l) code ≡ true
              → list_all (is_own_call s l) (i ∷ code) ≡ true
          by (instr.CallAdapter id) h rest = rw (h id (inl refl)) rest
          by other h rest = rest

-- ---- adapters that become functions

module _ (f : FileFlags) (s : Settings) (l : Lowered) (built : unbuilt f s l ≡ None) (passed : verdict s l ≡ None) where
  -- an adapter has the steps of its code, which passes values of some kinds
  coded_steps : (names : NameMap) (id : ℕ) (a : Adapter) (params results : List Kind) → adapter_at l id ≡ Some a
      → ((i : Instruction) → IsIn i (code_by l id) → IsIn i (printed_code s l)) → has_code a.kind ≡ true
      → list_all (is_described_call l (described l)) (code_of a.kind) ≡ true → list_all (is_own_call s l) (code_of a.kind) ≡ true
      → is_well_stacked l (environment_of l) params results (code_of a.kind) ≡ true → IsSomeAnd (adapter_steps s names l id) (AllByRecursion (IsThere s l names))
  coded_steps names id a params results there printed coded calls own stacked =
      let among = looked_up l.wit.adapters id a there in
      let each = no_class f s l built passed (id, a) among in
      let lacks = complete_code s l params results (code_of a.kind) (code_complete s l passed (id, a) among) stacked in
      let at = λ (i : Instruction) (q : IsIn i (code_of a.kind)). printed i (rw (there, same_code a) q) in
      let kept = (and_parts (uses_room false (code_of a.kind)) (keeps_stack l (environment_of l) params results (code_of a.kind)) stacked).1 in
      let steps = code_there s l names (imports_built f s l built) passed params results [] (code_of a.kind) at lacks each calls own kept in
      subst (λ (o : Option Adapter). IsSomeAnd (option_and_then (λ (x : Adapter). code_steps s names l x.kind) o) (AllByRecursion (IsThere s l names))) (sym there)
      (kind_steps a.kind coded steps)
    where
      kind_steps : (kind : AdapterKind) → has_code kind ≡ true → IsSomeAnd (steps_of s names l (code_of kind)) (AllByRecursion (IsThere s l names))
          → IsSomeAnd (code_steps s names l kind) (AllByRecursion (IsThere s l names))
      kind_steps (kinds.Local code) c h = h
      kind_steps (kinds.Import call) c h = absurd (true≢false (sym c))

  abbrev own : List ℕ
  own = own_imports s l.«module» l.wit l.aux

  abbrev exported_code : List Instruction
  exported_code = flat_map (export_code l) l.aux.exports

  abbrev paired_code : List Instruction
  paired_code = flat_map (pair_code own l) l.wit.implements

  abbrev closed_code : List Instruction
  closed_code = flat_map (code_by l) (used_closures s l)

  -- an adapter that passes values to an export
  outward_steps : (id : ℕ) (a : Adapter) (params : List Kind) → adapter_at l id ≡ Some a → has_code a.kind ≡ true
      → ((i : Instruction) → IsIn i (code_by l id) → IsIn i (printed_code s l)) → fits_outward l (environment_of l) params a ≡ true → HasSteps s l id
  unfolding fits_outward
  outward_steps id a params there coded printed passing = λ names.
      let code = code_of a.kind in
      let passes = and_parts (is_few a.results && is_outward code) (is_well_stacked l (environment_of l) params (js_kinds a.results) code) passing in
      let outward = (and_parts (is_few a.results) (is_outward code) passes.0).1 in
      let calls = and_parts (count_by is_export_call code == 1) (not (list_any is_import_call code))
      (and_parts (calls_export code) (not (list_any writes_result code)) outward).0 in
      let none = not_true (list_any is_import_call code) calls.1 in
      coded_steps names id a params (js_kinds a.results) there printed coded (none_called s l code none) (none_own s l code none) passes.1

  -- the adapter of an export
  pub export_steps : (e : AuxExport) → IsIn e l.aux.exports → HasSteps s l e.adapter
  export_steps e i =
      let fit = exports_fit s l passed e i in
      let printed = λ (x : Instruction) (q : IsIn x (code_by l e.adapter)).
      in_left x (outer_code s l) closed_code (in_left x exported_code paired_code (in_flat (export_code l) l.aux.exports e x i q)) in
      outward_steps e.adapter fit.adapter (js_kinds (fit.adapter).args) fit.there fit.coded printed fit.passes

  -- the adapter of a closure that is used: it has a function with a name
  pub closure_steps : (id : ℕ) → IsIn id (used_closures s l) → HasSteps s l id
  closure_steps id i =
      let called = and_parts (has_number id (called_back l)) (is_callback (adapter_at l id)) (used_called s l passed id i) in
      let pair = from_map (λ (p : ExportId × ℕ). p.1) id l.wit.exports (number_in id (called_back l) called.0) in
      let fit = callbacks_fit s l passed pair.0 pair.1 in
      let printed = λ (x : Instruction) (q : IsIn x (code_by l (pair.0).1)).
      in_right x (outer_code s l) closed_code (in_flat (code_by l) (used_closures s l) id x i (subst (λ (n : ℕ). IsIn x (code_by l n)) (sym pair.2) q)) in
      subst (HasSteps s l) (sym pair.2)
      (outward_steps (pair.0).1 fit.adapter (closure_kinds (fit.adapter).args) fit.there fit.coded printed fit.passes)

  pub closure_named : (id : ℕ) → IsIn id (used_closures s l) → (name : List ℕ) × (callback_name l id ≡ Some name)
  closure_named id i =
      let called = and_parts (has_number id (called_back l)) (is_callback (adapter_at l id)) (used_called s l passed id i) in
      callback_named s l passed id called.0

  -- the adapter of an own import
  pub pair_steps : (pair : ImportId × ℕ) → IsIn pair l.wit.implements → has_number pair.0.0 (own_imports s l.«module» l.wit l.aux) ≡ true → HasSteps s l pair.1
  unfolding fits_inward
  pair_steps pair i mine = λ names.
      let fit = pairs_fit s l passed pair i in
      let called = pair_own s l pair i mine fit.adapter fit.there in
      let printed = λ (x : Instruction) (q : IsIn x (code_by l pair.1)).
      in_left x (outer_code s l) closed_code (in_right x exported_code paired_code (in_flat (pair_code own l) l.wit.implements pair x i (rw mine q))) in
      let a = fit.adapter in
      let code = code_of a.kind in
      let forms = (has_code a.kind && has_counts a fit.ty) && calls_import l (described l) code in
      let passes = and_parts forms (passes_kinds l (environment_of l) code (kinds_of (fit.ty).params) (kinds_of (fit.ty).results)) fit.passes in
      let calls = and_parts (has_code a.kind && has_counts a fit.ty) (calls_import l (described l) code) passes.0 in
      let coded = (and_parts (has_code a.kind) (has_counts a fit.ty) calls.0).0 in
      let each = (and_parts (calls_one_import code) (list_all (is_described_call l (described l)) code) calls.1).1 in
      by names a fit.there printed coded each called (kinds_of (fit.ty).params) (kinds_of (fit.ty).results) passes.1
    where
      by : (names : NameMap) (a : Adapter) → adapter_at l pair.1 ≡ Some a → ((i : Instruction) → IsIn i (code_by l pair.1) → IsIn i (printed_code s l))
          → has_code a.kind ≡ true → list_all (is_described_call l (described l)) (code_of a.kind) ≡ true → list_all (is_own_call s l) (code_of a.kind) ≡ true
          → (params results : Option (List Kind)) → passes_kinds l (environment_of l) (code_of a.kind) params results ≡ true
          → IsSomeAnd (adapter_steps s names l pair.1) (AllByRecursion (IsThere s l names))
      by names a there printed coded each called (Some params) (Some results) h = coded_steps names pair.1 a params results there printed coded each called h
      by names a there printed coded each called None results h = absurd (true≢false (sym h))
      by names a there printed coded each called (Some params) None h = absurd (true≢false (sym h))
