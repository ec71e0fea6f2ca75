-- Where code lacks no part and keeps the stack, each of its instructions has what it needs: no object is lent to a table of references, the
-- parts that it goes by are there, and so is the function that destroys closures, where it makes one, and a global that tells where the stack of
-- the module ends, where it takes room there; the string enum that it names is described, and closures are made of adapters that they can call.
-- Of a description without a fault each adapter that becomes a function has such code.
use Rattle.std.proofs.Common.{◌≡◌, List, [], ◌∷◌, Bool, true, false, Option, Some, None, refl, sym, ap, ◌∙◌, subst, inl, inr, arith, true≢false}
use Rattle.std.specs.Prelude.{ℕ, All, ◌&&◌, ◌||◌, cond, codes, is_some, not, option_and_then}
use Rattle.std.specs.List.{flat_map, list_any}
use Rattle.std.specs.Option.{option_or}
use Rattle.std.specs.Ordering.{nat_cmp}
use Rattle.std.proofs.lemmas.Bool.{and_parts}
use Rattle.values.specs.Lists.{IsIn}
use Rattle.values.specs.Map.{look_up}
use Rattle.values.proofs.Members.{in_either}
use Rattle.wasm_core.specs.ids.ExportId.{ExportId}
use Rattle.wasm_core.specs.ids.ImportId.{ImportId}
use Rattle.glue_shared.specs.declared.adapter.Adapter.{Adapter}
use Rattle.glue_shared.specs.declared.adapter.Instruction.{Instruction}
use Rattle.glue_shared.specs.declared.adapter.Instruction.TheVariants as instr
use Rattle.glue_shared.specs.declared.aux.AuxExport.{AuxExport}
use Rattle.glue_shared.specs.declared.description.Lowered.{Lowered}
use Rattle.glue_shared.specs.declared.settings.Settings.{Settings}
use Rattle.glue_shared.specs.Names as described_names
use Rattle.glue_shared.specs.Names.{has_number, is_one_of, own_imports}
use Rattle.glue_steps.specs.declared.needed.ReferencePart.{ReferencePart}
use Rattle.glue_steps.specs.declared.needed.ReferencePart.TheVariants as parts
use Rattle.glue_steps.specs.declared.needed.TheConstants.{REFERENCE_PARTS}
use Rattle.glue_steps.specs.Needed.{destroyer_item, goes_by, makes_closure, part_item, store_item}
use Rattle.glue_steps.specs.Room.{is_room, makes_room, has_stack}
use Rattle.glue_adapters.specs.declared.kind.Kind.{Kind}
use Rattle.glue_adapters.specs.declared.kind.Kind.TheVariants as kind
use Rattle.glue_adapters.specs.Adapters.{adapter_at, code_of, calls_import, fits_inward, fits_outward, has_code, has_counts, is_few, is_outward, passes_kinds}
use Rattle.glue_adapters.specs.Pairs.{called_back, described, environment_of}
use Rattle.glue_adapters.specs.Stack.{after, closure_kinds, effect, effect_of, enum_names, is_callback, is_well_stacked, js_kinds, keeps_stack, kinds_of, leaves, stack_after, uses_room}
use Rattle.glue_faults.specs.First.{first_of}
use Rattle.glue_faults.proofs.First.{first_of-none, list_any-none}
use Rattle.glue_names.proofs.Called.{number_in, or_last}
use Rattle.glue_names.proofs.Globals.{from_flat}
use Rattle.glue_names.proofs.MappedLists.{from_map, from_part}
use Rattle.printed_adapters.specs.Caught.{catches, handing}
use Rattle.printed_adapters.specs.Printed.{adapter_ids, adapters_among, closure_id, closures_in, code_by, enum_named, export_code, outer_code, pair_code, printed_code, used_closures, uses_shim}
use Rattle.printed_adapters.proofs.Choices.{each_by, from_filter, number_there}
use Rattle.printed_adapters.proofs.Used.{used_least}
use Rattle.glue_check.specs.Missing.{lacked_unless, lends, part_name, lacks_part, part_lacked, reference_lacked, closure_lacked, memory_lacked, stack_lacked, code_lacks, catch_lacks, handing_lacks}
use Rattle.glue_check.specs.Verdict.{verdict}
use Rattle.glue_check.proofs.Embedded.{catch_complete, code_complete, or_none, there_if}
use Rattle.glue_check.proofs.Passed.{callbacks_fit, exports_fit, looked_up, pairs_fit}

-- an adapter that closures call, with code and the parameters for what a closure holds
abbrev pub is_closure_adapter : Lowered → ℕ → Bool
is_closure_adapter l id = has_number id (called_back l) && is_callback (adapter_at l id)

pub record IsComplete (s : Settings) (l : Lowered) (i : Instruction) : Type 0 where
  pub unlent : s.externref ≡ true → lends i ≡ false
  pub parts : s.externref ≡ true → (part : ReferencePart) → goes_by i part ≡ true → is_some (part_item l part) ≡ true
  pub room : is_room i ≡ true → has_stack l ≡ true
  pub destroys : makes_closure i ≡ true → is_some (destroyer_item l) ≡ true
  pub enums : (name : List ℕ) → IsIn name (enum_named i) → is_one_of (enum_names l) name ≡ true
  pub closures : (id : ℕ) → closure_id i ≡ Some id → is_closure_adapter l id ≡ true

-- all parts are listed
part_listed : (part : ReferencePart) → IsIn part REFERENCE_PARTS
part_listed parts.Alloc = inl refl
part_listed parts.Drop = inr (inl refl)
part_listed parts.DropSlice = inr (inr (inl refl))
part_listed parts.Table = inr (inr (inr (inl refl)))

-- a test that isn't met, where it tells no part
not_met : (b : Bool) (part : List ℕ) → lacked_unless (not b) part ≡ None → b ≡ false
not_met true part h = cc
not_met false part h = refl

-- a second test, where the first is met and both aren't
second : (a b : Bool) → (a && not b) ≡ false → a ≡ true → b ≡ true
second true true h e = refl
second true false h e = absurd (true≢false h)
second false b h e = absurd (true≢false (sym e))

-- what code lacks of a table of references
by_reference : (externref : Bool) (l : Lowered) (code : List Instruction) → reference_lacked externref l code ≡ None → externref ≡ true
    → (list_any lends code ≡ false) × ((part : ReferencePart) → list_any (lacks_part l part) code ≡ false)
by_reference false l code h on = absurd (true≢false (sym on))
by_reference true l code h on =
    let both = or_none (lacked_unless (not (list_any lends code)) (codes "externref")) (first_of (part_lacked l code) REFERENCE_PARTS) h in (
      not_met (list_any lends code) (codes "externref") both.0,
      λ part. not_met (list_any (lacks_part l part) code) (part_name part)
          (first_of-none (part_lacked l code) REFERENCE_PARTS part both.1 (part_listed part)),
    )

-- an instruction of a code passes a test where one of them does
one_makes : (test : Instruction → Bool) (code : List Instruction) (i : Instruction) → IsIn i code → test i ≡ true → list_any test code ≡ true
one_makes test [] i at h = absurd at
one_makes test (j ∷ code) i (inl same) h = ap (λ (b : Bool). b || list_any test code) (ap test (sym same) ∙ h)
one_makes test (j ∷ code) i (inr at) h = or_last (test j) (list_any test code) (one_makes test code i at h)

-- code takes room where one of its instructions does, and then one of them does
pub room_made : (code : List Instruction) (i : Instruction) → IsIn i code → is_room i ≡ true → makes_room code ≡ true
room_made code i at h = one_makes is_room code i at h

made_by : (code : List Instruction) → makes_room code ≡ true → (i : Instruction) × IsIn i code × (is_room i ≡ true)
made_by [] h = absurd (true≢false (sym h))
made_by (i ∷ code) h = by (is_room i) refl h (made_by code)
  where
    by : (b : Bool) → is_room i ≡ b → (b || makes_room code) ≡ true → (makes_room code ≡ true → (j : Instruction) × IsIn j code × (is_room j ≡ true))
        → (j : Instruction) × IsIn j (i ∷ code) × (is_room j ≡ true)
    by true e h later = (i, inl refl, e)
    by false e h later = let r = later h in (r.0, inr r.1, r.2)

-- what is there under a condition, where that is met
where_met : (a b : Bool) → (not a || b) ≡ true → a ≡ true → b ≡ true
where_met true b h e = h
where_met false b h e = absurd (true≢false (sym e))

-- ---- what code that keeps the stack names

-- a value that is there under a condition
pub only_if : {A : Type 0} (b : Bool) (o : Option A) → is_some (cond b o None) ≡ true → b ≡ true
only_if true o h = refl
only_if false o h = h

-- where a stack that comes of a value leaves the results, the value is there, and so is the stack
moved : {A : Type 0} (results : List Kind) (go : A → Option (List Kind)) (later : List Kind → Option (List Kind)) (o : Option A)
    → leaves results (option_and_then later (option_and_then go o)) ≡ true
    → (next : List Kind) × (is_some o ≡ true) × (leaves results (later next) ≡ true)
moved results go later None h = absurd (true≢false (sym h))
moved results go later (Some x) h = by (go x) h
  where
    by : (o : Option (List Kind)) → leaves results (option_and_then later o) ≡ true
        → (next : List Kind) × (true ≡ true) × (leaves results (later next) ≡ true)
    by None h = absurd (true≢false (sym h))
    by (Some next) h = (next, refl, h)

module _ (l : Lowered) (params results : List Kind) where
  -- where a code leaves the results, its first instruction has an effect, and the code behind it leaves them on what that leaves
  pub moved_on : (stack : List Kind) (i : Instruction) (code : List Instruction)
      → leaves results (stack_after (effect l (environment_of l) params) stack (i ∷ code)) ≡ true
      → (next : List Kind) × (is_some (effect l (environment_of l) params i) ≡ true) × (leaves results (stack_after (effect l (environment_of l) params) next code) ≡ true)
  moved_on stack i code h =
      moved results (λ e. after e stack) (λ next. stack_after (effect l (environment_of l) params) next code) (effect l (environment_of l) params i) h

  -- so each of its instructions has one
  has_effect : (stack : List Kind) (code : List Instruction) → leaves results (stack_after (effect l (environment_of l) params) stack code) ≡ true
      → (i : Instruction) → IsIn i code → is_some (effect l (environment_of l) params i) ≡ true
  has_effect stack [] h i at = absurd at
  has_effect stack (j ∷ code) h i (inl same) =
      ap (λ (k : Instruction). is_some (effect l (environment_of l) params k)) same ∙ (moved_on stack j code h).1
  has_effect stack (j ∷ code) h i (inr at) = let went = moved_on stack j code h in has_effect went.0 code went.2 i at

-- a string enum that an instruction with an effect names is described
described_by : (l : Lowered) (params : List Kind) (i : Instruction) → is_some (effect l (environment_of l) params i) ≡ true
    → (name : List ℕ) → IsIn name (enum_named i) → is_one_of (enum_names l) name ≡ true
unfolding effect
described_by l params (instr.EnumIndex own) e name (inl same) =
    ap (is_one_of (enum_names l)) same ∙ only_if (is_one_of (enum_names l) own) (Some (effect_of (kind.Js ∷ []) (kind.I32 ∷ []))) e
described_by l params (instr.EnumIndex own) e name (inr none) = absurd none
described_by l params (instr.EnumText own) e name (inl same) =
    ap (is_one_of (enum_names l)) same ∙ only_if (is_one_of (enum_names l) own) (Some (effect_of (kind.I32 ∷ []) (kind.Js ∷ []))) e
described_by l params (instr.EnumText own) e name (inr none) = absurd none
described_by l params other e name none = absurd none

-- a closure that an instruction with an effect makes is one of an adapter that closures can call
closed_by : (l : Lowered) (params : List Kind) (i : Instruction) → is_some (effect l (environment_of l) params i) ≡ true
    → (id : ℕ) → closure_id i ≡ Some id → is_closure_adapter l id ≡ true
unfolding effect
closed_by l params (instr.Closure own mutable) e id h =
    let same : own ≡ id = cc in
    ap (is_closure_adapter l) (sym same) ∙ only_if (is_closure_adapter l own) (Some (effect_of (kind.I32 ∷ kind.I32 ∷ []) (kind.Js ∷ []))) e
closed_by l params other e id h = cc

pub complete_code : (s : Settings) (l : Lowered) (params results : List Kind) (code : List Instruction) → code_lacks s l code ≡ None
    → is_well_stacked l (environment_of l) params results code ≡ true → (i : Instruction) → IsIn i code → IsComplete s l i
complete_code s l params results code h stacked i at =
    let kept = (and_parts (uses_room false code) (keeps_stack l (environment_of l) params results code) stacked).1 in
    let passing = option_or (reference_lacked s.externref l code) (option_or (memory_lacked l code) (stack_lacked l code)) in
    let all = or_none (closure_lacked l code) passing h in
    let parts = or_none (reference_lacked s.externref l code) (option_or (memory_lacked l code) (stack_lacked l code)) all.1 in
    let stack = (or_none (memory_lacked l code) (stack_lacked l code) parts.1).1 in record {
      unlent = λ on. list_any-none lends code i (by_reference s.externref l code parts.0 on).0 at;
      parts = λ on part goes.
          second (goes_by i part) (is_some (part_item l part))
          (list_any-none (lacks_part l part) code i ((by_reference s.externref l code parts.0 on).1 part) at) goes;
      room = λ takes.
          where_met (makes_room code) (has_stack l) (there_if (not (makes_room code) || has_stack l) (codes "stack_pointer") stack)
          (room_made code i at takes);
      destroys = λ makes.
          where_met (list_any makes_closure code) (is_some (destroyer_item l))
          (there_if (not (list_any makes_closure code) || is_some (destroyer_item l)) (codes "destroy_closure") all.0)
          (one_makes makes_closure code i at makes);
      enums = described_by l params i (has_effect l params results [] code kept i at);
      closures = closed_by l params i (has_effect l params results [] code kept i at);
    }

-- ---- what is caught

-- what an import throws can be handed on: the function that takes it is there, and what the value goes by
pub record CanHand (s : Settings) (l : Lowered) : Type 0 where
  pub store : is_some (store_item l) ≡ true
  pub complete : IsComplete s l handing

-- what code lacks of a table of references, of all that it lacks
of_reference : (s : Settings) (l : Lowered) (code : List Instruction) → code_lacks s l code ≡ None → reference_lacked s.externref l code ≡ None
of_reference s l code h =
    let beside = option_or (memory_lacked l code) (stack_lacked l code) in
    let passing = or_none (closure_lacked l code) (option_or (reference_lacked s.externref l code) beside) h in
    (or_none (reference_lacked s.externref l code) beside passing.1).0

can_hand : (s : Settings) (l : Lowered) → handing_lacks s l ≡ None → CanHand s l
can_hand s l h =
    let code : List Instruction = handing ∷ [] in
    let both = or_none (lacked_unless (is_some (store_item l)) (codes "exn_store")) (code_lacks s l code) h in
    let kept = of_reference s l code both.1 in record {
      store = there_if (is_some (store_item l)) (codes "exn_store") both.0;
      complete = record {
        unlent = λ on. refl;
        parts = λ on part goes.
            second (goes_by handing part) (is_some (part_item l part))
            (list_any-none (lacks_part l part) code handing ((by_reference s.externref l code kept on).1 part) (inl refl)) goes;
        room = λ takes. absurd (true≢false (sym takes));
        destroys = λ makes. absurd (true≢false (sym makes));
        enums = λ name none. absurd none;
        closures = λ id none. cc;
      };
    }

-- ---- a description without a fault

-- the code of an adapter by itself, and of one that was looked up
pub same_code : (a : Adapter) → described_names.code_of (Some a) ≡ code_of a.kind
same_code a = grind arith

-- values of some kinds are passed
passed_kinds : (l : Lowered) (code : List Instruction) (params results : Option (List Kind)) → passes_kinds l (environment_of l) code params results ≡ true
    → (ps : List Kind) × (rs : List Kind) × (is_well_stacked l (environment_of l) ps rs code ≡ true)
passed_kinds l code (Some ps) (Some rs) h = (ps, rs, h)
passed_kinds l code (Some ps) None h = absurd (true≢false (sym h))
passed_kinds l code None results h = absurd (true≢false (sym h))

module _ (s : Settings) (l : Lowered) (passed : verdict s l ≡ None) where
  -- each instruction of an adapter that keeps the stack has what it needs
  complete_at : (id : ℕ) (a : Adapter) → adapter_at l id ≡ Some a → (params results : List Kind)
      → is_well_stacked l (environment_of l) params results (code_of a.kind) ≡ true → (i : Instruction) → IsIn i (code_by l id) → IsComplete s l i
  complete_at id a there params results stacked i at =
      complete_code s l params results (code_of a.kind) (code_complete s l passed (id, a) (looked_up l.wit.adapters id a there)) stacked i
      (subst (λ (code : List Instruction). IsIn i code) (ap described_names.code_of there ∙ same_code a) at)

  -- so has each of one that passes values to an export
  complete_outward : (id : ℕ) (a : Adapter) → adapter_at l id ≡ Some a → (params : List Kind) → fits_outward l (environment_of l) params a ≡ true
      → (i : Instruction) → IsIn i (code_by l id) → IsComplete s l i
  unfolding fits_outward
  complete_outward id a there params passes =
      let stacked = and_parts (is_few a.results && is_outward (code_of a.kind)) (is_well_stacked l (environment_of l) params (js_kinds a.results) (code_of a.kind)) passes in
      complete_at id a there params (js_kinds a.results) stacked.1

  -- so has each of the adapter of an export, of a closure, and of one that stands for an import
  complete_export : (e : AuxExport) → IsIn e l.aux.exports → (i : Instruction) → IsIn i (code_by l e.adapter) → IsComplete s l i
  complete_export e k = let fit = exports_fit s l passed e k in let a = fit.adapter in
      complete_outward e.adapter a fit.there (js_kinds a.args) fit.passes

  complete_callback : (pair : ExportId × ℕ) → IsIn pair l.wit.exports → (i : Instruction) → IsIn i (code_by l pair.1) → IsComplete s l i
  complete_callback pair k = let fit = callbacks_fit s l passed pair k in complete_outward pair.1 fit.adapter fit.there (closure_kinds (fit.adapter).args) fit.passes

  complete_closure : (id : ℕ) → is_closure_adapter l id ≡ true → (i : Instruction) → IsIn i (code_by l id) → IsComplete s l i
  complete_closure id h i at =
      let called = number_in id (called_back l) (and_parts (has_number id (called_back l)) (is_callback (adapter_at l id)) h).0 in
      let pair = from_map (λ (p : ExportId × ℕ). p.1) id l.wit.exports called in
      complete_callback pair.0 pair.1 i (subst (λ (n : ℕ). IsIn i (code_by l n)) pair.2 at)

  complete_pair : (pair : ImportId × ℕ) → IsIn pair l.wit.implements → (i : Instruction) → IsIn i (code_by l pair.1) → IsComplete s l i
  unfolding fits_inward
  complete_pair pair k =
      let fit = pairs_fit s l passed pair k in
      let a = fit.adapter in
      let code = code_of a.kind in
      let whole = (has_code a.kind && has_counts a fit.ty) && calls_import l (described l) code in
      let kinds = (and_parts whole (passes_kinds l (environment_of l) code (kinds_of (fit.ty).params) (kinds_of (fit.ty).results)) fit.passes).1 in
      let r = passed_kinds l code (kinds_of (fit.ty).params) (kinds_of (fit.ty).results) kinds in
      complete_at pair.1 a fit.there r.0 r.1 r.2

  -- so has each of the adapters of exports and of own imports
  complete_outer : (i : Instruction) → IsIn i (outer_code s l) → IsComplete s l i
  complete_outer i at =
      let own = own_imports s l.«module» l.wit l.aux in
      elim (in_either i (flat_map (export_code l) l.aux.exports) (flat_map (pair_code own l) l.wit.implements) at) [
        | inl here ↦ let r = from_flat (export_code l) l.aux.exports i here in complete_export r.0 r.1 i r.2
        | inr there ↦ let r = from_flat (pair_code own l) l.wit.implements i there in paired r.0 r.1 (has_number r.0.0.0 own) r.2
      ]
    where
      paired : (pair : ImportId × ℕ) → IsIn pair l.wit.implements → (b : Bool) → IsIn i (cond b (code_by l pair.1) []) → IsComplete s l i
      paired pair k true at = complete_pair pair k i at
      paired pair k false none = absurd none

  -- closures that are used are of adapters that closures can call
  pub used_called : (id : ℕ) → IsIn id (used_closures s l) → is_closure_adapter l id ≡ true
  used_called id at =
      (used_least s l).least (is_closure_adapter l) (among (outer_code s l) (λ i q. complete_outer i q))
      (λ k held. among (code_by l k) (λ i q. complete_closure k held i q)) id (number_there id (used_closures s l) at)
    where
      -- each closure that such code makes is of one
      among : (code : List Instruction) → ((i : Instruction) → IsIn i code → IsComplete s l i)
          → All (λ (n : ℕ). is_closure_adapter l n ≡ true) (adapters_among l (closures_in code))
      among code k = each_by (λ (n : ℕ). is_closure_adapter l n ≡ true) (adapters_among l (closures_in code)) (λ n at.
          let made = (from_filter (λ (m : ℕ). has_number m (adapter_ids l)) n (closures_in code) at).0 in
          let r = from_part closure_id n code made in (k r.0 r.1).closures n r.2)

  -- so has each of an adapter that becomes a function
  pub complete_printed : (i : Instruction) → IsIn i (printed_code s l) → IsComplete s l i
  complete_printed i at = elim (in_either i (outer_code s l) (flat_map (code_by l) (used_closures s l)) at) [
    | inl outer ↦ complete_outer i outer
    | inr closed ↦ let r = from_flat (code_by l) (used_closures s l) i closed in complete_closure r.0 (used_called r.0 r.1) i r.2
  ]

  -- where one of these adapters takes room, a global is there that tells where the stack ends
  pub room_there : uses_shim s l ≡ true → has_stack l ≡ true
  room_there uses = let r = made_by (printed_code s l) uses in (complete_printed r.0 r.1).room r.2

  -- what the glue file catches can be handed on
  pub handing_there : catches s l ≡ true → CanHand s l
  handing_there caught = can_hand s l (by (catches s l) caught (catch_complete s l passed))
    where
      by : (b : Bool) → b ≡ true → cond b (handing_lacks s l) None ≡ None → handing_lacks s l ≡ None
      by true e h = h
      by false e h = absurd (true≢false (sym e))
