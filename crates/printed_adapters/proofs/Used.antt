-- What is known of the adapters of closures that are used.
use Rattle.std.proofs.Common.{◌≡◌, ◌⊎◌, ℕ, Bool, true, List, [], ◌∷◌, ◌++◌, Some, refl, subst, inl, inr}
use Rattle.std.specs.List.{flat_map}
use Rattle.std.specs.List.Sorted.{IsStrictlySortedBy}
use Rattle.std.specs.Map.{keys_of}
use Rattle.std.specs.Ordering.{nat_cmp}
use Rattle.std.specs.Cmp.{nat_cmp_total}
use Rattle.std.proofs.lemmas.List.Kept.{IsStrictlySortedBy-filter}
use Rattle.values.specs.Lists.{IsIn, AreDistinct}
use Rattle.values.specs.Map.{AreInOrder}
use Rattle.values.proofs.Maps.{ascending_distinct}
use Rattle.values.proofs.Members.{in_left, in_right, in_either}
use Rattle.least_set.specs.Least.{IsLeast}
use Rattle.glue_shared.specs.declared.adapter.Instruction.{Instruction}
use Rattle.glue_shared.specs.declared.adapter.Instruction.TheVariants as instr
use Rattle.glue_shared.specs.declared.description.Lowered.{Lowered}
use Rattle.glue_shared.specs.declared.settings.Settings.{Settings}
use Rattle.glue_shared.specs.Names.{has_number}
use Rattle.printed_adapters.specs.Printed.{adapter_ids, adapters_among, closure_id, closures_by, closures_in, code_by, outer_code, printed_code, used_closures}
use Rattle.printed_adapters.proofs.Choices.{from_filter_map, from_flat, in_filter_map, in_flat, number_in, number_there}
use Rattle.printed_adapters.proofs.Least.{HasNamed, held, held_known, held_least, held_named, held_pass, is_held}

-- ---- the closures that code makes

closure_is : (i : Instruction) (id : ℕ) → closure_id i ≡ Some id → (mutable : Bool) × (i ≡ instr.Closure id mutable)
closure_is (instr.Closure other mutable) id e = (mutable, cc)
closure_is i id e = absurd cc

-- a closure that is made is made by an instruction
pub closure_made : (code : List Instruction) (id : ℕ) → IsIn id (closures_in code) → (mutable : Bool) × IsIn (instr.Closure id mutable) code
closure_made code id i =
    let r = from_filter_map closure_id code id i in
    let c = closure_is r.0 id r.2 in
    (c.0, subst (λ (x : Instruction). IsIn x code) c.1 r.1)

pub closure_there : (code : List Instruction) (id : ℕ) (mutable : Bool) → IsIn (instr.Closure id mutable) code → IsIn id (closures_in code)
closure_there code id mutable i = in_filter_map closure_id code (instr.Closure id mutable) id i refl

-- ---- those that are used

module _ (s : Settings) (l : Lowered) where
  -- the least set that has the adapters of the closures that outer code makes, and that the code of its own makes
  pub used_least : IsLeast (λ id. adapters_among l (closures_by l id)) (adapters_among l (closures_in (outer_code s l))) (λ id. has_number id (used_closures s l))
  unfolding used_closures
  used_least = held_least (adapter_ids l) (closures_in (outer_code s l)) (closures_by l)

  used_named : HasNamed (adapter_ids l) (closures_in (outer_code s l)) (closures_by l) (used_closures s l)
  unfolding used_closures
  used_named = held_named (adapter_ids l) (closures_in (outer_code s l)) (closures_by l)

  -- each of the first
  pub used_outer : (id : ℕ) → IsIn id (closures_in (outer_code s l)) → IsIn id (adapter_ids l) → IsIn id (used_closures s l)
  used_outer = used_named.begun

  -- each of the others
  pub used_further : (id other : ℕ) → IsIn other (used_closures s l) → IsIn id (closures_by l other) → IsIn id (adapter_ids l) → IsIn id (used_closures s l)
  used_further = used_named.further

  -- each is the id of an adapter
  pub used_adapter : (id : ℕ) → IsIn id (used_closures s l) → IsIn id (adapter_ids l)
  unfolding used_closures
  used_adapter = held_known (adapter_ids l) (closures_in (outer_code s l)) (closures_by l)

  -- they stand in the order of the adapters
  pub used_in_order : AreInOrder nat_cmp l.wit.adapters → IsStrictlySortedBy nat_cmp (used_closures s l)
  unfolding used_closures
  used_in_order h = IsStrictlySortedBy-filter nat_cmp (is_held (adapter_ids l) (closures_in (outer_code s l)) (closures_by l)) (adapter_ids l) h

  -- and so none stands twice
  pub used_distinct : IsStrictlySortedBy nat_cmp (used_closures s l) → AreDistinct (used_closures s l)
  used_distinct h = ascending_distinct nat_cmp nat_cmp_total (used_closures s l) h

  used_pass : (test : ℕ → Bool) → ((id : ℕ) → IsIn id (closures_in (outer_code s l)) → IsIn id (adapter_ids l) → test id ≡ true)
      → ((id other : ℕ) → IsIn other (used_closures s l) → test other ≡ true → IsIn id (closures_by l other) → IsIn id (adapter_ids l) → test id ≡ true)
      → (id : ℕ) → IsIn id (used_closures s l) → test id ≡ true
  unfolding used_closures
  used_pass = held_pass (adapter_ids l) (closures_in (outer_code s l)) (closures_by l)

  -- ---- in the code of all

  -- the code of adapters of exports and of own imports is printed
  pub outer_printed : (i : Instruction) → IsIn i (outer_code s l) → IsIn i (printed_code s l)
  outer_printed i at = in_left i (outer_code s l) (flat_map (code_by l) (used_closures s l)) at

  -- and so is that of adapters of closures that are used
  pub closure_printed : (id : ℕ) → IsIn id (used_closures s l) → (i : Instruction) → IsIn i (code_by l id) → IsIn i (printed_code s l)
  closure_printed id u i at = in_right i (outer_code s l) (flat_map (code_by l) (used_closures s l)) (in_flat (code_by l) (used_closures s l) id i u at)

  -- printed code is that of an adapter of an export or of an own import, or of one of a closure that is used
  pub printed_either : (i : Instruction) → IsIn i (printed_code s l) → IsIn i (outer_code s l) ⊎ ((id : ℕ) × IsIn id (used_closures s l) × IsIn i (code_by l id))
  printed_either i at = elim (in_either i (outer_code s l) (flat_map (code_by l) (used_closures s l)) at) [
    | inl first ↦ inl first
    | inr later ↦ inr (from_flat (code_by l) (used_closures s l) i later)
  ]

  -- the adapter of each closure that printed code makes is used
  pub used_printed : (id : ℕ) (mutable : Bool) → IsIn (instr.Closure id mutable) (printed_code s l) → IsIn id (adapter_ids l) → IsIn id (used_closures s l)
  used_printed id mutable at k = elim (printed_either (instr.Closure id mutable) at) [
    | inl first ↦ used_outer id (closure_there (outer_code s l) id mutable first) k
    | inr later ↦ used_further id later.0 later.1 (closure_there (code_by l later.0) id mutable later.2) k
  ]

  -- printed code makes a closure of each that is used
  pub used_made : (id : ℕ) → IsIn id (used_closures s l) → (mutable : Bool) × IsIn (instr.Closure id mutable) (printed_code s l)
  used_made id u =
      let printed = closures_in (printed_code s l) in
      closure_made (printed_code s l) id (number_in id printed (used_pass (λ id. has_number id printed)
      (λ id i k.
      let c = closure_made (outer_code s l) id i in
      number_there id printed (closure_there (printed_code s l) id c.0 (outer_printed (instr.Closure id c.0) c.1)))
      (λ id other o passes i k.
      let c = closure_made (code_by l other) id i in
      number_there id printed (closure_there (printed_code s l) id c.0 (closure_printed other o (instr.Closure id c.0) c.1)))
      id u))
