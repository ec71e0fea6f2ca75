-- What the adapter of an own import calls is among what the adapters of own imports call.
use Rattle.std.proofs.Common.{◌≡◌, ℕ, ◌==◌, Bool, true, false, true≢false, ◌||◌, List, [], ◌∷◌, Option, Some, refl, sym, ap, ◌∙◌, subst, inl, inr}
use Rattle.std.specs.Prelude.{filter_map}
use Rattle.std.specs.List.{flat_map}
use Rattle.std.specs.Ordering.{nat_cmp}
use Rattle.std.proofs.lemmas.Bool.{eqb-true}
use Rattle.std.proofs.lemmas.Bool.Decides.{Decides-eqb}
use Rattle.std.proofs.lemmas.List.Folds.{list_any-append}
use Rattle.values.specs.Lists.{IsIn}
use Rattle.values.specs.Map.{look_up}
use Rattle.wasm_core.specs.ids.ImportId.{ImportId}
use Rattle.glue_shared.specs.declared.adapter.Instruction.{Instruction}
use Rattle.glue_shared.specs.declared.adapter.Instruction.TheVariants as instr
use Rattle.glue_shared.specs.declared.description.Lowered.{Lowered}
use Rattle.glue_shared.specs.declared.settings.Settings.{Settings}
use Rattle.glue_shared.specs.Names.{has_number, code_of, own_imports}
use Rattle.glue_names.specs.Handed.{callee, pair_callees, own_callees}
pub use Rattle.printed_adapters.proofs.Choices.{number_in, or_last}

-- a number of one of these lists is one of all
has_in_flat : {A : Type 0} (f : A → List ℕ) (xs : List A) (x : A) (n : ℕ) → IsIn x xs → has_number n (f x) ≡ true → has_number n (flat_map f xs) ≡ true
has_in_flat f [] x n at h = absurd at
has_in_flat f (y ∷ ys) x n (inl same) h =
    list_any-append (λ (k : ℕ). k == n) (f y) (flat_map f ys)
    ∙ ap (λ (b : Bool). b || has_number n (flat_map f ys)) (subst (λ z. has_number n (f z) ≡ true) same h)
has_in_flat f (y ∷ ys) x n (inr at) h =
    list_any-append (λ (k : ℕ). k == n) (f y) (flat_map f ys) ∙ or_last (has_number n (f y)) _ (has_in_flat f ys x n at h)

-- an adapter that code calls is among its callees
callee_in : (code : List Instruction) (id : ℕ) → IsIn (instr.CallAdapter id) code → has_number id (filter_map callee code) ≡ true
callee_in [] id at = absurd at
callee_in (i ∷ code) id (inl same) =
    subst (λ (j : Instruction). has_number id (filter_map callee (j ∷ code)) ≡ true) same (ap (λ (b : Bool). b || has_number id (filter_map callee code)) ((Decides-eqb id id).1 refl))
callee_in (i ∷ code) id (inr at) = by i (callee_in code id at)
  where
    by : (i : Instruction) → has_number id (filter_map callee code) ≡ true → has_number id (filter_map callee (i ∷ code)) ≡ true
    by (instr.CallAdapter other) h = or_last (other == id) _ h
    by other h = h

-- what an instruction calls
pub callee_is : (step : Instruction) (id : ℕ) → callee step ≡ Some id → step ≡ instr.CallAdapter id
callee_is (instr.CallAdapter other) id e = cc
callee_is step id e = cc

module _ (s : Settings) (l : Lowered) where
  pub called_own : (pair : ImportId × ℕ) → IsIn pair l.wit.implements → has_number pair.0.0 (own_imports s l.«module» l.wit l.aux) ≡ true
      → (id : ℕ) → IsIn (instr.CallAdapter id) (code_of (look_up nat_cmp l.wit.adapters pair.1)) → has_number id (own_callees s l) ≡ true
  called_own pair i own id at =
      let callees = pair_callees (own_imports s l.«module» l.wit l.aux) l in
      let code = code_of (look_up nat_cmp l.wit.adapters pair.1) in
      let here : has_number id (callees pair) ≡ true = rw own (callee_in code id at) in
      has_in_flat callees l.wit.implements pair id i here
