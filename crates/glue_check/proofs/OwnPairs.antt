-- The imports that the glue file defines: each stands, and has an adapter or brings in a memory; and the pairs that are kept of some.
use Rattle.std.proofs.Common.{◌≡◌, ℕ, zero, suc, ◌+◌, ◌<◌, ◌==◌, List, [], ◌∷◌, ◌++◌, map, Bool, true, false, ◌||◌, cond, Option, Some, None, true≢false, refl, sym, ap, ◌∙◌, ◌⊎◌, inl, inr, arith}
use Rattle.std.specs.Prelude.{filter, find, option_map}
use Rattle.std.proofs.lemmas.Bool.Decides.{Decides-eqb}
use Rattle.values.specs.Lists.{IsIn, IsAway, AreDistinct}
use Rattle.values.proofs.Members.{in_either}
use Rattle.wasm_core.specs.ids.ImportId.{ImportId}
use Rattle.wasm_core.specs.ids.FuncId.{FuncId}
use Rattle.wasm_core.specs.declared.types.Import.{Import}
use Rattle.wasm_core.specs.declared.types.ImportKind.{ImportKind}
use Rattle.wasm_core.specs.declared.types.ImportKind.TheVariants as kinds
use Rattle.glue_shared.specs.declared.description.Lowered.{Lowered}
use Rattle.glue_shared.specs.declared.settings.Settings.{Settings}
use Rattle.glue_shared.specs.Names.{adapter_for, has_number, is_own, own_place, own_places, own_imports}
use Rattle.glue_adapters.specs.Resolving.{entry_at}
use Rattle.glue_adapters.specs.Pairs.{is_id, is_fixed_kind, is_fixed_import}
use Rattle.glue_faults.proofs.First.{option_map-none, not_here}
use Rattle.glue_check.specs.declared.files.FileFlags.{FileFlags}
use Rattle.glue_check.specs.Unbuilt.{is_function, is_plain_memory, is_defined_kind, memory_of}
use Rattle.glue_check.specs.Verdict.{unbuilt, verdict}
use Rattle.glue_check.proofs.BuiltForm.{imports_built, no_rethrow}
use Rattle.glue_names.proofs.Called.{or_last}
use Rattle.glue_check.proofs.Passed.{imports_bound}

-- ---- places of entries

-- a live entry is one of them
pub entry_in : {A : Type 0} (xs : List (Option A)) (k : ℕ) (x : A) → entry_at xs k ≡ Some x → IsIn (Some x) xs
entry_in [] k x h = cc
entry_in (y ∷ xs) zero x h = inl (sym h)
entry_in (y ∷ xs) (suc k) x h = inr (entry_in xs k x h)

module _ (own : ℕ → Import → Bool) where
  -- a place among them is that of an entry that passes
  pub record IsPlaced (from : ℕ) (is : List (Option Import)) (place : ℕ) : Type 0 where
    pub k : ℕ
    pub at : place ≡ from + k
    pub «import» : Import
    pub stands : entry_at is k ≡ Some «import»
    pub passes : own place «import» ≡ true

  first : (from place : ℕ) (x : Option Import) (is : List (Option Import)) → IsIn place (own_place own from x) → IsPlaced from (x ∷ is) place
  first from place None is h = absurd h
  first from place (Some i) is h =
      let here = only (own from i) refl h in
      record { k = 0; at = let e = here.0 in omega (arith, e); «import» = i; stands = refl; passes = ap (λ (n : ℕ). own n i) here.0 ∙ here.1 }
    where
      only : (b : Bool) → own from i ≡ b → IsIn place (cond b (from ∷ []) []) → (place ≡ from) × (own from i ≡ true)
      only true e (inl same) = (same, e)
      only true e (inr none) = absurd none
      only false e none = absurd none

  next : (from place : ℕ) (x : Option Import) (is : List (Option Import)) → IsPlaced (from + 1) is place → IsPlaced from (x ∷ is) place
  next from place x is p = record { k = suc p.k; at = let e = p.at in omega (arith, e); «import» = p.«import»; stands = p.stands; passes = p.passes }

  stood : (from : ℕ) (is : List (Option Import)) (place : ℕ) → IsIn place (own_places own from is) → IsPlaced from is place
  stood from [] place h = absurd h
  stood from (x ∷ is) place h = elim (in_either place (own_place own from x) (own_places own (from + 1) is) h) [
    | inl here ↦ first from place x is here
    | inr later ↦ next from place x is (stood (from + 1) is place later)
  ]

-- ---- pairs that are kept

-- a number of the list is found in it
pub number_there : (n : ℕ) (ns : List ℕ) → IsIn n ns → has_number n ns ≡ true
number_there n [] i = absurd i
number_there n (k ∷ ns) (inl same) = ap (λ (b : Bool). b || has_number n ns) (ap (λ (x : ℕ). k == x) same ∙ (Decides-eqb k k).1 refl)
number_there n (k ∷ ns) (inr i) = or_last (k == n) (has_number n ns) (number_there n ns i)

module _ (test : ImportId × ℕ → Bool) where
  -- a pair is kept exactly where it is one of them and passes
  pub kept_pair : (ps : List (ImportId × ℕ)) (pair : ImportId × ℕ) → IsIn pair (filter test ps) → IsIn pair ps × (test pair ≡ true)
  kept_pair [] pair i = absurd i
  kept_pair (p ∷ ps) pair i = by (λ k. let r = kept_pair ps pair k in (inr r.0, r.1)) (test p) refl i
    where
      by : (IsIn pair (filter test ps) → IsIn pair (p ∷ ps) × (test pair ≡ true)) → (b : Bool) → test p ≡ b
          → IsIn pair (cond b (p ∷ filter test ps) (filter test ps)) → IsIn pair (p ∷ ps) × (test pair ≡ true)
      by rest true q (inl same) = (inl same, ap test same ∙ q)
      by rest true q (inr k) = rest k
      by rest false q k = rest k

  pub pair_kept : (ps : List (ImportId × ℕ)) (pair : ImportId × ℕ) → IsIn pair ps → test pair ≡ true → IsIn pair (filter test ps)
  pair_kept [] pair i q = absurd i
  pair_kept (p ∷ ps) pair (inl same) q = rw (ap test (sym same) ∙ q) (inl same)
  pair_kept (p ∷ ps) pair (inr i) q = by (test p) (pair_kept ps pair i q)
    where
      by : (b : Bool) → IsIn pair (filter test ps) → IsIn pair (cond b (p ∷ filter test ps) (filter test ps))
      by true k = inr k
      by false k = k

-- ---- the adapter of a place

abbrev pair_of : ℕ → ℕ → ImportId × ℕ
pair_of place adapter = (record { 0 = place }, adapter)

module _ (place : ℕ) where
  -- the first pair of a place is one of the pairs
  chosen : (ps : List (ImportId × ℕ)) (adapter : ℕ) → adapter_for ps place ≡ Some adapter → IsIn (pair_of place adapter) ps
  chosen [] adapter h = cc
  chosen (p ∷ ps) adapter h = by (λ k. chosen ps adapter k) (p.0.0 == place) refl h
    where
      here : p.0.0 ≡ place → p.1 ≡ adapter → pair_of place adapter ≡ p
      here e q = ap (λ (n : ℕ). pair_of n adapter) (sym e) ∙ ap (pair_of p.0.0) (sym q)

      by : (adapter_for ps place ≡ Some adapter → IsIn (pair_of place adapter) ps) → (b : Bool) → (p.0.0 == place) ≡ b
          → option_map (λ (pair : ImportId × ℕ). pair.1) (cond b (Some p) (find (λ (pair : ImportId × ℕ). pair.0.0 == place) ps)) ≡ Some adapter
          → IsIn (pair_of place adapter) (p ∷ ps)
      by later true e h =
          let some : Some p.1 ≡ Some adapter = h in
          let same : p.1 ≡ adapter = cc in inl (here ((Decides-eqb p.0.0 place).0 e) same)
      by later false e h = inr (later h)

  -- where there is none, no pair has the place
  unchosen : (ps : List (ImportId × ℕ)) → adapter_for ps place ≡ None → IsAway place (map (λ (pair : ImportId × ℕ). pair.0.0) ps)
  unchosen ps h = unfound ps (option_map-none (λ (pair : ImportId × ℕ). pair.1) (find (λ (pair : ImportId × ℕ). pair.0.0 == place) ps) h)
    where
      unfound : (ps : List (ImportId × ℕ)) → find (λ (pair : ImportId × ℕ). pair.0.0 == place) ps ≡ None
          → IsAway place (map (λ (pair : ImportId × ℕ). pair.0.0) ps)
      unfound [] h i = i
      unfound (p ∷ ps) h i =
          let n = not_here (p.0.0 == place) p (find (λ (pair : ImportId × ℕ). pair.0.0 == place) ps) h in
          elim i [
            | inl same ↦ true≢false (sym ((Decides-eqb p.0.0 place).1 (sym same)) ∙ n.0)
            | inr later ↦ unfound ps n.1 later
          ]

-- ---- the places are distinct

module _ (own : ℕ → Import → Bool) where
  -- none is before the first
  no_earlier : (from place : ℕ) (is : List (Option Import)) → place < from → IsAway place (own_places own from is)
  no_earlier from place is less at =
      let p = stood own from is place at in let e = p.at in omega (arith, less, e)

  one_more : (from : ℕ) (x : Option Import) (places : List ℕ) → IsAway from places → AreDistinct places → AreDistinct (own_place own from x ++ places)
  one_more from None places away d = d
  one_more from (Some i) places away d = by (own from i)
    where
      by : (b : Bool) → AreDistinct (cond b (from ∷ []) [] ++ places)
      by true = (away, d)
      by false = d

  places_distinct : (from : ℕ) (is : List (Option Import)) → AreDistinct (own_places own from is)
  places_distinct from [] = tt
  places_distinct from (x ∷ is) =
      one_more from x (own_places own (from + 1) is) (no_earlier (from + 1) from is (omega arith)) (places_distinct (from + 1) is)

-- ---- what defines them

-- by the adapter that the first pair gives the import, or where none does, by the memory that it brings in
abbrev pub IsDefinableBy : Lowered → ℕ → Import → Option ℕ → Type 0
IsDefinableBy l place i (Some adapter) = IsIn (record { 0 = place }, adapter) l.wit.implements
IsDefinableBy l place i None = is_plain_memory (memory_of l.«module» i.kind) ≡ true

-- an import stands, and something defines it
pub record IsDefinedImport (l : Lowered) (place : ℕ) : Type 0 where
  pub «import» : Import
  pub stands : entry_at l.«module».imports place ≡ Some «import»
  pub kind : IsDefinableBy l place «import» (adapter_for l.wit.implements place)

either : (a b : Bool) → (a || b) ≡ true → (a ≡ true) ⊎ (b ≡ true)
either true b h = inl refl
either false b h = inr h

module _ (f : FileFlags) (s : Settings) (l : Lowered) (built : unbuilt f s l ≡ None) where
  -- no two of the imports that the glue file defines are one
  pub own_distinct : AreDistinct (own_imports s l.«module» l.wit l.aux)
  unfolding own_imports
  own_distinct = places_distinct (is_own s l.«module» l.wit l.aux) 0 l.«module».imports

  -- a function isn't defined whatever is described
  unfixed : (i : Import) → is_function i.kind ≡ true → is_fixed_import l (Some i) ≡ false
  unfixed i h = by i.kind h
    where
      by : (kind : ImportKind) → is_function kind ≡ true → is_fixed_kind l i.name kind ≡ false
      by (kinds.Func func) h = ap (λ (o : Option FuncId). is_id func.0 (option_map (λ (part : FuncId). part.0) o)) (no_rethrow f s l built)
      by other h = absurd (true≢false (sym h))

  -- an import that brings in a function or a memory is defined by the adapter of its place, or where it has none, by the memory
  definable : verdict s l ≡ None → (place : ℕ) → IsIn place (own_imports s l.«module» l.wit l.aux) → (i : Import) → entry_at l.«module».imports place ≡ Some i
      → is_defined_kind l.«module» (Some i) ≡ true → IsDefinableBy l place i (adapter_for l.wit.implements place)
  definable passed place at i e h = by (adapter_for l.wit.implements place) refl
    where
      by : (o : Option ℕ) → adapter_for l.wit.implements place ≡ o → IsDefinableBy l place i o
      by (Some adapter) q = chosen place l.wit.implements adapter q
      by None q = elim (either (is_function i.kind) (is_plain_memory (memory_of l.«module» i.kind)) h) [
        | inl function ↦ absurd (unchosen place l.wit.implements q (imports_bound s l passed place at (ap (is_fixed_import l) e ∙ unfixed i function)))
        | inr memory ↦ memory
      ]

  -- each import that the glue file defines stands, and an adapter stands for it, or it brings in a memory whose definition is built
  pub own_defined : verdict s l ≡ None → (place : ℕ) → IsIn place (own_imports s l.«module» l.wit l.aux) → IsDefinedImport l place
  own_defined passed place at = by (entry_at l.«module».imports place) refl ((imports_built f s l built).kinds place at)
    where
      by : (o : Option Import) → entry_at l.«module».imports place ≡ o → is_defined_kind l.«module» o ≡ true → IsDefinedImport l place
      by None e h = cc
      by (Some i) e h = record { «import» = i; stands = e; kind = definable passed place at i e h }
