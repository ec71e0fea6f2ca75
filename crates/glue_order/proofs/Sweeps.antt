-- The sweeps of long walks are those of the entries.
use Rattle.std.proofs.Common.{◌≡◌, ◌++◌, ◌+◌, ◌-◌, ◌≤◌, ◌∙◌, All, Bool, Ordering, arith, get_or, List, None, Option, Some, [], ap, cond, false, length, map, option_map, refl, suc, sym, true, zero, add-one, add-zero, ℕ, ◌∷◌}
use Rattle.std.proofs.lemmas.List.{append_assoc, length_push}
use Rattle.std.proofs.lemmas.List.Elements.{All-map}
use Rattle.std.proofs.lemmas.Option.{slice_get-map}
use Rattle.std.proofs.lemmas.Simd.{map-map}
use Rattle.std.specs.List.{find, position_from}
use Rattle.std.specs.Option.{option_and_then}
use Rattle.std.specs.Prelude.{slice_get}
use Rattle.std.specs.declared.cmp.Ordering.TheVariants.{Equal, Greater, Less}
use Rattle.glue_order.specs.declared.ranks.Ranked.{Ranked}
use Rattle.glue_order.specs.declared.walks.Walk.{Walk}
use Rattle.glue_order.specs.Order.{Entry, is_class, name_order, parent_name, parent_of, rise, sweep, sweep_below, sweep_within}
use Rattle.glue_order.specs.Walks.{class_place, first_step, parent_place, step_to, then_walk, walk_on, walks, sweep_at, sweep_in, sweeps_from}
use Rattle.glue_order.proofs.LongWalks.{got_map, map_alike}

-- ---- parents by their places

later : {A : Type 0} (test : A → Bool) (from : ℕ) (xs : List A) → position_from test (from + 1) xs ≡ option_map suc (position_from test from xs)
later test from [] = refl
later test from (x ∷ xs) =
    elim (test x) as (λ v. cond v (Some (from + 1)) (position_from test (from + 1 + 1) xs) ≡ option_map suc (cond v (Some from) (position_from test (from + 1) xs))) [
      | true ↦ ap Some (add-one from)
      | false ↦ later test (from + 1) xs
    ]

got_later : {A : Type 0} (x : A) (xs : List A) (o : Option ℕ) → option_and_then (slice_get (x ∷ xs)) (option_map suc o) ≡ option_and_then (slice_get xs) o
got_later x xs None = refl
got_later x xs (Some i) = refl

found : {A : Type 0} (test : A → Bool) (xs : List A) → option_and_then (slice_get xs) (position_from test 0 xs) ≡ find test xs
found test [] = refl
found test (x ∷ xs) =
    elim (test x) as (λ v. option_and_then (slice_get (x ∷ xs)) (cond v (Some 0) (position_from test 1 xs)) ≡ cond v (Some x) (find test xs)) [
      | true ↦ refl
      | false ↦ ap (option_and_then (slice_get (x ∷ xs))) (later test 0 xs) ∙ got_later x xs (position_from test 0 xs) ∙ found test xs
    ]

-- what stands at the place of an entry's parent is its parent
parent_there : (level : List Entry) (e : Entry) → option_and_then (slice_get level) (parent_place level e) ≡ parent_of level e
parent_there level e =
    elim (parent_name e.1) as (λ o. option_and_then (slice_get level) (option_and_then (class_place level) o) ≡ option_and_then (λ name. find (is_class name) level) o) [
      | None ↦ refl
      | Some name ↦ found (is_class name) level
    ]

-- ---- walks of entries

module _ (level : List Entry) where
  -- the walk of an entry, of one step and so many more
  abbrev pub walk_of : ℕ → Entry → Walk
  walk_of zero e = first_step level e
  walk_of (suc more) e = then_walk (map (walk_of more) level) (first_step level e)

  pub walks_of : (more : ℕ) → walks (map (first_step level) level) more ≡ map (walk_of more) level
  walks_of zero = refl
  walks_of (suc more) =
      ap (λ (ws : List Walk). map (then_walk ws) (map (first_step level) level)) (walks_of more)
      ∙ map-map (then_walk (map (walk_of more) level)) (first_step level) level

  first_sweep : (e : Entry) (place : Option ℕ) (parent : Option Entry) → (step_to e place parent).sweep ≡ sweep_below (λ (p : Entry). 0) e parent
  first_sweep e place None = refl
  first_sweep e place (Some parent) = sym (add-zero (rise (name_order e.0 parent.0)))

  next_sweep : (more : ℕ) (e : Entry) (place : Option ℕ) (parent : Option Entry) → option_and_then (slice_get level) place ≡ parent
      → ((p : Entry) → (walk_of more p).sweep ≡ sweep_within (suc more) level p)
      → (then_walk (map (walk_of more) level) (step_to e place parent)).sweep ≡ sweep_below (sweep_within (suc more) level) e parent
  next_sweep more e place None at h = refl
  next_sweep more e place (Some parent) at h =
      ap (λ (o : Option Walk). (walk_on (rise (name_order e.0 parent.0)) o).sweep) (got_map (walk_of more) level place ∙ ap (option_map (walk_of more)) at)
      ∙ ap (λ (n : ℕ). rise (name_order e.0 parent.0) + n) (h parent)

  -- its sweep is that of the entry as far as so many parents tell it
  pub walk_sweep : (more : ℕ) (e : Entry) → (walk_of more e).sweep ≡ sweep_within (suc more) level e
  walk_sweep zero e = first_sweep e (parent_place level e) (option_and_then (slice_get level) (parent_place level e)) ∙ ap (sweep_below (λ (p : Entry). 0) e) (parent_there level e)
  walk_sweep (suc more) e =
      next_sweep more e (parent_place level e) (option_and_then (slice_get level) (parent_place level e)) refl (walk_sweep more)
      ∙ ap (sweep_below (sweep_within (suc more) level) e) (parent_there level e)

  -- ---- entries with their sweeps

  -- an entry with its sweep
  abbrev pub rank_of : Entry → Ranked
  rank_of e = record { sweep = sweep level e; name = e.0; entry = e.1 }

  rise_small : (o : Ordering) → rise o ≤ 1
  rise_small Less = omega arith
  rise_small Equal = omega arith
  rise_small Greater = omega arith

  step_small : (e : Entry) (place : Option ℕ) (parent : Option Entry) → (step_to e place parent).sweep ≤ 1
  step_small e place None = omega arith
  step_small e place (Some parent) = rise_small (name_order e.0 parent.0)

  pub steps_small : (es : List Entry) → All (λ (step : Walk). step.sweep ≤ 1) (map (first_step level) es)
  steps_small es = All-map (λ (step : Walk). step.sweep ≤ 1) (first_step level) es (λ k d within.
      let e = get_or es k d in step_small e (parent_place level e) (option_and_then (slice_get level) (parent_place level e)))

-- an entry with the sweep of its walk
abbrev ranked_by : (Entry → Walk) → Entry → Ranked
ranked_by f e = record { sweep = (f e).sweep; name = e.0; entry = e.1 }

got_at : {A : Type 0} (before : List A) (x : A) (after : List A) → slice_get (before ++ x ∷ after) (length before) ≡ Some x
got_at [] x after = refl
got_at (y ∷ before) x after = got_at before x after

ranked_behind : (f : Entry → Walk) (before es : List Entry) → sweeps_from (map f (before ++ es)) (length before) es ≡ map (ranked_by f) es
ranked_behind f before [] = refl
ranked_behind f before (e ∷ es) =
    let ws = map f (before ++ e ∷ es) in
    let here : sweep_at ws (length before) ≡ (f e).sweep = ap sweep_in (slice_get-map f (before ++ e ∷ es) (length before) ∙ ap (option_map f) (got_at before e es)) in
    let more : (before ++ e ∷ []) ++ es ≡ before ++ e ∷ es = append_assoc before (e ∷ []) es in
    let rest : sweeps_from ws (length before + 1) es ≡ map (ranked_by f) es =
    rw (more, length_push before e) at (ranked_behind f (before ++ e ∷ []) es) in
    cc (here, rest)

-- the entries of a level with the sweeps of walks that are as long as the level
pub all_ranked : (level : List Entry) → sweeps_from (walks (map (first_step level) level) (length level - 1)) 0 level ≡ map (rank_of level) level
all_ranked [] = refl
all_ranked (e ∷ es) =
    let level : List Entry = e ∷ es in
    let far : length level - 1 ≡ length es = omega arith in
    ap (λ (n : ℕ). sweeps_from (walks (map (first_step level) level) n) 0 level) far
    ∙ ap (λ (ws : List Walk). sweeps_from ws 0 level) (walks_of level (length es))
    ∙ ranked_behind (walk_of level (length es)) [] level
    ∙ map_alike (ranked_by (walk_of level (length es))) (rank_of level) (λ x. ap (λ (n : ℕ). record { sweep = n; name = x.0; entry = x.1 }) (walk_sweep level (length es) x)) level
