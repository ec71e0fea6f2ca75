-- Walks of many steps: how they are joined, and how far their sweeps go.
use Rattle.std.proofs.Common.{◌≡◌, ◌≢◌, ◌*◌, ◌+◌, ◌-◌, ◌/◌, ◌%◌, ◌<◌, ◌≤◌, ◌∙◌, All, List, None, Option, Some, [], ap, add_assoc, arith, length, map, option_map, refl, subst, suc, sym, zero, zero-add, ℕ, ◌∷◌}
use Rattle.std.proofs.lemmas.List.Elements.{All-map, All-weaker}
use Rattle.std.proofs.lemmas.List.{length-map}
use Rattle.std.proofs.lemmas.Option.{get_or_from_slice_get, slice_get-map, slice_get_within}
use Rattle.std.proofs.Math.Nat.{mul-le-mul_left}
use Rattle.std.proofs.lemmas.Simd.{map-map}
use Rattle.std.specs.Option.{option_and_then}
use Rattle.std.specs.Prelude.{slice_get}
use Rattle.glue_order.specs.declared.walks.Walk.{Walk}
use Rattle.glue_order.specs.Walks.{then_walk, walk_on, walks}

-- ---- lists that are made alike

pub map_alike : {A B : Type 0} (f g : A → B) → ((x : A) → f x ≡ g x) → (xs : List A) → map f xs ≡ map g xs
map_alike f g h [] = refl
map_alike f g h (x ∷ xs) = cc (h x, map_alike f g h xs)

-- ---- joined walks

pub got_map : {A B : Type 0} (f : A → B) (xs : List A) (o : Option ℕ)
    → option_and_then (slice_get (map f xs)) o ≡ option_map f (option_and_then (slice_get xs) o)
got_map f xs None = refl
got_map f xs (Some i) = slice_get-map f xs i

-- two walks behind another are one walk behind it
on_behind : (far : List Walk) (sweep : ℕ) (o : Option Walk) → then_walk far (walk_on sweep o) ≡ walk_on sweep (option_map (then_walk far) o)
on_behind far sweep None = refl
on_behind far sweep (Some next) =
    let more : (o : Option Walk) → walk_on (sweep + next.sweep) o ≡ walk_on sweep (Some (walk_on next.sweep o)) = λ o.
    elim o as (λ p. walk_on (sweep + next.sweep) p ≡ walk_on sweep (Some (walk_on next.sweep p))) [
      | None ↦ refl
      | Some last ↦ ap (λ (n : ℕ). record { end = last.end; sweep = n }) (add_assoc sweep next.sweep last.sweep)
    ] in
    more (option_and_then (slice_get far) next.end)

behind : (far near : List Walk) (walk : Walk) → then_walk far (then_walk near walk) ≡ then_walk (map (then_walk far) near) walk
behind far near walk =
    on_behind far walk.sweep (option_and_then (slice_get near) walk.end) ∙ ap (walk_on walk.sweep) (sym (got_map (then_walk far) near walk.end))

-- walks joined with longer ones are as long as both together
pub joined_walks : (steps : List Walk) (a b : ℕ) → map (then_walk (walks steps b)) (walks steps a) ≡ walks steps (suc (a + b))
joined_walks steps zero b = ap (λ (n : ℕ). map (then_walk (walks steps n)) steps) (sym (zero-add b))
joined_walks steps (suc a) b =
    let more : suc (a + b) ≡ suc a + b = omega arith in
    map-map (then_walk (walks steps b)) (then_walk (walks steps a)) steps
    ∙ map_alike (λ w. then_walk (walks steps b) (then_walk (walks steps a) w)) (then_walk (map (then_walk (walks steps b)) (walks steps a))) (behind (walks steps b) (walks steps a)) steps
    ∙ ap (λ (ws : List Walk). map (then_walk ws) steps) (joined_walks steps a b ∙ ap (walks steps) more)

-- as many as there are entries
walks_long : (steps : List Walk) (more : ℕ) → length (walks steps more) ≡ length steps
walks_long steps zero = refl
walks_long steps (suc more) = length-map steps (then_walk (walks steps more))

-- ---- how far sweeps go

abbrev pub AreWithin : ℕ → List Walk → Type 0
AreWithin most = All (λ (w : Walk). w.sweep ≤ most)

-- a walk behind another goes no further than both together
on_within : (most sweep : ℕ) (ws : List Walk) (o : Option ℕ) → AreWithin most ws → (walk_on sweep (option_and_then (slice_get ws) o)).sweep ≤ sweep + most
on_within most sweep ws None h = omega arith
on_within most sweep ws (Some i) h =
    let at : (o : Option Walk) → slice_get ws i ≡ o → (walk_on sweep o).sweep ≤ sweep + most = λ o.
    elim o as (λ p. slice_get ws i ≡ p → (walk_on sweep p).sweep ≤ sweep + most) [
      | None ↦ λ got. omega arith
      | Some w ↦ λ got. let less : w.sweep ≤ most = subst (λ (x : Walk). x.sweep ≤ most) (get_or_from_slice_get ws i w w got) (h i w (slice_get_within ws i w got)) in omega arith
    ] in
    at (slice_get ws i) refl

pub walks_within : (steps : List Walk) → AreWithin 1 steps → (more : ℕ) → AreWithin (suc more) (walks steps more)
walks_within steps h zero = h
walks_within steps h (suc more) =
    let ws = walks steps more in
    let far = walks_within steps h more in
    All-map (λ (w : Walk). w.sweep ≤ suc (suc more)) (then_walk ws) steps
    (All-weaker (λ (w : Walk). w.sweep ≤ 1) (λ (w : Walk). (then_walk ws w).sweep ≤ suc (suc more)) (λ w le. omega (arith, on_within (suc more) w.sweep ws w.end far)) steps h)

-- walks that can be joined
pub sums_fit : (most other limit : ℕ) (ws others : List Walk) → AreWithin most ws → AreWithin other others → most + other < limit
    → All (λ (w : Walk). All (λ (next : Walk). w.sweep + next.sweep < limit) others) ws
sums_fit most other limit ws others h k fits i d within = λ j e inside. omega (arith, h i d within, k j e inside)

-- ---- walks that are joined step by step

-- The walks so far, and others that are still to be joined to them so many times: then they have as many steps as there are entries.
pub record AreFar (steps ws longer : List Walk) (left : ℕ) : Type 0 where
  pub done : ℕ
  pub ahead : ℕ
  pub walked : ws ≡ walks steps done
  pub walking : longer ≡ walks steps ahead
  pub sum : done + suc ahead * left ≡ length steps - 1

-- the same, where the others are still to be joined twice so many times
pub record AreNear (steps ws longer : List Walk) (half : ℕ) : Type 0 where
  pub done : ℕ
  pub ahead : ℕ
  pub walked : ws ≡ walks steps done
  pub walking : longer ≡ walks steps ahead
  pub sum : done + 2 * (suc ahead * half) ≡ length steps - 1

pub far_first : (steps : List Walk) → AreFar steps steps steps (length steps - 1)
far_first steps = record { done = 0; ahead = 0; walked = refl; walking = refl; sum = omega arith }

module _ {steps ws longer : List Walk} where
  -- the others are joined once
  pub far_joined : (left : ℕ) (joined : List Walk) → left % 2 ≡ 1 → joined ≡ map (then_walk longer) ws → AreFar steps ws longer left → AreNear steps joined longer (left / 2)
  far_joined left joined odd is f = record {
    done = suc (f.done + f.ahead);
    ahead = f.ahead;
    walked = is ∙ ap (λ (vs : List Walk). map (then_walk vs) ws) f.walking ∙ ap (map (then_walk (walks steps f.ahead))) f.walked ∙ joined_walks steps f.done f.ahead;
    walking = f.walking;
    sum = let halves : left ≡ 2 * (left / 2) + 1 = omega arith in let whole : suc f.ahead * left ≡ suc f.ahead * (2 * (left / 2) + 1) = ap (λ (n : ℕ). suc f.ahead * n) halves in omega (arith, f.sum);
  }

  -- or not
  pub far_even : (left : ℕ) → left % 2 ≢ 1 → AreFar steps ws longer left → AreNear steps ws longer (left / 2)
  far_even left even f = record {
    done = f.done;
    ahead = f.ahead;
    walked = f.walked;
    walking = f.walking;
    sum = let halves : left ≡ 2 * (left / 2) = omega arith in let whole : suc f.ahead * left ≡ suc f.ahead * (2 * (left / 2)) = ap (λ (n : ℕ). suc f.ahead * n) halves in omega (arith, f.sum);
  }

  -- the others are joined to themselves
  pub near_doubled : (half : ℕ) (doubled : List Walk) → doubled ≡ map (then_walk longer) longer → AreNear steps ws longer half → AreFar steps ws doubled half
  near_doubled half doubled is f = record {
    done = f.done;
    ahead = suc (f.ahead + f.ahead);
    walked = f.walked;
    walking = is ∙ ap (λ (vs : List Walk). map (then_walk vs) longer) f.walking ∙ ap (map (then_walk (walks steps f.ahead))) f.walking ∙ joined_walks steps f.ahead f.ahead;
    sum = omega (arith, f.sum);
  }

  -- nothing is left
  pub far_done : AreFar steps ws longer 0 → ws ≡ walks steps (length steps - 1)
  far_done f = f.walked ∙ ap (walks steps) (omega (arith, f.sum))

  -- those that are joined fit
  pub far_fits : (limit left : ℕ) → AreWithin 1 steps → length ws < limit → 0 < left → AreFar steps ws longer left
      → All (λ (w : Walk). All (λ (next : Walk). w.sweep + next.sweep < limit) longer) ws
  far_fits limit left small fits more f =
      let long : length ws ≡ length steps = ap length f.walked ∙ walks_long steps f.done in
      let whole : suc f.ahead * 1 ≤ suc f.ahead * left = mul-le-mul_left (suc f.ahead) more in
      sums_fit (suc f.done) (suc f.ahead) limit ws longer
      (subst (AreWithin (suc f.done)) (sym f.walked) (walks_within steps small f.done))
      (subst (AreWithin (suc f.ahead)) (sym f.walking) (walks_within steps small f.ahead))
      (omega (arith, f.sum))

  pub far_doubles : (limit left : ℕ) → AreWithin 1 steps → 2 * length longer < limit → 0 < left → AreFar steps ws longer left
      → All (λ (w : Walk). All (λ (next : Walk). w.sweep + next.sweep < limit) longer) longer
  far_doubles limit left small fits more f =
      let long : length longer ≡ length steps = ap length f.walking ∙ walks_long steps f.ahead in
      let whole : suc f.ahead * 1 ≤ suc f.ahead * left = mul-le-mul_left (suc f.ahead) more in
      let within = subst (AreWithin (suc f.ahead)) (sym f.walking) (walks_within steps small f.ahead) in
      sums_fit (suc f.ahead) (suc f.ahead) limit longer longer within within (omega (arith, f.sum))
