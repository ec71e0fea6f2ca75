-- The set of the keys of a map.
use Rattle.std.proofs.Common.{◌≡◌, ℕ, List, refl, ap, sym, ◌∙◌, true, false, Bool, cond}
use Rattle.std.specs.Prelude.{◌||◌, is_some, Some, Option}
use Rattle.std.specs.Ordering.{nat_cmp, eq_by_cmp}
use Rattle.std.specs.Cmp.Lexicographic.{slice_cmp, nat_list_cmp_total}
use Rattle.std.specs.FinMap as finite
use Rattle.std.specs.FinSet as set
use Rattle.glue_scope.specs.Scope.{Numbers}
use Rattle.glue_scope.specs.Scope.{key_set}

pub contains-key_set : (numbers : Numbers) (q : List ℕ) → set.contains (key_set numbers) q ≡ is_some (finite.get numbers q)
unfolding key_set
contains-key_set numbers q =
    set.contains-from_list nat_list_cmp_total (finite.keys numbers) q ∙ sym (finite.contains_key-keys numbers q)

some_or : (b : Bool) (v : ℕ) (x : Option ℕ) → is_some (cond b (Some v) x) ≡ (b || is_some x)
some_or true v x = refl
some_or false v x = refl

pub key_set-insert : (numbers : Numbers) (k : List ℕ) (v : ℕ) → key_set (finite.insert numbers k v) ≡ set.insert (key_set numbers) k
key_set-insert numbers k v =
    set.same_set nat_list_cmp_total (set.slice_cmp-IsAntisymmetric set.nat_cmp-IsAntisymmetric) _ _ (λ q.
    contains-key_set (finite.insert numbers k v) q
    ∙ ap is_some (finite.get-insert nat_list_cmp_total numbers k v q)
    ∙ some_or (eq_by_cmp (slice_cmp nat_cmp) q k) v (finite.get numbers q)
    ∙ ap (λ b. eq_by_cmp (slice_cmp nat_cmp) q k || b) (sym (contains-key_set numbers q))
    ∙ sym (set.contains-insert nat_list_cmp_total (key_set numbers) k q))

pub key_set-empty : key_set finite.empty ≡ set.empty
key_set-empty =
    set.same_set nat_list_cmp_total (set.slice_cmp-IsAntisymmetric set.nat_cmp-IsAntisymmetric) _ _ (λ q.
    contains-key_set finite.empty q ∙ ap is_some (finite.get-empty (slice_cmp nat_cmp) q) ∙ sym (set.contains-empty (slice_cmp nat_cmp) q))
