-- Each entry stands behind its parent.
use Rattle.std.proofs.Common.{◌≡◌, ◌≢◌, ◌+◌, ◌<◌, ◌∙◌, Bool, List, None, Option, Ordering, Some, ap, arith, inl, inr, length, nat_cmp, refl, suc, sym, true, true≢false, zero, ℕ}
use Rattle.std.specs.Cmp.{IsTotalOrder, nat_cmp_is}
use Rattle.std.specs.Ordering.{is_eq, is_lt, ordering_reverse, ordering_then}
use Rattle.std.specs.declared.cmp.Ordering.TheVariants.{Equal, Greater, Less}
use Rattle.std.proofs.lemmas.Bool.{cases_lt}
use Rattle.std.proofs.lemmas.Cmp.{nat_cmp_total, nat_list_cmp_total, on_total, then_total}
use Rattle.std.proofs.lemmas.List.Sorted.{ranks_by, sorted_far}
use Rattle.std.proofs.lemmas.Map.Text.{is_eq-slice_cmp}
use Rattle.std.proofs.lemmas.Option.{get_or_from_slice_get, slice_get_within}
use Rattle.std.proofs.lemmas.Slice.Eq.{bytes_eq-Decides}
use Rattle.glue_order.specs.Order.{AreBehindParents, Entry, IsArranged, ends_below, ends_within, entry_order, name_order, parent_of, rise, sweep, sweep_below, sweep_within}

-- by sweep, and then by name, where sweeps rise with a name that is less
by_sweep : (s t : ℕ) (o back : Ordering) → s ≡ rise o + t → back ≡ ordering_reverse o → o ≢ Equal → ordering_then (nat_cmp t s) back ≡ Less
by_sweep s t Less back from turned other = let below : t < s = omega (arith, from) in ap (λ (r : Ordering). ordering_then r back) (sym (nat_cmp_is t s Less below))
by_sweep s t Equal back from turned other = absurd (other refl)
by_sweep s t Greater back from turned other = let same : t ≡ s = omega (arith, from) in ap (λ (r : Ordering). ordering_then r back) (sym (nat_cmp_is t s Equal same)) ∙ turned

module _ (level : List Entry) where
  -- where parents end, more of them tell nothing more
  settled : (count : ℕ) (e : Entry) → ends_within count level e ≡ true → sweep_within (suc count) level e ≡ sweep_within count level e
  settled zero e ends = absurd (true≢false (sym ends))
  settled (suc count) e ends =
      let below : (o : Option Entry) → ends_below (ends_within count level) o ≡ true → sweep_below (sweep_within (suc count) level) e o ≡ sweep_below (sweep_within count level) e o = λ o.
      elim o as (λ p. ends_below (ends_within count level) p ≡ true → sweep_below (sweep_within (suc count) level) e p ≡ sweep_below (sweep_within count level) e p) [
        | None ↦ λ h. refl
        | Some parent ↦ λ h. ap (λ (n : ℕ). rise (name_order e.0 parent.0) + n) (settled count parent h)
      ] in
      below (parent_of level e) ends

  -- the sweep of an entry from that of its parent
  from_parent : (count : ℕ) (e parent : Entry) → parent_of level e ≡ Some parent → ends_within count level e ≡ true
      → sweep_within count level e ≡ rise (name_order e.0 parent.0) + sweep_within count level parent
  from_parent zero e parent is ends = absurd (true≢false (sym ends))
  from_parent (suc count) e parent is ends =
      ap (sweep_below (sweep_within count level) e) is
      ∙ ap (λ (n : ℕ). rise (name_order e.0 parent.0) + n) (sym (settled count parent (sym (ap (ends_below (ends_within count level)) is) ∙ ends)))

  -- a parent is less than an entry of another name
  parent_less : (e parent : Entry) → sweep level e ≡ rise (name_order e.0 parent.0) + sweep level parent → e.0 ≢ parent.0 → entry_order level parent e ≡ Less
  parent_less e parent from other =
      by_sweep (sweep level e) (sweep level parent) (name_order e.0 parent.0) (name_order parent.0 e.0) from (nat_list_cmp_total.antisymm parent.0 e.0)
      (λ tied. other ((bytes_eq-Decides e.0 parent.0).0 (sym (is_eq-slice_cmp e.0 parent.0) ∙ ap is_eq tied)))

  pub behind_parents : (arranged : List Entry) → IsArranged (entry_order level) level arranged → AreBehindParents level arranged
  behind_parents arranged a i j e parent here there is ends other =
      let total : IsTotalOrder (entry_order level) = then_total (on_total (sweep level) nat_cmp_total) (on_total (λ (x : Entry). x.0) nat_list_cmp_total) in
      let less : Entry → Entry → Bool = λ x y. is_lt (entry_order level x y) in
      let before : less parent e ≡ true = ap is_lt (parent_less e parent (from_parent (length level) e parent is ends) other) in
      elim (cases_lt j i) [
        | inl near ↦ near
        | inr far ↦ let up = sorted_far less (ranks_by total (λ (x : Entry). x)) arranged a.rises i j e far (slice_get_within arranged j parent there) in
            absurd (true≢false (sym before ∙ rw (get_or_from_slice_get arranged j parent e there, get_or_from_slice_get arranged i e e here) at up))
      ]
