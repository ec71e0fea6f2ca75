-- Counts with one text more.
use Rattle.std.proofs.Common.{◌≡◌, ℕ, ◌+◌, List, [], ◌∷◌, ◌++◌, Bool, true, false, cond, refl, ap, sym, ◌∙◌, arith}
use Rattle.std.specs.Prelude.{Option, Some, if◌then◌else◌}
use Rattle.std.specs.Option.{unwrap_or}
use Rattle.std.specs.Str.{bytes_eq}
use Rattle.std.specs.Ordering.{nat_cmp, eq_by_cmp}
use Rattle.std.specs.BTreeMap.{insert_entry}
use Rattle.std.specs.Cmp.Lexicographic.{slice_cmp, nat_list_cmp_total, nat_list_eq_equiv}
use Rattle.std.proofs.lemmas.Map.Text.{is_eq-slice_cmp}
use Rattle.std.proofs.lemmas.Slice.Eq.{bytes_eq-Decides}
use Rattle.values.specs.Map.{look_up}
use Rattle.values.proofs.Maps.{look_up_inserted}
use Rattle.func_names.specs.Counted.{AreCounted}
use Rattle.func_names.specs.Numbered.{times}

-- a text behind others
times_more : (text last : List ℕ) (texts : List (List ℕ)) → times text (texts ++ last ∷ []) ≡ times text texts + (if bytes_eq last text then 1 else 0)
times_more text last [] = omega arith
times_more text last (other ∷ texts) = let e = times_more text last texts in omega (arith, e)

module _ (counts : List (List ℕ × ℕ)) (given : List (List ℕ)) (path : List ℕ) (h : AreCounted counts given) where
  by : (other : List ℕ) (b : Bool) → bytes_eq path other ≡ b
      → unwrap_or (cond b (Some (times path given + 1)) (look_up (slice_cmp nat_cmp) counts other)) 0 ≡ times other given + (if b then 1 else 0)
  by other true e = let same : path ≡ other = (bytes_eq-Decides path other).0 e in ap (λ (text : List ℕ). times text given + 1) same
  by other false e = let none : times other given + 0 ≡ times other given = omega arith in h other ∙ sym none

  pub counted_more : AreCounted (insert_entry (slice_cmp nat_cmp) counts path (times path given + 1)) (given ++ path ∷ [])
  counted_more other =
      let same : eq_by_cmp (slice_cmp nat_cmp) other path ≡ bytes_eq path other = is_eq-slice_cmp other path ∙ nat_list_eq_equiv.symm other path in
      ap (λ (o : Option ℕ). unwrap_or o 0) (look_up_inserted (slice_cmp nat_cmp) nat_list_cmp_total counts path (times path given + 1) other)
      ∙ ap (λ (b : Bool). unwrap_or (cond b (Some (times path given + 1)) (look_up (slice_cmp nat_cmp) counts other)) 0) same
      ∙ by other (bytes_eq path other) refl ∙ sym (times_more other path given)
