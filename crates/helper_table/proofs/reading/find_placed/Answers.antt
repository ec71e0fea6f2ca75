use Rattle.std.proofs.Common.{◌≡◌, ℕ, ◌++◌, List, ◌∙◌, ap, sym, arith, inl, inr}
use Rattle.std.specs.Fmt.{decimal}
use Rattle.std.proofs.lemmas.Bool.{cases_lt}
use Rattle.helper_table.proofs.reading.find_placed.Goals as goal
use Rattle.helper_table.specs.Names.{family_stem_at}

pub loop-place-preserved : goal.loop-place-preserved
loop-place-preserved c = λ p n lt small is. elim (cases_lt p c.loop-place.place) [
  | inl below ↦ c.loop-place.invariant p n below small is
  | inr le ↦
      let same : p ≡ c.loop-place.place = omega (arith, le, lt) in
      let told = rw c.in_default.is at c.in_ok-number.ensures.place in
      told n small (is ∙ ap (λ (q : ℕ). family_stem_at q ++ decimal n) same ∙ ap (λ (x : List ℕ). x ++ decimal n) (sym c.text_at-stem.ensures.text))
]

pub returns : goal.returns
returns c = record { placed = λ p n lt small is. c.loop-place.invariant p n (omega (arith, lt, c.loop-place-test.false)) small is }
