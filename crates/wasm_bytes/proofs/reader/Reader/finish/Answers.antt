use Rattle.std.proofs.Common.{◌≡◌, ◌==◌, ℕ, List, [], ◌∷◌, Ok, Err, true, false, true≢false, length, refl, sym, ◌∙◌, arith}
use Rattle.std.proofs.lemmas.Bool.{eqb-true}
use Rattle.wasm_bytes.specs.Reading.{nothing_at}
use Rattle.wasm_bytes.proofs.reader.Reader.finish.Goals as goal
use Rattle.wasm_bytes.proofs.reader.Reader.finish.Goals.{then-is_empty, else-is_empty}

left_none : (place : ℕ) (bytes : List ℕ) → (length bytes == 0) ≡ true → nothing_at place bytes ≡ Ok (tt, record { place = place; bytes = bytes })
left_none place [] h = refl
left_none place (b ∷ bytes) h = absurd (omega (arith, eqb-true (length (b ∷ bytes)) 0 h))

left_some : (place : ℕ) (bytes : List ℕ) → (length bytes == 0) ≡ false → nothing_at place bytes ≡ Err place
left_some place [] h = absurd (true≢false h)
left_some place (b ∷ bytes) h = refl

pub returns-clause-value : goal.returns-clause-value
returns-clause-value c = elim c.if-is_empty.branch [
  | then-is_empty w ↦ rw (w.result-is, ← c.self.view_is) (left_none _ _ (sym c.is_empty.ensures ∙ w.if-is_empty.true))
  | else-is_empty w ↦ rw (w.result-is, ← c.self.view_is) (left_some _ _ (sym c.is_empty.ensures ∙ w.if-is_empty.false))
]
