-- The frames of a file stand in it.
use Rattle.std.proofs.Common.{◌≡◌, ℕ, zero, suc, List, [], ◌∷◌, ◌++◌, length, Result, Ok, Err, ap, subst, ◌∙◌, arith, inl, inr, eqb}
use Rattle.std.specs.List.{All}
use Rattle.std.proofs.lemmas.Bool.{cases_Bool}
use Rattle.std.proofs.lemmas.List.Elements.{All-nil, All-push}
use Rattle.wasm_bytes.specs.Reading.{Input, followed, value_of, until_end, end_of}
use Rattle.wasm_bytes.proofs.ReadFinds.{steps_of, same_value, same_rest}
use Rattle.wasm_file.specs.Frames.{section_frame, next_frame, all_frames, frames_of, preamble}
use Rattle.wasm_file.specs.declared.entries.Section.{Section}
use Rattle.wasm_sections.specs.Replaced.{IsInside}
use Rattle.wasm_sections.proofs.Places.{goes_preamble, section_at}

value_or : {A : Type 0} → A → Result A ℕ → A
value_or d (Ok x) = x
value_or d (Err place) = d

-- the reading behind a value
valued : {A : Type 0} (r : Result (A × Input) ℕ) (x : A) → value_of r ≡ Ok x → (t : Input) × (r ≡ Ok (x, t))
unfolding value_or
valued (Ok p) x is = (p.1, ap (λ y. Ok (y, p.1)) (ap (value_or p.0) is))
valued (Err place) x is = absurd (grind (arith, is))

next_inside : (len : ℕ) (found next : List Section) (s t : Input) → end_of s ≡ len → All (IsInside len) found → next_frame found s ≡ Ok (next, t) → All (IsInside len) next × (end_of t ≡ len)
unfolding next_frame
next_inside len found next s t ends all is =
    let p = steps_of (section_frame s) (λ f t. Ok (found ++ f ∷ [], t)) next t is in
    let a = section_at s p.1 p.0 p.2 in
    let rest : p.1 ≡ t = same_rest (found ++ p.0 ∷ []) next p.1 t p.3 in
    let inside : IsInside len p.0 = (omega (arith, a.0, a.1, a.2.0), omega (arith, a.1, a.2.1, ends)) in (
      subst (All (IsInside len)) (same_value (found ++ p.0 ∷ []) next p.1 t p.3) (All-push (IsInside len) found p.0 all inside),
      subst (λ (t : Input). end_of t ≡ len) rest (a.2.1 ∙ ends),
    )

until_inside : (n len : ℕ) (found fs : List Section) (s t : Input) → end_of s ≡ len → All (IsInside len) found → until_end n next_frame found s ≡ Ok (fs, t) → All (IsInside len) fs
unfolding until_end
until_inside zero len found fs s t ends all is = subst (All (IsInside len)) (same_value found fs s t is) all
until_inside (suc n) len found fs s t ends all is =
    elim (cases_Bool (eqb (length s.bytes) 0)) [
      | inl none ↦ let kept : ◌≡◌ {A = Result (List Section × Input) ℕ} (Ok (found, s)) (Ok (fs, t)) = rw none at is in subst (All (IsInside len)) (same_value found fs s t kept) all
      | inr some ↦
          let more : followed (next_frame found s) (until_end n next_frame) ≡ Ok (fs, t) = rw some at is in
          let p = steps_of (next_frame found s) (until_end n next_frame) fs t more in
          let q = next_inside len found p.0 s p.1 ends all p.2 in
          until_inside n len p.0 fs p.1 t q.1 q.0 p.3
    ]

pub frames_inside : (wasm : List ℕ) (fs : List Section) → frames_of wasm ≡ Ok fs → All (IsInside (length wasm)) fs
unfolding frames_of all_frames
frames_inside wasm fs is =
    let start : Input = record { place = 0; bytes = wasm } in
    let v = valued (all_frames start) fs is in
    let p = steps_of (preamble start) (λ _ s. until_end (length s.bytes) next_frame [] s) fs v.0 v.1 in
    let a = goes_preamble.on start p.1 p.0 p.2 in
    until_inside (length p.1.bytes) (length wasm) [] fs p.1 v.0 (omega (arith, a.1)) (All-nil (IsInside (length wasm))) p.3
