-- Reading goes on, and the place at which the bytes end stays.
use Rattle.std.proofs.Common.{◌≡◌, ℕ, zero, suc, ◌+◌, ◌-◌, ◌*◌, ◌≤◌, Bool, true, false, List, [], ◌∷◌, length, take, drop, Option, Result, Ok, Err, refl, sym, ap, subst, ◌∙◌, arith, inl, inr, ltb, leb, eqb, if◌then◌else◌}
use Rattle.std.proofs.lemmas.Bool.{ltb-false, cases_Bool}
use Rattle.std.proofs.lemmas.List.{length-drop}
use Rattle.wasm_bytes.specs.Reading.{Input, ◌>>=◌, pure, fault, byte, first_of, allowed, frame}
use Rattle.wasm_bytes.specs.Numbers.{unsigned_from, number32}
use Rattle.wasm_bytes.specs.Items.{exactly}
use Rattle.wasm_bytes.proofs.ReadFinds.{steps_of, same_value, same_rest}
use Rattle.wasm_file.specs.Frames.{preamble_of, preamble, preamble_bytes, frame_name, inside_of, here, section_frame}
use Rattle.wasm_file.specs.declared.entries.Section.{Section}

-- what is left begins no earlier, and ends where it ended
abbrev pub IsFurther : Input → Input → Type 0
IsFurther s t = (s.place ≤ t.place) × (t.place + length t.bytes ≡ s.place + length s.bytes)

pub record Goes {A : Type 0} (reader : Input → Result (A × Input) ℕ) : Type 0 where
  pub on : (s t : Input) (x : A) → reader s ≡ Ok (x, t) → IsFurther s t

still : (s : Input) → IsFurther s s
still s = (omega arith, refl)

pub goes_pure : {A : Type 0} (x : A) → Goes (pure x)
goes_pure {A} x = record { on = λ s t y is. subst (λ (t : Input). IsFurther s t) (same_rest x y s t is) (still s) }

pub goes_fault : {A : Type 0} (place : ℕ) → Goes {A = A} (fault place)
goes_fault {A} place = record { on = λ s t y is. absurd (grind (arith, is)) }

pub goes_bind : {A B : Type 0} {r : Input → Result (A × Input) ℕ} {f : A → Input → Result (B × Input) ℕ} → Goes r → ((x : A) → Goes (f x)) → Goes (r >>= f)
goes_bind {A} {B} {r} {f} first second = record {
  on = λ s u y is.
      let p = steps_of (r s) f y u is in
      let a = first.on s p.1 p.0 p.2 in
      let b = (second p.0).on p.1 u y p.3 in
      (omega (arith, a.0, b.0), b.1 ∙ a.1);
}

pub goes_if : {A : Type 0} {r q : Input → Result (A × Input) ℕ} (t : Bool) → Goes r → Goes q → Goes (if t then r else q)
goes_if true one other = one
goes_if false one other = other

byte_on : (place : ℕ) (bytes : List ℕ) (t : Input) (x : ℕ) → first_of place bytes ≡ Ok (x, t) → IsFurther (record { place = place; bytes = bytes }) t
byte_on place [] t x is = absurd (grind (arith, is))
byte_on place (b ∷ bytes) t x is = subst (λ (t : Input). IsFurther (record { place = place; bytes = b ∷ bytes }) t) (same_rest b x (record { place = place + 1; bytes = bytes }) t is) (omega arith, omega arith)

pub goes_byte : Goes byte
goes_byte = record { on = λ s t x is. byte_on s.place s.bytes t x is }

pub goes_allowed : {A : Type 0} {r : Input → Result (A × Input) ℕ} (test : A → Bool) → Goes r → Goes (allowed test r)
goes_allowed {A} {r} test h = record {
  on = λ s t y is.
      let p = steps_of (r s) (λ x rest. if test x then Ok (x, rest) else Err s.place) y t is in
      let a = h.on s p.1 p.0 p.2 in
      elim (cases_Bool (test p.0)) [
        | inl holds ↦ let kept : ◌≡◌ {A = Result (A × Input) ℕ} (Ok (p.0, p.1)) (Ok (y, t)) = rw holds at p.3 in subst (λ (t : Input). IsFurther s t) (same_rest p.0 y p.1 t kept) a
        | inr fails ↦ let lost : ◌≡◌ {A = Result (A × Input) ℕ} (Err s.place) (Ok (y, t)) = rw fails at p.3 in absurd (grind (arith, lost))
      ];
}

pub goes_frame : (n : ℕ) → Goes (frame n)
goes_frame n = record {
  on = λ s t inside is.
      elim (cases_Bool (ltb (length s.bytes) n)) [
        | inl short ↦ let lost : ◌≡◌ {A = Result (Input × Input) ℕ} (Err (s.place + length s.bytes)) (Ok (inside, t)) = rw short at is in absurd (grind (arith, lost))
        | inr long ↦
            let kept : ◌≡◌ {A = Result (Input × Input) ℕ} (Ok (record { place = s.place; bytes = take n s.bytes }, record { place = s.place + n; bytes = drop n s.bytes })) (Ok (inside, t)) = rw long at is in
            let fits = ltb-false (length s.bytes) n long in
            subst (λ (t : Input). IsFurther s t) (same_rest (record { place = s.place; bytes = take n s.bytes }) inside (record { place = s.place + n; bytes = drop n s.bytes }) t kept) (omega arith, omega (arith, fits, length-drop n s.bytes))
      ];
}

unsigned_goes : (start more last : ℕ) → Goes (unsigned_from start more last)
unfolding unsigned_from
unsigned_goes start zero last = goes_bind goes_byte (λ b. goes_if (ltb b last) (goes_pure b) (goes_fault start))
unsigned_goes start (suc more) last = goes_bind goes_byte (λ b. goes_if (ltb b 128) (goes_pure b) (goes_bind (unsigned_goes start more last) (λ high. goes_pure (b - 128 + 128 * high))))

pub goes_number32 : Goes number32
unfolding number32
goes_number32 = record { on = λ s t n is. (unsigned_goes s.place 4 16).on s t n is }

pub goes_preamble_of : (bytes : List ℕ) → Goes (preamble_of bytes)
unfolding preamble_of exactly
goes_preamble_of [] = goes_pure tt
goes_preamble_of (b ∷ bytes) = goes_bind (goes_allowed (λ x. eqb x b) goes_byte) (λ x. goes_preamble_of bytes)

pub goes_preamble : Goes preamble
unfolding preamble
goes_preamble = goes_preamble_of preamble_bytes

goes_inside : {A : Type 0} (inside : Input) (content : Input → Result (A × Input) ℕ) → Goes (inside_of inside content)
goes_inside {A} inside content = record {
  on = λ s t y is.
      let p = steps_of (content inside) (λ x _. Ok (x, s)) y t is in
      subst (λ (t : Input). IsFurther s t) (same_rest p.0 y s t p.3) (still s);
}

-- ---- a section

-- What is read begins at this place, and ends where what is left begins.
pub record Spans (reader : Input → Result (Section × Input) ℕ) (begin : ℕ) : Type 0 where
  pub spans : (s t : Input) (f : Section) → reader s ≡ Ok (f, t) → (f.begin ≡ begin) × (f.end ≡ t.place) × IsFurther s t

spans_bind : {A : Type 0} {r : Input → Result (A × Input) ℕ} {f : A → Input → Result (Section × Input) ℕ} {begin : ℕ} → Goes r → ((x : A) → Spans (f x) begin) → Spans (r >>= f) begin
spans_bind {A} {r} {f} {begin} first second = record {
  spans = λ s u y is.
      let p = steps_of (r s) f y u is in
      let a = first.on s p.1 p.0 p.2 in
      let b = (second p.0).spans p.1 u y p.3 in
      (b.0, b.1, (omega (arith, a.0, b.2.0), b.2.1 ∙ a.1));
}

spans_end : (id : ℕ) (name : Option (List ℕ)) (begin : ℕ) → Spans (here >>= (λ end. pure (record { id = id; name = name; begin = begin; end = end }))) begin
spans_end id name begin = record {
  spans = λ s t f is.
      let made : Section = record { id = id; name = name; begin = begin; end = s.place } in
      let same : made ≡ f = same_value made f s t is in
      let rest : s ≡ t = same_rest made f s t is in
      (sym (ap (λ (f : Section). f.begin) same), sym (ap (λ (f : Section). f.end) same) ∙ ap (λ (s : Input). s.place) rest, subst (λ (t : Input). IsFurther s t) rest (still s));
}

section_spans : (begin : ℕ) → Spans (allowed (λ b. leb b 13) byte >>= (λ id. number32 >>= (λ len. frame len >>= (λ inside. inside_of inside (frame_name id) >>= (λ n. here >>= (λ end. pure (record { id = id; name = n; begin = begin; end = end }))))))) begin
section_spans begin =
    spans_bind (goes_allowed (λ b. leb b 13) goes_byte) (λ id.
    spans_bind goes_number32 (λ len.
    spans_bind (goes_frame len) (λ inside.
    spans_bind (goes_inside inside (frame_name id)) (λ n. spans_end id n begin))))

pub section_at : (s t : Input) (f : Section) → section_frame s ≡ Ok (f, t) → (f.begin ≡ s.place) × (f.end ≡ t.place) × IsFurther s t
unfolding section_frame
section_at s t f is = (section_spans s.place).spans s t f is
