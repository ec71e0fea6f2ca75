-- What is read has a property: one step after another, numbers and lists.
use Rattle.std.proofs.Common.{◌≡◌, ℕ, zero, suc, ◌+◌, ◌-◌, ◌*◌, ◌^◌, ◌<◌, ◌≤◌, Bool, true, false, ◌&&◌, List, [], ◌∷◌, length, take, drop, Option, Some, None, Result, Ok, Err, refl, sym, ap, subst, ◌∙◌, arith, inl, inr, ltb, leb, if◌then◌else◌}
use Rattle.std.specs.Prelude.{pos, ◌+ℤ◌, ◌*ℤ◌, ◌⊎◌}
use Rattle.std.specs.List.{AllByRecursion}
use Rattle.std.proofs.lemmas.Bool.{le-ltb, lt-ltb, ltb-true, ltb-false, leb-true, cases_lt, cases_Bool}
use Rattle.std.proofs.lemmas.List.{length-take-le}
use Rattle.wasm_bytes.specs.Reading.{Input, followed, ◌>>=◌, pure, fault, byte, first_of, raw, allowed, meant, or_fault, entries, frame, within, part, filled, nothing_left, gathered}
use Rattle.wasm_bytes.specs.Numbers.{unsigned_from, number32, number64}
use Rattle.wasm_bytes.specs.Signed.{signed_from, signed32, signed33, signed64, signed_digit, last_allowed, IsWithin}
use Rattle.wasm_bytes.specs.Items.{index}
use Rattle.wasm_bytes.specs.Reads.{AreBytes, Finds}
use Rattle.wasm_bytes.proofs.NumberSteps.{scaled, some_scaled, digit_within, last_within, more_within}

-- ---- what an answer tells

-- the steps behind an answer
pub steps_of : {A B : Type 0} (r : Result (A × Input) ℕ) (f : A → Input → Result (B × Input) ℕ) (y : B) (u : Input) → followed r f ≡ Ok (y, u) → (x : A) × (t : Input) × (r ≡ Ok (x, t)) × (f x t ≡ Ok (y, u))
steps_of (Ok p) f y u h = (p.0, p.1, refl, h)
steps_of (Err place) f y u h = absurd (grind (arith, h))

value_in : {A : Type 0} → A → Result (A × Input) ℕ → A
value_in d (Ok p) = p.0
value_in d (Err place) = d

rest_in : {A : Type 0} → Input → Result (A × Input) ℕ → Input
rest_in d (Ok p) = p.1
rest_in d (Err place) = d

pub same_value : {A : Type 0} (x y : A) (s t : Input) → ◌≡◌ {A = Result (A × Input) ℕ} (Ok (x, s)) (Ok (y, t)) → x ≡ y
unfolding value_in
same_value x y s t h = ap (value_in x) h

pub same_rest : {A : Type 0} (x y : A) (s t : Input) → ◌≡◌ {A = Result (A × Input) ℕ} (Ok (x, s)) (Ok (y, t)) → s ≡ t
unfolding rest_in
same_rest x y s t h = ap (rest_in s) h

-- ---- one step after another

pub finds_pure : {A : Type 0} {P : A → Type 0} (x : A) → P x → Finds (pure x) P
finds_pure {A} {P} x h = record { found = λ s t y bytes is. (subst P (same_value x y s t is) h, subst (λ (s : Input). AreBytes s.bytes) (same_rest x y s t is) bytes) }

pub finds_fault : {A : Type 0} {P : A → Type 0} (place : ℕ) → Finds (fault place) P
finds_fault {A} {P} place = record { found = λ s t y bytes is. absurd (grind (arith, is)) }

pub finds_bind : {A B : Type 0} {r : Input → Result (A × Input) ℕ} {P : A → Type 0} {f : A → Input → Result (B × Input) ℕ} {Q : B → Type 0} → Finds r P → ((x : A) → P x → Finds (f x) Q) → Finds (r >>= f) Q
finds_bind {A} {B} {r} {P} {f} {Q} first second = record {
  found = λ s u y bytes is.
      let p = steps_of (r s) f y u is in
      let a = first.found s p.1 p.0 bytes p.2 in
      (second p.0 a.0).found p.1 u y a.1 p.3;
}

pub finds_if : {A : Type 0} {P : A → Type 0} {r q : Input → Result (A × Input) ℕ} (t : Bool) → (t ≡ true → Finds r P) → (t ≡ false → Finds q P) → Finds (if t then r else q) P
finds_if true one other = one refl
finds_if false one other = other refl

pub finds_weaker : {A : Type 0} {P Q : A → Type 0} {r : Input → Result (A × Input) ℕ} → Finds r P → ((x : A) → P x → Q x) → Finds r Q
finds_weaker {A} {P} {Q} {r} h weaker = record { found = λ s t x bytes is. let p = h.found s t x bytes is in (weaker x p.0, p.1) }

byte_at : (place : ℕ) (bytes : List ℕ) (t : Input) (x : ℕ) → AreBytes bytes → first_of place bytes ≡ Ok (x, t) → (x < 256) × AreBytes t.bytes
byte_at place [] t x all is = absurd (grind (arith, is))
byte_at place (b ∷ bytes) t x all is = (subst (λ b. b < 256) (same_value b x _ t is) all.0, subst (λ (s : Input). AreBytes s.bytes) (same_rest b x _ t is) all.1)

pub finds_byte : Finds byte (λ b. b < 256)
finds_byte = record { found = λ s t x bytes is. byte_at s.place s.bytes t x bytes is }

pub finds_allowed : {A : Type 0} {P : A → Type 0} {r : Input → Result (A × Input) ℕ} (test : A → Bool) → Finds r P → Finds (allowed test r) (λ x. P x × (test x ≡ true))
finds_allowed {A} {P} {r} test h = record {
  found = λ s t y bytes is.
      let p = steps_of (r s) (λ x rest. if test x then Ok (x, rest) else Err s.place) y t is in
      let a = h.found s p.1 p.0 bytes p.2 in
      elim (cases_Bool (test p.0)) [
        | inl holds ↦
            let kept : ◌≡◌ {A = Result (A × Input) ℕ} (Ok (p.0, p.1)) (Ok (y, t)) = rw holds at p.3 in
            let same = same_value p.0 y p.1 t kept in
            ((subst P same a.0, subst (λ x. test x ≡ true) same holds), subst (λ (s : Input). AreBytes s.bytes) (same_rest p.0 y p.1 t kept) a.1)
        | inr fails ↦ let lost : ◌≡◌ {A = Result (A × Input) ℕ} (Err s.place) (Ok (y, t)) = rw fails at p.3 in absurd (grind (arith, lost))
      ];
}

meant_at : {B : Type 0} (found : Option B) (s : Input) (place : ℕ) (y : B) (t : Input) → or_fault found s place ≡ Ok (y, t) → (found ≡ Some y) × (s ≡ t)
meant_at (Some x) s place y t is = (ap Some (same_value x y s t is), same_rest x y s t is)
meant_at None s place y t is = absurd (grind (arith, is))

pub finds_meant : {A B : Type 0} {P : A → Type 0} {r : Input → Result (A × Input) ℕ} (meaning : A → Option B) → Finds r P → Finds (meant meaning r) (λ y. (x : A) × P x × (meaning x ≡ Some y))
finds_meant {A} {B} {P} {r} meaning h = record {
  found = λ s t y bytes is.
      let p = steps_of (r s) (λ x rest. or_fault (meaning x) rest s.place) y t is in
      let a = h.found s p.1 p.0 bytes p.2 in
      let m = meant_at (meaning p.0) p.1 s.place y t p.3 in
      ((p.0, a.0, m.0), subst (λ (s : Input). AreBytes s.bytes) m.1 a.1);
}

-- ---- raw bytes and frames

bytes_taken : (n : ℕ) (bytes : List ℕ) → AreBytes bytes → AreBytes (take n bytes)
bytes_taken zero bytes all = tt
bytes_taken (suc n) [] all = tt
bytes_taken (suc n) (b ∷ bytes) all = (all.0, bytes_taken n bytes all.1)

bytes_dropped : (n : ℕ) (bytes : List ℕ) → AreBytes bytes → AreBytes (drop n bytes)
bytes_dropped zero bytes all = all
bytes_dropped (suc n) [] all = tt
bytes_dropped (suc n) (b ∷ bytes) all = bytes_dropped n bytes all.1

pub finds_raw : (n : ℕ) → Finds (raw n) (λ xs. (length xs ≡ n) × AreBytes xs)
finds_raw n = record {
  found = λ s t xs bytes is.
      elim (cases_Bool (ltb (length s.bytes) n)) [
        | inl short ↦ let lost : ◌≡◌ {A = Result (List ℕ × Input) ℕ} (Err (s.place + length s.bytes)) (Ok (xs, t)) = rw short at is in absurd (grind (arith, lost))
        | inr long ↦
            let kept : ◌≡◌ {A = Result (List ℕ × Input) ℕ} (Ok (take n s.bytes, record { place = s.place + n; bytes = drop n s.bytes })) (Ok (xs, t)) = rw long at is in
            let same = same_value (take n s.bytes) xs _ t kept in (
              (ap length (sym same) ∙ length-take-le n s.bytes (ltb-false (length s.bytes) n long), subst AreBytes same (bytes_taken n s.bytes bytes)),
              subst (λ (s : Input). AreBytes s.bytes) (same_rest (take n s.bytes) xs _ t kept) (bytes_dropped n s.bytes bytes),
            )
      ];
}

framed_at : (n : ℕ) (s inside t : Input) → AreBytes s.bytes → frame n s ≡ Ok (inside, t) → AreBytes inside.bytes × AreBytes t.bytes
framed_at n s inside t bytes is =
    elim (cases_Bool (ltb (length s.bytes) n)) [
      | inl short ↦ let lost : ◌≡◌ {A = Result (Input × Input) ℕ} (Err (s.place + length s.bytes)) (Ok (inside, t)) = rw short at is in absurd (grind (arith, lost))
      | inr long ↦
          let kept : ◌≡◌ {A = Result (Input × Input) ℕ} (Ok (record { place = s.place; bytes = take n s.bytes }, record { place = s.place + n; bytes = drop n s.bytes })) (Ok (inside, t)) = rw long at is in (
            subst (λ (s : Input). AreBytes s.bytes) (same_value _ inside _ t kept) (bytes_taken n s.bytes bytes),
            subst (λ (s : Input). AreBytes s.bytes) (same_rest _ inside _ t kept) (bytes_dropped n s.bytes bytes),
          )
    ]

pub finds_framed : {A : Type 0} {P : A → Type 0} {content : Input → Result (A × Input) ℕ} (n : ℕ) → Finds content P → Finds (frame n >>= (λ inside. within inside content)) P
finds_framed {A} {P} {content} n h = record {
  found = λ s u y bytes is.
      let p = steps_of (frame n s) (λ inside. within inside content) y u is in
      let b = framed_at n s p.0 p.1 bytes p.2 in
      let q = steps_of (content p.0) (λ x rest. followed (nothing_left rest) (λ _ _. Ok (x, p.1))) y u p.3 in
      let e = steps_of (nothing_left q.1) (λ _ _. Ok (q.0, p.1)) y u q.3 in
      (subst P (same_value q.0 y p.1 u e.3) (h.found p.0 q.1 q.0 b.0 q.2).0, subst (λ (s : Input). AreBytes s.bytes) (same_rest q.0 y p.1 u e.3) b.1);
}

part_at : (n : ℕ) (s : Input) → AreBytes s.bytes → AreBytes (part n s).bytes
part_at n s bytes = bytes_taken n s.bytes bytes

pub finds_filled : {A : Type 0} {P : A → Type 0} {content : Input → Result (A × Input) ℕ} (n : ℕ) → Finds content P → Finds (filled n content) P
finds_filled {A} {P} {content} n h = record {
  found = λ s u y bytes is.
      let p = steps_of (content (part n s)) (λ x rest. followed (nothing_left rest) (λ _ _. followed (frame n s) (λ _ after. Ok (x, after)))) y u is in
      let e = steps_of (nothing_left p.1) (λ _ _. followed (frame n s) (λ _ after. Ok (p.0, after))) y u p.3 in
      let q = steps_of (frame n s) (λ _ after. Ok (p.0, after)) y u e.3 in
      let b = framed_at n s q.0 q.1 bytes q.2 in
      (subst P (same_value p.0 y q.1 u q.3) (h.found (part n s) p.1 p.0 (part_at n s bytes) p.2).0, subst (λ (s : Input). AreBytes s.bytes) (same_rest p.0 y q.1 u q.3) b.1);
}

-- ---- lists

pub finds_entries : {A : Type 0} {P : A → Type 0} {entry : Input → Result (A × Input) ℕ} (n : ℕ) → Finds entry P → Finds (entries n entry) (λ xs. (length xs ≡ n) × AllByRecursion P xs)
unfolding entries
finds_entries zero h = finds_pure [] (refl, tt)
finds_entries (suc n) h = finds_bind h (λ x p. finds_bind (finds_entries n h) (λ xs q. finds_pure (x ∷ xs) (ap suc q.0, (p, q.1))))

pub gathered_at : {A : Type 0} (x : Option A) (others : Input → Result (List A × Input) ℕ) (s t : Input) (xs : List A) → gathered x others s ≡ Ok (xs, t) → ((x ≡ None) × (xs ≡ []) × (s ≡ t)) ⊎ ((y : A) × (ys : List A) × (x ≡ Some y) × (xs ≡ y ∷ ys) × (others s ≡ Ok (ys, t)))
gathered_at None others s t xs is = inl (refl, sym (same_value [] xs s t is), same_rest [] xs s t is)
gathered_at (Some y) others s t xs is =
    let p = steps_of (others s) (λ xs rest. Ok (y ∷ xs, rest)) xs t is in
    inr (y, p.0, refl, sym (same_value (y ∷ p.0) xs p.1 t p.3), p.2 ∙ ap (λ u. Ok (p.0, u)) (same_rest (y ∷ p.0) xs p.1 t p.3))

-- ---- numbers

unsigned_found : (start more last : ℕ) → 0 < last → last ≤ 128 → Finds (unsigned_from start more last) (λ n. n < last * 128 ^ more)
unfolding unsigned_from
unsigned_found start zero last some few = finds_bind finds_byte (λ b low. finds_if (ltb b last) (λ is. let lt = ltb-true b last is in finds_pure b (grind arith)) (λ _. finds_fault start))
unsigned_found start (suc more) last some few =
    let m : suc more - 1 ≡ more = omega arith in
    let more-is : last * 128 ^ suc more ≡ 128 * (last * 128 ^ more) = rw m at (scaled last (suc more) (omega arith)) in
    let positive = some_scaled last more some in
    finds_bind finds_byte (λ b low. finds_if (ltb b 128)
    (λ is. finds_pure b (omega (arith, ltb-true b 128 is, more-is, positive)))
    (λ is. finds_bind (unsigned_found start more last some few) (λ high fits. finds_pure (b - 128 + 128 * high) (omega (arith, low, more-is, fits)))))

pub finds_number32 : Finds number32 (λ n. n < 2 ^ 32)
unfolding number32
finds_number32 = record { found = λ s t n bytes is. (unsigned_found s.place 4 16 (omega arith) (omega arith)).found s t n bytes is }

pub finds_number64 : Finds number64 (λ n. n < 2 ^ 64)
unfolding number64
finds_number64 = record { found = λ s t n bytes is. (unsigned_found s.place 9 2 (omega arith) (omega arith)).found s t n bytes is }

pub finds_index : (n : ℕ) → Finds (index n) (λ i. (i < n) × (i < 2 ^ 32))
unfolding index
finds_index n = finds_weaker (finds_allowed (λ i. ltb i n) finds_number32) (λ i h. (ltb-true i n h.1, h.0))

last_cases : (room b : ℕ) → room ≤ 64 → (ltb b 128 && last_allowed room b) ≡ true → (b < 128) × ((b < room) ⊎ (128 - room ≤ b))
last_cases room b few is =
    elim (cases_lt b 128) [
      | inr past ↦ let lost : false ≡ true = rw (le-ltb b 128 past) at is in absurd (grind (arith, lost))
      | inl low ↦ (
        low,
        elim (cases_lt b room) [
          | inl below ↦ inl below
          | inr above ↦ let left : leb (128 - room) b ≡ true = rw (lt-ltb b 128 low, le-ltb b room above) at is in inr (leb-true (128 - room) b left)
        ],
      )
    ]

signed_found : (start more room : ℕ) → 0 < room → room ≤ 64 → Finds (signed_from start more room) (IsWithin (room * 128 ^ more))
unfolding signed_from
signed_found start zero room some few = finds_bind finds_byte (λ b low. finds_if (ltb b 128 && last_allowed room b)
    (λ is.
    let c = last_cases room b few is in
    let one : room * 128 ^ 0 ≡ room = grind arith in
    finds_pure (signed_digit b) (subst (λ n. IsWithin n (signed_digit b)) (sym one) (last_within room b (signed_digit b) few c.0 c.1 refl)))
    (λ _. finds_fault start))
signed_found start (suc more) room some few =
    let m : suc more - 1 ≡ more = omega arith in
    let more-is : room * 128 ^ suc more ≡ 128 * (room * 128 ^ more) = rw m at (scaled room (suc more) (omega arith)) in
    finds_bind finds_byte (λ b low. finds_if (ltb b 128)
    (λ is. finds_pure (signed_digit b) (digit_within room (suc more) b (signed_digit b) (omega arith) some (ltb-true b 128 is) refl))
    (λ is. finds_bind (signed_found start more room some few) (λ high fits. finds_pure (pos (b - 128) +ℤ (pos 128 *ℤ high)) (more_within (room * 128 ^ suc more) (room * 128 ^ more) b high more-is (ltb-false b 128 is) low fits))))

pub finds_signed32 : Finds signed32 (IsWithin (2 ^ 31))
unfolding signed32
finds_signed32 = record { found = λ s t z bytes is. (signed_found s.place 4 8 (omega arith) (omega arith)).found s t z bytes is }

pub finds_signed33 : Finds signed33 (IsWithin (2 ^ 32))
unfolding signed33
finds_signed33 = record { found = λ s t z bytes is. (signed_found s.place 4 16 (omega arith) (omega arith)).found s t z bytes is }

pub finds_signed64 : Finds signed64 (IsWithin (2 ^ 63))
unfolding signed64
finds_signed64 = record { found = λ s t z bytes is. (signed_found s.place 9 1 (omega arith) (omega arith)).found s t z bytes is }
