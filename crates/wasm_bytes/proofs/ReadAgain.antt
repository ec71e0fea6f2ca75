-- What is written is read again: one step after another, numbers and lists.
use Rattle.std.proofs.Common.{◌≡◌, ℕ, zero, suc, ◌+◌, ◌-◌, ◌*◌, ◌/◌, ◌%◌, ◌^◌, ◌<◌, ◌≤◌, Bool, true, false, List, [], ◌∷◌, ◌++◌, length, Option, Some, Result, Ok, refl, ap, append_assoc, append-nil, arith, inl, inr, ltb}
use Rattle.std.specs.Prelude.{ℤ, pos, negsuc, ◌+ℤ◌, ◌*ℤ◌}
use Rattle.std.specs.List.{flat_map, AllByRecursion}
use Rattle.std.proofs.lemmas.Bool.{le-ltb, lt-ltb, le-leb, lt-leb, cases_lt}
use Rattle.std.proofs.lemmas.Int.{ints}
use Rattle.std.proofs.lemmas.List.{length-append, take_at, drop_at}
use Rattle.wasm_bytes.specs.Reading.{Input, ◌>>=◌, pure, byte, raw, framed, filled, allowed, meant, entries}
use Rattle.wasm_bytes.specs.Numbers.{unsigned_from, number32, number64, shortest, number_bytes}
use Rattle.wasm_bytes.specs.Signed.{signed_from, signed32, signed33, signed64, shortest_signed, signed_bytes, IsWithin}
use Rattle.wasm_bytes.specs.Items.{index}
use Rattle.wasm_bytes.specs.Spelling.{list_bytes}
use Rattle.wasm_bytes.specs.Reads.{Reads}
use Rattle.wasm_bytes.proofs.NumberSteps.{scaled}

-- ---- one step after another

pub reads_pure : {A : Type 0} (x : A) → Reads (pure x) [] x
reads_pure x = record { again = λ place rest. (place, refl) }

pub reads_bind : {A B : Type 0} {r : Input → Result (A × Input) ℕ} (f : A → Input → Result (B × Input) ℕ) {a b : List ℕ} {x : A} {y : B} → Reads r a x → Reads (f x) b y → Reads (r >>= f) (a ++ b) y
reads_bind {r} f {a} {b} {x} {y} first second = record {
  again = λ place rest.
      let p = first.again place (b ++ rest) in
      let q = second.again p.0 rest in
      (q.0, rw (append_assoc a b rest, p.1) q.1);
}

-- the last step
pub reads_end : {A B : Type 0} {r : Input → Result (A × Input) ℕ} (g : A → B) {a : List ℕ} {x : A} → Reads r a x → Reads (r >>= (λ x. pure (g x))) a (g x)
reads_end {r} g {a} {x} h = record { again = λ place rest. let p = h.again place rest in (p.0, rw (p.1) refl) }

pub reads_byte : (b : ℕ) → Reads byte (b ∷ []) b
reads_byte b = record { again = λ place rest. (place + 1, refl) }

pub reads_raw : (n : ℕ) (a : List ℕ) → length a ≡ n → Reads (raw n) a a
reads_raw n a is = record {
  again = λ place rest.
      let long : ltb (length (a ++ rest)) n ≡ false = le-ltb _ _ (omega (arith, is, length-append a rest)) in
      (place + n, rw (long, take_at a rest n is, drop_at a rest n is) refl);
}

pub reads_allowed : {A : Type 0} (test : A → Bool) {r : Input → Result (A × Input) ℕ} {a : List ℕ} {x : A} → Reads r a x → test x ≡ true → Reads (allowed test r) a x
reads_allowed test {r} {a} {x} h ok = record { again = λ place rest. let p = h.again place rest in (p.0, rw (p.1, ok) refl) }

pub reads_meant : {A B : Type 0} (meaning : A → Option B) {r : Input → Result (A × Input) ℕ} {a : List ℕ} {x : A} {y : B} → Reads r a x → meaning x ≡ Some y → Reads (meant meaning r) a y
reads_meant meaning {r} {a} {x} {y} h ok = record { again = λ place rest. let p = h.again place rest in (p.0, rw (p.1, ok) refl) }

pub reads_framed : {A : Type 0} {content : Input → Result (A × Input) ℕ} {a : List ℕ} {x : A} → Reads content a x → Reads (framed (length a) content) a x
reads_framed {content} {a} {x} h = record {
  again = λ place rest.
      let p = h.again place [] in
      let inner : content (record { place = place; bytes = a }) ≡ Ok (x, record { place = p.0; bytes = [] }) = rw append-nil at p.1 in
      let long : ltb (length (a ++ rest)) (length a) ≡ false = le-ltb _ _ (omega (arith, length-append a rest)) in
      (place + length a, rw (long, take_at a rest (length a) refl, drop_at a rest (length a) refl, inner) refl);
}

pub reads_filled : {A : Type 0} {content : Input → Result (A × Input) ℕ} {a : List ℕ} {x : A} → Reads content a x → Reads (filled (length a) content) a x
reads_filled {content} {a} {x} h = record {
  again = λ place rest.
      let p = h.again place [] in
      let inner : content (record { place = place; bytes = a }) ≡ Ok (x, record { place = p.0; bytes = [] }) = rw append-nil at p.1 in
      let long : ltb (length (a ++ rest)) (length a) ≡ false = le-ltb _ _ (omega (arith, length-append a rest)) in
      (place + length a, rw (take_at a rest (length a) refl, inner, long, drop_at a rest (length a) refl) refl);
}

-- ---- numbers

unsigned_at : (start more k last n : ℕ) → more ≤ k → last ≤ 128 → n < last * 128 ^ more → (place : ℕ) (rest : List ℕ) → (after : ℕ) × (unsigned_from start more last (record { place = place; bytes = shortest k n ++ rest }) ≡ Ok (n, record { place = after; bytes = rest }))
unfolding unsigned_from shortest
unsigned_at start zero zero last n le few lt place rest =
    let below : n < last = grind arith in
    (place + 1, rw (lt-ltb n last below) refl)
unsigned_at start zero (suc k) last n le few lt place rest =
    let below : n < last = grind arith in
    (place + 1, rw (lt-ltb n 128 (omega arith), lt-ltb n last below) refl)
unsigned_at start (suc more) zero last n le few lt place rest = absurd (omega arith)
unsigned_at start (suc more) (suc k) last n le few lt place rest =
    elim (cases_lt n 128) [
      | inl low ↦ (place + 1, rw (lt-ltb n 128 low, lt-ltb n 128 low) refl)
      | inr high ↦
          let m : suc more - 1 ≡ more = omega arith in
          let more-is : last * 128 ^ suc more ≡ 128 * (last * 128 ^ more) = rw m at (scaled last (suc more) (omega arith)) in
          let p = unsigned_at start more k last (n / 128) (omega arith) few (omega (arith, more-is)) (place + 1) rest in
          let whole : n % 128 + 128 - 128 + 128 * (n / 128) ≡ n = omega arith in
          (p.0, rw (le-ltb n 128 high, le-ltb (n % 128 + 128) 128 (omega arith), p.1, whole) refl)
    ]

pub number32_again : (n : ℕ) → n < 2 ^ 32 → Reads number32 (number_bytes n) n
unfolding number32 number_bytes
number32_again n lt = record { again = λ place rest. unsigned_at place 4 9 16 n (omega arith) (omega arith) lt place rest }

pub number64_again : (n : ℕ) → n < 2 ^ 64 → Reads number64 (number_bytes n) n
unfolding number64 number_bytes
number64_again n lt = record { again = λ place rest. unsigned_at place 9 9 2 n (omega arith) (omega arith) lt place rest }

pub index_again : (n i : ℕ) → i < n → n ≤ 2 ^ 32 → Reads (index n) (number_bytes i) i
unfolding index
index_again n i lt fits = reads_allowed (λ i. ltb i n) (number32_again i (omega arith)) (lt-ltb i n lt)

-- ---- lists

pub reads_entries : {A : Type 0} (P : A → Type 0) {entry : Input → Result (A × Input) ℕ} {spell : A → List ℕ} → ((x : A) → P x → Reads entry (spell x) x) → (xs : List A) → AllByRecursion P xs → Reads (entries (length xs) entry) (flat_map spell xs) xs
unfolding entries
reads_entries P again [] all = reads_pure []
reads_entries P {entry} again (x ∷ xs) all = reads_bind _ (again x all.0) (reads_end (λ ys. x ∷ ys) (reads_entries P again xs all.1))

pub reads_list : {A : Type 0} (P : A → Type 0) {entry : Input → Result (A × Input) ℕ} {spell : A → List ℕ} → ((x : A) → P x → Reads entry (spell x) x) → (xs : List A) → length xs < 2 ^ 32 → AllByRecursion P xs → Reads (number32 >>= (λ n. entries n entry)) (list_bytes spell xs) xs
unfolding list_bytes
reads_list P {entry} again xs few all = reads_bind (λ n. entries n entry) (number32_again (length xs) few) (reads_entries P again xs all)

-- ---- signed numbers

-- not below 0
positive_at : (start more k room n : ℕ) → more ≤ k → room ≤ 64 → n < room * 128 ^ more → (place : ℕ) (rest : List ℕ) → (after : ℕ) × (signed_from start more room (record { place = place; bytes = shortest_signed k (pos n) ++ rest }) ≡ Ok (pos n, record { place = after; bytes = rest }))
unfolding signed_from shortest_signed
positive_at start zero zero room n le few lt place rest =
    let below : n < room = grind arith in
    let low : n % 128 ≡ n = omega arith in
    (place + 1, rw (low, lt-ltb n 128 (omega arith), lt-ltb n room below, lt-ltb n 64 (omega arith)) refl)
positive_at start zero (suc k) room n le few lt place rest =
    let below : n < room = grind arith in
    let low : n % 128 ≡ n = omega arith in
    (place + 1, rw (lt-ltb n 64 (omega arith), low, lt-ltb n 128 (omega arith), lt-ltb n room below, lt-ltb n 64 (omega arith)) refl)
positive_at start (suc more) zero room n le few lt place rest = absurd (omega arith)
positive_at start (suc more) (suc k) room n le few lt place rest =
    elim (cases_lt n 64) [
      | inl small ↦
          let low : n % 128 ≡ n = omega arith in
          (place + 1, rw (lt-ltb n 64 small, low, lt-ltb n 128 (omega arith), lt-ltb n 64 small) refl)
      | inr high ↦
          let m : suc more - 1 ≡ more = omega arith in
          let more-is : room * 128 ^ suc more ≡ 128 * (room * 128 ^ more) = rw m at (scaled room (suc more) (omega arith)) in
          let p = positive_at start more k room (n / 128) (omega arith) few (omega (arith, more-is)) (place + 1) rest in
          let whole : pos (n % 128 + 128 - 128) +ℤ (pos 128 *ℤ pos (n / 128)) ≡ pos n = omega (arith, ints) in
          (p.0, rw (le-ltb n 64 high, le-ltb (n % 128 + 128) 128 (omega arith), p.1, whole) refl)
    ]

-- below 0
negative_at : (start more k room n : ℕ) → more ≤ k → room ≤ 64 → n < room * 128 ^ more → (place : ℕ) (rest : List ℕ) → (after : ℕ) × (signed_from start more room (record { place = place; bytes = shortest_signed k (negsuc n) ++ rest }) ≡ Ok (negsuc n, record { place = after; bytes = rest }))
unfolding signed_from shortest_signed
negative_at start zero zero room n le few lt place rest =
    let below : n < room = grind arith in
    let b = 127 - n in
    let low : 127 - n % 128 ≡ b = omega arith in
    let value : 128 - suc b ≡ n = omega arith in
    (place + 1, rw (low, lt-ltb b 128 (omega arith), le-ltb b room (omega arith), le-leb (128 - room) b (omega arith), le-ltb b 64 (omega arith)) (ap (λ m. Ok (negsuc m, record { place = place + 1; bytes = rest })) value))
negative_at start zero (suc k) room n le few lt place rest =
    let below : n < room = grind arith in
    let b = 127 - n in
    let low : 127 - n % 128 ≡ b = omega arith in
    let value : 128 - suc b ≡ n = omega arith in
    (place + 1, rw (le-leb n 63 (omega arith), low, lt-ltb b 128 (omega arith), le-ltb b room (omega arith), le-leb (128 - room) b (omega arith), le-ltb b 64 (omega arith)) (ap (λ m. Ok (negsuc m, record { place = place + 1; bytes = rest })) value))
negative_at start (suc more) zero room n le few lt place rest = absurd (omega arith)
negative_at start (suc more) (suc k) room n le few lt place rest =
    elim (cases_lt n 64) [
      | inl small ↦
          let b = 127 - n in
          let low : 127 - n % 128 ≡ b = omega arith in
          let value : 128 - suc b ≡ n = omega arith in
          (place + 1, rw (le-leb n 63 (omega arith), low, lt-ltb b 128 (omega arith), le-ltb b 64 (omega arith)) (ap (λ m. Ok (negsuc m, record { place = place + 1; bytes = rest })) value))
      | inr high ↦
          let m : suc more - 1 ≡ more = omega arith in
          let more-is : room * 128 ^ suc more ≡ 128 * (room * 128 ^ more) = rw m at (scaled room (suc more) (omega arith)) in
          let p = negative_at start more k room (n / 128) (omega arith) few (omega (arith, more-is)) (place + 1) rest in
          let whole : pos (127 - n % 128 + 128 - 128) +ℤ (pos 128 *ℤ negsuc (n / 128)) ≡ negsuc n = omega (arith, ints) in
          (p.0, rw (lt-leb n 63 (omega arith), le-ltb (127 - n % 128 + 128) 128 (omega arith), p.1, whole) refl)
    ]

signed_at : (start more k room : ℕ) (z : ℤ) → more ≤ k → room ≤ 64 → IsWithin (room * 128 ^ more) z → (place : ℕ) (rest : List ℕ) → (after : ℕ) × (signed_from start more room (record { place = place; bytes = shortest_signed k z ++ rest }) ≡ Ok (z, record { place = after; bytes = rest }))
signed_at start more k room (pos n) le few h place rest = let high = h.1 in positive_at start more k room n le few (omega (arith, ints)) place rest
signed_at start more k room (negsuc n) le few h place rest = let low = h.0 in negative_at start more k room n le few (omega (arith, ints)) place rest

pub signed32_again : (z : ℤ) → IsWithin (2 ^ 31) z → Reads signed32 (signed_bytes z) z
unfolding signed32 signed_bytes
signed32_again z h = record { again = λ place rest. signed_at place 4 9 8 z (omega arith) (omega arith) h place rest }

pub signed33_again : (z : ℤ) → IsWithin (2 ^ 32) z → Reads signed33 (signed_bytes z) z
unfolding signed33 signed_bytes
signed33_again z h = record { again = λ place rest. signed_at place 4 9 16 z (omega arith) (omega arith) h place rest }

pub signed64_again : (z : ℤ) → IsWithin (2 ^ 63) z → Reads signed64 (signed_bytes z) z
unfolding signed64 signed_bytes
signed64_again z h = record { again = λ place rest. signed_at place 9 9 1 z (omega arith) (omega arith) h place rest }
