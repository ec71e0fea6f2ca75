-- The last byte of a number, and one more byte.
use Rattle.std.proofs.Common.{◌≡◌, ℕ, zero, suc, ◌+◌, ◌-◌, ◌*◌, ◌/◌, ◌%◌, ◌^◌, ◌<◌, ◌≤◌, [], ◌∷◌, Ok, Err, true, false, nat_lt, refl, arith, inl, inr}
use Rattle.std.proofs.Math.Bool.{and-false}
use Rattle.std.proofs.Math.Nat.{pow-succ'}
use Rattle.std.proofs.lemmas.Bool.{le-ltb, lt-ltb, cases_lt}
use Rattle.std.proofs.lemmas.Int.{ints}
use Rattle.std.specs.Prelude.{ℤ, pos, ◌+ℤ◌, ◌*ℤ◌, FitsSigned, ◌⊎◌}
use Rattle.std.specs.Int.{w64}
use Rattle.wasm_bytes.specs.Signed.{signed_from, signed_digit, last_allowed, IsWithin}
use Rattle.wasm_bytes.specs.Reading.{Input, byte}
use Rattle.wasm_bytes.specs.Numbers.{unsigned_from, shortest}

-- the numbers of so many bytes more are 128 times as many
pub scaled : (last more : ℕ) → 0 < more → last * 128 ^ more ≡ 128 * (last * 128 ^ (more - 1))
scaled last zero lt = absurd (omega arith)
scaled last (suc more) lt =
    let e : suc more - 1 ≡ more = omega arith in
    rw e (rw (pow-succ' 128 more) (grind arith))

pub some_scaled : (last more : ℕ) → 0 < last → 0 < last * 128 ^ more
some_scaled last zero lt = grind arith
some_scaled last (suc more) lt =
    let e : suc more - 1 ≡ more = omega arith in
    let s : last * 128 ^ suc more ≡ 128 * (last * 128 ^ more) = rw e at (scaled last (suc more) (omega arith)) in
    omega (arith, s, some_scaled last more lt)

pub unsigned-end : (start more last b : ℕ) (s t : Input) → more ≡ 0 → byte s ≡ Ok (b, t) → b < last → unsigned_from start more last s ≡ Ok (b, t)
unfolding unsigned_from
unsigned-end start zero last b s t end e low = rw (e, lt-ltb b last low) refl
unsigned-end start (suc more) last b s t end e low = absurd (omega (arith, end))

pub unsigned-refused : (start more last b : ℕ) (s t : Input) → more ≡ 0 → byte s ≡ Ok (b, t) → last ≤ b → unsigned_from start more last s ≡ Err start
unfolding unsigned_from
unsigned-refused start zero last b s t end e le = rw (e, le-ltb b last le) refl
unsigned-refused start (suc more) last b s t end e le = absurd (omega (arith, end))

pub unsigned-short : (start more last b : ℕ) (s t : Input) → 0 < more → byte s ≡ Ok (b, t) → b < 128 → unsigned_from start more last s ≡ Ok (b, t)
unfolding unsigned_from
unsigned-short start zero last b s t lt e low = absurd (omega arith)
unsigned-short start (suc more) last b s t lt e low = rw (e, lt-ltb b 128 low) refl

pub unsigned-last : (start more last b high : ℕ) (s t u : Input) → 0 < more → byte s ≡ Ok (b, t) → 128 ≤ b → unsigned_from start (more - 1) last t ≡ Ok (high, u) → unsigned_from start more last s ≡ Ok (b - 128 + 128 * high, u)
unfolding unsigned_from
unsigned-last start zero last b high s t u lt e le h = absurd (omega arith)
unsigned-last start (suc more) last b high s t u lt e le h =
    let k : suc more - 1 ≡ more = omega arith in
    let below : unsigned_from start more last t ≡ Ok (high, u) = rw k at h in
    rw (e, le-ltb b 128 le, below) refl

pub shortest-last : (more n : ℕ) → (more ≡ 0) ⊎ ((more ≡ 0 → ⊥) × (n < 128)) → shortest more n ≡ n ∷ []
unfolding shortest
shortest-last zero n h = refl
shortest-last (suc more) n (inl e) = absurd (omega (arith, e))
shortest-last (suc more) n (inr low) = rw (lt-ltb n 128 low.1) refl

pub shortest-more : (more n : ℕ) → 0 < more → 128 ≤ n → shortest more n ≡ (n % 128 + 128) ∷ shortest (more - 1) (n / 128)
unfolding shortest
shortest-more zero n lt le = absurd (omega arith)
shortest-more (suc more) n lt le =
    let k : suc more - 1 ≡ more = omega arith in
    rw (le-ltb n 128 le, k) refl

pub signed-end : (start more room b : ℕ) (s t : Input) → more ≡ 0 → byte s ≡ Ok (b, t) → b < 128 → true ≡ last_allowed room b → signed_from start more room s ≡ Ok (signed_digit b, t)
unfolding signed_from
signed-end start zero room b s t end e low allowed = rw (e, lt-ltb b 128 low, ← allowed) refl
signed-end start (suc more) room b s t end e low allowed = absurd (omega (arith, end))

pub signed-refused : (start more room b : ℕ) (s t : Input) → more ≡ 0 → byte s ≡ Ok (b, t) → (128 ≤ b) ⊎ (last_allowed room b ≡ false) → signed_from start more room s ≡ Err start
unfolding signed_from
signed-refused start zero room b s t end e (inl le) = rw (e, le-ltb b 128 le) refl
signed-refused start zero room b s t end e (inr fails) = rw (e, fails, and-false (nat_lt b 128)) refl
signed-refused start (suc more) room b s t end e either = absurd (omega (arith, end))

pub signed-short : (start more room b : ℕ) (s t : Input) → 0 < more → byte s ≡ Ok (b, t) → b < 128 → signed_from start more room s ≡ Ok (signed_digit b, t)
unfolding signed_from
signed-short start zero room b s t lt e low = absurd (omega arith)
signed-short start (suc more) room b s t lt e low = rw (e, lt-ltb b 128 low) refl

pub signed-last : (start more room b : ℕ) (high : ℤ) (s t u : Input) → 0 < more → byte s ≡ Ok (b, t) → 128 ≤ b → signed_from start (more - 1) room t ≡ Ok (high, u) → signed_from start more room s ≡ Ok (pos (b - 128) +ℤ (pos 128 *ℤ high), u)
unfolding signed_from
signed-last start zero room b high s t u lt e le h = absurd (omega arith)
signed-last start (suc more) room b high s t u lt e le h =
    let k : suc more - 1 ≡ more = omega arith in
    let below : signed_from start more room t ≡ Ok (high, u) = rw k at h in
    rw (e, le-ltb b 128 le, below) refl

-- a digit is within the least bound that there is
pub digit_within : (room more b : ℕ) (z : ℤ) → 0 < more → 0 < room → b < 128 → z ≡ signed_digit b → IsWithin (room * 128 ^ more) z
digit_within room more b z lt some low is =
    let s = scaled room more lt in
    let p = some_scaled room (more - 1) some in
    elim (cases_lt b 64) [
      | inl h ↦ rw (is, lt-ltb b 64 h) (omega (arith, ints, s, p), omega (arith, ints, s, p))
      | inr h ↦ rw (is, le-ltb b 64 h) (omega (arith, ints, s, p), omega (arith, ints, s, p))
    ]

-- the last byte
pub last_within : (room b : ℕ) (z : ℤ) → room ≤ 64 → b < 128 → (b < room) ⊎ (128 - room ≤ b) → z ≡ signed_digit b → IsWithin room z
last_within room b z few low (inl h) is = rw (is, lt-ltb b 64 (omega arith)) (omega (arith, ints), omega (arith, ints))
last_within room b z few low (inr h) is = rw (is, le-ltb b 64 (omega arith)) (omega (arith, ints), omega (arith, ints))

-- one digit more
pub high_fits : (n : ℕ) (z : ℤ) → 128 * n ≤ 2 ^ 63 → IsWithin n z → FitsSigned w64 (pos 128 *ℤ z)
high_fits n z fits h = let a = h.0 in let b = h.1 in omega (arith, ints)

pub more_within : (m n b : ℕ) (z : ℤ) → m ≡ 128 * n → 128 ≤ b → b < 256 → IsWithin n z → IsWithin m (pos (b - 128) +ℤ (pos 128 *ℤ z))
more_within m n b z is le lt h = let a = h.0 in let c = h.1 in (omega (arith, ints), omega (arith, ints))

pub within_fits : (m : ℕ) (z : ℤ) → m ≤ 2 ^ 63 → IsWithin m z → FitsSigned w64 z
within_fits m z le h = let a = h.0 in let c = h.1 in omega (arith, ints)
