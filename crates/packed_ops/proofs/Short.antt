-- Numbers that one byte holds.
use Rattle.std.proofs.Common.{◌≡◌, ℕ, ◌<◌, [], ◌∷◌, refl}
use Rattle.std.proofs.lemmas.Bool.{lt-ltb}
use Rattle.wasm_bytes.specs.Numbers.{number_bytes, shortest}

pub short_number : (n : ℕ) → n < 128 → number_bytes n ≡ n ∷ []
unfolding number_bytes shortest
short_number n lt = rw (lt-ltb n 128 lt) refl
