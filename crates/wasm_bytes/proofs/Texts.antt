-- UTF-8 as a test.
use Rattle.std.proofs.Common.{◌≡◌, ℕ, Bool, true, false, List, refl}
use Rattle.std.specs.Str.{IsUtf8, is_utf8}
use Rattle.std.proofs.lemmas.Str.{IsUtf8-from_is_utf8}

no_text : (b : Bool) → (b ≡ true → ⊥) → b ≡ false
no_text true h = absurd (h refl)
no_text false h = refl

pub not_utf8 : (bytes : List ℕ) → ¬ (IsUtf8 bytes) → is_utf8 bytes ≡ false
not_utf8 bytes h = no_text (is_utf8 bytes) (λ e. h (IsUtf8-from_is_utf8 bytes e))
