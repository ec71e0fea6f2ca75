use Rattle.std.proofs.Common.{◌≡◌, ◌<◌, ℕ, List, Option, Some, None, Bor, length, sym, refl, OnSome, slice_get, option_copied}
use Rattle.std.specs.Slice.{IsItemAt}
use Rattle.std.proofs.lemmas.Option.{slice_get_past, slice_get_read}
use Rattle.values.proofs.seq.Seq.get.Goals as goal

lent : {X : Type 0} (xs : List X) (i : ℕ) (r : Option (Bor X)) → IsItemAt xs i r → (option_copied r ≡ slice_get xs i) × OnSome r (i < length xs)
lent xs i None h = (sym (slice_get_past xs i h.3), tt)
lent xs i (Some x) h = (sym (slice_get_read xs (length xs) i x.now refl h.3.0 h.1), h.3.0)

pub returns-clause-value : goal.returns-clause-value
returns-clause-value g c = rw (← c.self.view_is, ← c.deref.ensures.value) (lent _ _ _ c.get.ensures.lookup).0

pub returns-clause-within : goal.returns-clause-within
returns-clause-within g c = rw (← c.self.view_is, ← c.deref.ensures.value) (lent _ _ _ c.get.ensures.lookup).1
