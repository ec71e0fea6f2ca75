use Rattle.std.proofs.Common.{◌≡◌, ◌<◌, ℕ, ◌+◌, List, [], ◌∷◌, ◌++◌, length, take, get_or, ap, append_assoc, refl}
use Rattle.std.specs.List.{flat_map}
use Rattle.std.proofs.lemmas.List.{append-nil, take_all, take_more}
use Rattle.std.proofs.lemmas.Grind.{flat_map-append}
use Rattle.wasm_bytes.proofs.spell.write_entries.Goals as goal

spelled_more : {X : Type 0} (f : X → List ℕ) (xs : List X) (i : ℕ) (x : X) → i < length xs → x ≡ get_or xs i x → flat_map f (take i xs) ++ f x ≡ flat_map f (take (i + 1) xs)
spelled_more f xs i x lt is =
    rw (take_more xs i x lt, ← is, flat_map-append f (take i xs) (x ∷ []), append-nil (f x)) refl

pub loop-item-preserved : goal.loop-item-preserved
loop-item-preserved g c =
    rw (c.in_ok-write.ensures, c.loop-item.invariant, ← spelled_more g.T.Spell.spelled c.args.items.now _ _ c.loop-item-test.true c.item-item.is)
    (append_assoc c.args.out.now.items _ _)

pub returns : goal.returns
returns g c = rw c.loop-item.invariant (ap (λ xs. c.args.out.now.items ++ flat_map g.T.Spell.spelled xs) (take_all _ _ c.loop-item-test.false))
