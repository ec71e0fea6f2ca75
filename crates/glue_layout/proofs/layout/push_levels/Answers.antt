use Rattle.std.proofs.Common.{◌≡◌, ℕ, ◌+◌, ◌*◌, List, ◌++◌, replicate, string_bytes, ap, ◌∙◌, append_assoc, arith}
use Rattle.std.proofs.lemmas.List.{replicate-append-replicate}
use Rattle.glue_layout.proofs.layout.push_levels.Goals as goal

one_more : (laid before after : List ℕ) (n : ℕ) → after ≡ before ++ replicate 4 32 → before ≡ laid ++ replicate (4 * n) 32 → after ≡ laid ++ replicate (4 * (n + 1)) 32
one_more laid before after n is so_far =
    rw (is, so_far, append_assoc laid (replicate (4 * n) 32) (replicate 4 32), replicate-append-replicate {A = ℕ} (4 * n) 4 32) (ap (λ k. laid ++ replicate k 32) (omega arith))

pub loop-preserved : goal.loop-preserved
loop-preserved c = one_more _ _ _ c.loop.counter c.in_ok-push_str.ensures.bytes c.loop.invariant

pub returns : goal.returns
returns c = c.loop.invariant ∙ ap (λ n. string_bytes c.args.laid.now ++ replicate (4 * n) 32) (omega (arith, c.loop-test.false, c.loop.auto.counter-end))
