use Rattle.std.proofs.Common.{refl, arith}
use Rattle.packed_ops.proofs.PackedAgain.{spelled_split, too_short, not_spelled}
use Rattle.packed_ops.proofs.packed.Walk.next_spelled.Goals.{then-head-ge12-via-then-head-ge12, then-head-ge12-via-else-head-ge12+then-len-rest}
use Rattle.packed_ops.proofs.packed.Walk.next_spelled.Goals as goal

pub returns-then-self-lt2 : goal.returns-then-self-lt2
returns-then-self-lt2 c = (refl, rw (← c.self.view_is) (too_short (record { place = 0; bytes = c.self.inside.bytes.now }) c.self.invariant c.if-self-lt2.true))

pub returns-then-head-ge12 : goal.returns-then-head-ge12
returns-then-head-ge12 c = (
  refl,
  rw (← c.self.view_is) (not_spelled (record { place = 0; bytes = c.self.inside.bytes.now }) c.split_at.result.0.now c.split_at.result.1.now c.self.invariant c.if-self-lt2.false c.split_at.ensures.front c.split_at.ensures.back (elim c.then-head-ge12.branch [
    | then-head-ge12-via-then-head-ge12 w ↦ λ small enough. omega (arith, w.if-head-ge12.true, small)
    | then-head-ge12-via-else-head-ge12+then-len-rest w ↦ λ small enough. omega (arith, w.if-len-rest.true, enough)
  ])),
)

pub invariant_of-self : goal.invariant_of-self
invariant_of-self c = (spelled_split (record { place = 0; bytes = c.self.inside.bytes.now }) (record { place = 0; bytes = c.split_at-2.result.1.now }) c.split_at.result.0.now c.split_at.result.1.now c.split_at-2.result.0.now c.self.invariant c.if-self-lt2.false c.split_at.ensures.front c.split_at.ensures.back c.if-head-ge12.false c.split_at-2.ensures.front c.split_at-2.ensures.back).1

pub returns : goal.returns
returns c = rw (← c.self.view_is) (spelled_split (record { place = 0; bytes = c.self.inside.bytes.now }) (record { place = 0; bytes = c.split_at-2.result.1.now }) c.split_at.result.0.now c.split_at.result.1.now c.split_at-2.result.0.now c.self.invariant c.if-self-lt2.false c.split_at.ensures.front c.split_at.ensures.back c.if-head-ge12.false c.split_at-2.ensures.front c.split_at-2.ensures.back).0
