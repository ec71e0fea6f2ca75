use Rattle.std.proofs.Common.{◌≡◌, ◌++◌, refl, append-nil}
use Rattle.packed_ops.specs.Packed.{packed_bytes}
use Rattle.packed_ops.proofs.PackedAgain.{packed_more}
use Rattle.packed_ops.proofs.packed.Ops.push.Goals as goal

pub invariant_of-self-then-branch : goal.invariant_of-self-then-branch
invariant_of-self-then-branch c = (packed_more (record { place = 0; bytes = c.self.inside.bytes.items }) (record { place = 0; bytes = c.pack_short.new.out.items }) c.args.op.now c.self.invariant (c.in_ok-pack_short.ensures.fits c.if-branch.true) (rw (c.in_ok-pack_short.ensures.bytes, c.if-branch.true) refl)).1

pub returns-then-branch-clause-ok : goal.returns-then-branch-clause-ok
returns-then-branch-clause-ok c = rw (← c.self.view_is) (packed_more (record { place = 0; bytes = c.self.inside.bytes.items }) (record { place = 0; bytes = c.pack_short.new.out.items }) c.args.op.now c.self.invariant (c.in_ok-pack_short.ensures.fits c.if-branch.true) (rw (c.in_ok-pack_short.ensures.bytes, c.if-branch.true) refl)).0

pub invariant_of-self-2 : goal.invariant_of-self-2
invariant_of-self-2 c =
    let left : c.pack_short.new.out.items ≡ c.self.inside.bytes.items = rw (c.in_ok-pack_short.ensures.bytes, c.if-branch.false) (append-nil c.self.inside.bytes.items) in
    let more : c.extend_from_slice.new.self.items ≡ c.self.inside.bytes.items ++ packed_bytes c.args.op.now = rw (c.in_ok-extend_from_slice.ensures.items, left, c.deref.ensures.value, c.in_ok-pack_op.ensures.bytes, c.clear.ensures.items) refl in
    (packed_more (record { place = 0; bytes = c.self.inside.bytes.items }) (record { place = 0; bytes = c.extend_from_slice.new.self.items }) c.args.op.now c.self.invariant c.in_ok-pack_op.ensures.fits more).1

pub returns-clause-ok : goal.returns-clause-ok
returns-clause-ok c =
    let left : c.pack_short.new.out.items ≡ c.self.inside.bytes.items = rw (c.in_ok-pack_short.ensures.bytes, c.if-branch.false) (append-nil c.self.inside.bytes.items) in
    let more : c.extend_from_slice.new.self.items ≡ c.self.inside.bytes.items ++ packed_bytes c.args.op.now = rw (c.in_ok-extend_from_slice.ensures.items, left, c.deref.ensures.value, c.in_ok-pack_op.ensures.bytes, c.clear.ensures.items) refl in
    rw (← c.self.view_is) (packed_more (record { place = 0; bytes = c.self.inside.bytes.items }) (record { place = 0; bytes = c.extend_from_slice.new.self.items }) c.args.op.now c.self.invariant c.in_ok-pack_op.ensures.fits more).0
