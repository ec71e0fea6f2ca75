use Rattle.std.proofs.Common.{append_assoc, refl}
use Rattle.glue_naming.proofs.asked.push_class.Goals as goal

pub returns : goal.returns
returns c = record {
  pushed = rw (c.in_ok-push-2.ensures.ok, c.in_ok-push.ensures.ok, append_assoc, c.in_ok-copy.ensures.equal, c.in_ok-copy-2.ensures.equal, c.in_ok-from_str.ensures, c.in_ok-key.ensures.name, c.as_slice.ensures, c.as_str.ensures) refl;
}
