use Rattle.std.proofs.Common.{◌≡◌, ◌-◌, ◌+◌, length}
use Rattle.std.specs.Io.KnownBytes.{Consumes}
use Rattle.glue_ends.proofs.reading.read_whole.Given as goal

abbrev pub decreases-reading : goal.decreases-reading
decreases-reading g l = (l.limit + 1) - length l.bytes.items

abbrev pub invariant-reading : goal.invariant-reading
invariant-reading g l = record {
  room : length l.buf.items ≡ l.fn.piece;
  taken : Consumes (g.I.Source.left l.fn.input) (g.I.Source.left l.input) l.bytes.items;
  kept : g.I.Source.faults l.input ≡ g.I.Source.faults l.fn.input;
}
