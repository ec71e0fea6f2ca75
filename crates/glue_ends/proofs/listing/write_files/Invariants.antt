use Rattle.std.proofs.Common.{◌≡◌, take}
use Rattle.std.specs.Io.KnownBytes.{Appends}
use Rattle.glue_ends.specs.Listing.{listing}
use Rattle.glue_ends.proofs.listing.write_files.Given as goal

abbrev pub invariant-loop-file : goal.invariant-loop-file
invariant-loop-file g l = record {
  taken : Appends (g.O.Sink.taken l.initial.output) (g.O.Sink.taken l.output) (listing (take l.file-index l.files));
  kept : g.O.Sink.faults l.output ≡ g.O.Sink.faults l.initial.output;
}
