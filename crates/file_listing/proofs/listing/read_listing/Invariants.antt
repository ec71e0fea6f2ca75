use Rattle.std.proofs.Common.{◌≡◌, ◌++◌, length}
use Rattle.glue_ends.specs.Listing.{listing}
use Rattle.file_listing.specs.Reading.{AreListable}
use Rattle.file_listing.proofs.listing.read_listing.Given as goal

abbrev pub invariant-loop-rest : goal.invariant-loop-rest
invariant-loop-rest l = record {
  listable : AreListable l.files;
  whole : l.text ≡ listing l.files ++ l.rest;
}

abbrev pub decreases-loop-rest : goal.decreases-loop-rest
decreases-loop-rest l = length l.rest
