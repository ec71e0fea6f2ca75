use Rattle.std.proofs.Common.{rules}
use Rattle.glue_ends.proofs.listing.heading_of.Goals as goal

pub returns : goal.returns
returns c = search rules
