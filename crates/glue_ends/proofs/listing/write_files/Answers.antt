use Rattle.std.proofs.Common.{◌∙◌, arith}
use Rattle.glue_ends.proofs.Prefixes.{prefix_whole, prefix_listing, appends_next, appends_all}
use Rattle.glue_ends.specs.Listing.{entry}
use Rattle.glue_ends.proofs.listing.write_files.Goals as goal

pub loop-file-preserved : goal.loop-file-preserved
loop-file-preserved g c = record {
  taken = appends_next entry _ _ c.file-item.result _ _ _ c.loop-file-test.true c.file-item.is c.loop-file.invariant.taken c.in_ok-write_entry.ensures.ok;
  kept = c.in_ok-write_entry.ensures.kept ∙ c.loop-file.invariant.kept;
}

pub returns-in_err-write_entry-clause-prefix : goal.returns-in_err-write_entry-clause-prefix
returns-in_err-write_entry-clause-prefix g c =
    prefix_listing entry _ _ c.file-item.result _ _ _ c.loop-file-test.true c.file-item.is c.loop-file.invariant.taken c.write_entry.ensures.prefix

pub returns : goal.returns
returns g c =
    let all = appends_all entry _ _ _ _ c.loop-file-test.false c.loop-file.invariant.taken in
    record { ok = all; prefix = prefix_whole _ _ _ all; later = omega (arith, c.loop-file.invariant.kept); failed = λ is. cc; kept = c.loop-file.invariant.kept }
