use Rattle.std.proofs.Common.{◌∙◌, arith, rules}
use Rattle.std.proofs.KnownBytes.{Appends-trans}
use Rattle.std.proofs.lemmas.Result.{on_ok_weaker}
use Rattle.glue_ends.proofs.Prefixes.{prefix_first, prefix_second}
use Rattle.glue_ends.proofs.Refusals.{same_error, rose_after}
use Rattle.glue_ends.proofs.listing.write_entry.Goals as goal

pub returns-in_err-write_heading : goal.returns-in_err-write_heading
returns-in_err-write_heading g c = record {
  ok = search rules;
  prefix = prefix_first _ _ _ _ c.write_heading.ensures.prefix;
  later = c.write_heading.ensures.later;
  failed = λ is. c.write_heading.ensures.failed (same_error _ _ c.in_err-write_heading.was c.from_residual.ensures.1 is);
  kept = search rules;
}

pub returns-in_err-write_bytes : goal.returns-in_err-write_bytes
returns-in_err-write_bytes g c = record {
  ok = search rules;
  prefix = prefix_second _ _ _ _ _ c.in_ok-write_heading.ensures.ok (prefix_first _ _ _ _ c.write_bytes.ensures.prefix);
  later = omega (arith, c.write_heading.ensures.later, c.write_bytes.ensures.later);
  failed = λ is. rose_after _ _ _ c.write_heading.ensures.later (c.write_bytes.ensures.failed (same_error _ _ c.in_err-write_bytes.was c.from_residual-in_err-write_bytes.ensures.1 is));
  kept = search rules;
}

pub returns : goal.returns
returns g c = record {
  ok = on_ok_weaker c.write_all.result (λ last. Appends-trans _ _ _ _ _ c.in_ok-write_heading.ensures.ok (Appends-trans _ _ _ _ _ c.in_ok-write_bytes.ensures.ok last)) c.write_all.ensures.ok;
  prefix = prefix_second _ _ _ _ _ c.in_ok-write_heading.ensures.ok (prefix_second _ _ _ _ _ c.in_ok-write_bytes.ensures.ok c.write_all.ensures.prefix);
  later = omega (arith, c.write_heading.ensures.later, c.write_bytes.ensures.later, c.write_all.ensures.later);
  failed = λ is. rose_after _ _ _ c.write_heading.ensures.later (rose_after _ _ _ c.write_bytes.ensures.later (c.write_all.ensures.failed is));
  kept = on_ok_weaker c.write_all.result (λ last. last ∙ c.in_ok-write_bytes.ensures.kept ∙ c.in_ok-write_heading.ensures.kept) c.write_all.ensures.kept;
}
