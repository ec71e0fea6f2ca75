use Rattle.std.proofs.Common.{◌≡◌, true, refl, ap}
use Rattle.glue_ends.proofs.Prefixes.{prefix_none, prefix_whole}
use Rattle.glue_ends.proofs.memory.MemSinkSink.write_all.Goals as goal

pub returns-then-next_fails : goal.returns-then-next_fails
returns-then-next_fails c = rw (← c.self.view_is) record {
  ok = tt;
  prefix = prefix_none _ _;
  later = c.next_fails.ensures.later;
  failed = λ _. c.next_fails.ensures.rose c.if-next_fails.true;
  kept = tt;
  nothing = refl;
  calls = c.next_fails.ensures.made;
  fails = ap (λ v. v.items) c.next_fails.ensures.same;
  listed = (λ _. c.next_fails.ensures.listed.0 c.if-next_fails.true, λ _. refl);
}

pub returns : goal.returns
returns c = rw (← c.self.view_is) record {
  ok = c.in_ok-extend_from_slice.ensures.items;
  prefix = prefix_whole _ _ _ c.in_ok-extend_from_slice.ensures.items;
  later = c.next_fails.ensures.later;
  failed = λ is. cc;
  kept = c.next_fails.ensures.kept c.if-next_fails.false;
  nothing = tt;
  calls = c.next_fails.ensures.made;
  fails = ap (λ v. v.items) c.next_fails.ensures.same;
  listed = (λ is. cc, λ found. let fails : c.next_fails.result ≡ true = c.next_fails.ensures.listed.1 found in cc);
}
