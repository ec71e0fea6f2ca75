use Rattle.glue_published.proofs.Seen.{parent_added}
use Rattle.glue_published.proofs.reexports.add_parent.Goals as goal

pub returns-in_ok-insert : goal.returns-in_ok-insert
returns-in_ok-insert c = record {
  added = λ name.
      rw (c.in_ok-insert.ensures.entries, c.in_ok-copy.ensures.equal, c.in-Some.ensures.cases.0)
      (parent_added c.args.set.now c.in-Some.segment.now c.in-Some.rest.now name c.if-not-is_empty.ensures);
}
