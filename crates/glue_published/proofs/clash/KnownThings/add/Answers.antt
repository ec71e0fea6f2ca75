use Rattle.glue_published.proofs.Known.{known_more}
use Rattle.glue_published.proofs.clash.KnownThings.add.Goals as goal

pub returns : goal.returns
returns c = record {
  known = λ things known.
      rw (c.in_ok-insert.ensures.entries, c.in_ok-copy.ensures.equal, c.in_ok-add_declared.ensures.added)
      (known_more _ _ _ things known c.args.thing.now _ c.args.fronts.items c.in_ok-add_paths.ensures.added c.requires.fronts);
}
