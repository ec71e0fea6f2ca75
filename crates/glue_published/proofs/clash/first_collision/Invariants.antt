use Rattle.std.proofs.Common.{◌≡◌, List, drop}
use Rattle.glue_faults.specs.Clash.{first_clash_after, first_clash}
use Rattle.glue_published.specs.declared.things.PublishedThing.{PublishedThing}
use Rattle.glue_published.specs.Clash.{collide, AreKnown}
use Rattle.glue_published.proofs.clash.first_collision.Given as goal

-- what is known is known of the things that were passed
abbrev pub invariant-loop-thing : goal.invariant-loop-thing
invariant-loop-thing l =
    (passed : List PublishedThing)
    × AreKnown l.known.names l.known.declared l.known.fronts passed
    × (first_clash_after collide passed (drop l.thing-index l.things) ≡ first_clash collide l.things)
