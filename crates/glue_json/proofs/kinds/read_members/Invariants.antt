use Rattle.std.proofs.Common.{◌≡◌, []}
use Rattle.serde_json.specs.View.{members_view}
use Rattle.glue_json.specs.Reading.{put_members}
use Rattle.glue_json.proofs.kinds.read_members.Given as goal

abbrev pub invariant-loop-key : goal.invariant-loop-key
invariant-loop-key g l =
    put_members (g.T.Reads.reads l.counts) [] (members_view l.members.entries)
    ≡ put_members (g.T.Reads.reads l.counts) l.entries (members_view l.key-iterator)
