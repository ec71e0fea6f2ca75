use Rattle.std.proofs.Common.{◌≡◌, map, take}
use Rattle.glue_unpack.specs.Putting.{put_of, Puts}
use Rattle.glue_unpack.proofs.unpacking.put_all.Given as goal

abbrev pub invariant-loop-place : goal.invariant-loop-place
invariant-loop-place g l = record {
  put : Puts (g.F.Folder.files l.fn.folder) (g.F.Folder.files l.folder) (map put_of (take l.place l.files));
  kept : g.F.Folder.faults l.folder ≡ g.F.Folder.faults l.fn.folder;
}
