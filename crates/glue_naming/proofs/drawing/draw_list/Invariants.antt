use Rattle.std.proofs.Common.{◌≡◌, [], length, take}
use Rattle.values.specs.TextSet.{with_texts}
use Rattle.glue_scope.specs.Scope.{AreDrawn}
use Rattle.glue_naming.specs.Drawing.{AreKept, turn_names}
use Rattle.glue_naming.proofs.Draws.{last_name}
use Rattle.glue_naming.proofs.drawing.draw_list.Given as goal

abbrev pub invariant-loop-wanted : goal.invariant-loop-wanted
invariant-loop-wanted g l = record {
  count : length l.names ≡ length (take l.wanted-index l.list);
  last : l.last ≡ last_name [] l.names;
  drawn : AreDrawn (g.N.Names.bound l.initial.scope) (turn_names [] (take l.wanted-index l.list) l.names) l.names;
  kept : AreKept (g.N.Names.bound l.initial.scope) (turn_names [] (take l.wanted-index l.list) l.names) l.names;
  bound : g.N.Names.bound l.scope ≡ with_texts (g.N.Names.bound l.initial.scope) l.names;
}
