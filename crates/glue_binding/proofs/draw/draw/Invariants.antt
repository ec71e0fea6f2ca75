use Rattle.std.proofs.Common.{◌≡◌, take}
use Rattle.values.specs.TextSet.{with_texts}
use Rattle.glue_scope.specs.Scope.{AreDrawn}
use Rattle.glue_binding.proofs.draw.draw.Given as goal

abbrev pub invariant-loop-name : goal.invariant-loop-name
invariant-loop-name g l = record {
  drawn : AreDrawn (g.N.Names.bound l.initial.scope) (take l.name-index l.wanted) l.names;
  bound : g.N.Names.bound l.scope ≡ with_texts (g.N.Names.bound l.initial.scope) l.names;
}
