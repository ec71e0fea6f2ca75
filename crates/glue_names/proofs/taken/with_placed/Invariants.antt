use Rattle.std.proofs.Common.{◌≡◌, map, drop}
use Rattle.values.specs.TextSet.{with_texts}
use Rattle.glue_shared.specs.Names.{placed_names}
use Rattle.glue_names.proofs.taken.with_placed.Given as goal

abbrev pub invariant-loop-entry : goal.invariant-loop-entry
invariant-loop-entry g l = record {
  placed : l.place ≡ l.entry-index;
  rest : with_texts (g.N.Names.bound l.more) (placed_names (map (λ w. w.now) l.stems) l.entry-index (drop l.entry-index l.entries))
      ≡ with_texts (g.N.Names.bound l.fn.scope) (placed_names (map (λ w. w.now) l.stems) 0 l.entries);
}
