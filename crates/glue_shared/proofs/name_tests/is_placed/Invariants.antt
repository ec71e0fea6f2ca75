use Rattle.std.proofs.Common.{◌≡◌, drop, map}
use Rattle.glue_shared.specs.Names.{is_one_of, placed_names}
use Rattle.glue_shared.proofs.name_tests.is_placed.Given as goal

abbrev pub invariant-loop-entry : goal.invariant-loop-entry
invariant-loop-entry g l =
    (l.place ≡ l.entry-index)
    × (is_one_of (placed_names (map (λ w. w.now) l.stems) 0 l.entries) l.name
    ≡ is_one_of (placed_names (map (λ w. w.now) l.stems) l.entry-index (drop l.entry-index l.entries)) l.name)
