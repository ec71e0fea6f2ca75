use Rattle.std.proofs.Common.{◌≡◌, ◌++◌, [], drop, take}
use Rattle.glue_exports.specs.Fronts.{AreKeys}
use Rattle.glue_exports.specs.Printed.{is_placed, places_from}
use Rattle.glue_exports.proofs.places.places.Given as goal

abbrev pub invariant-loop-entry : goal.invariant-loop-entry
invariant-loop-entry l =
    AreKeys l.placed (is_placed (take l.entry-index l.below))
    × (l.items ++ places_from l.root.hosts.now l.root.word l.root.operator (take l.entry-index l.below) (drop l.entry-index l.below)
    ≡ places_from l.root.hosts.now l.root.word l.root.operator [] l.below)
