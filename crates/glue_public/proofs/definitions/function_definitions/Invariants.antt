use Rattle.std.proofs.Common.{◌≡◌, ◌++◌, map}
use Rattle.std.specs.Vec.Iter.{into_iter_items}
use Rattle.glue_public.specs.Described.{zipped}
use Rattle.glue_public.proofs.definitions.function_definitions.Given as goal

-- the functions that are left give what is missing
abbrev pub invariant-loop-identifier : goal.invariant-loop-identifier
invariant-loop-identifier l =
    goal.iterator-loop-identifier.can_next l.identifier-iterator
    × goal.iterator-loop-identifier.is_finite l.identifier-iterator
    × (l.definitions ++ zipped (map (λ e. e.now) l.waiting) (into_iter_items l.identifier-iterator)
    ≡ zipped (map (λ e. e.now) l.lone) l.fn.functions)
