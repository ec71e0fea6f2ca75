use Rattle.std.proofs.Common.{ℕ, List, []}
use Rattle.std.specs.Vec.Iter.{into_iter_items}
use Rattle.glue_exports.specs.Tree.{Entry}
use Rattle.glue_public.specs.Described.{ArePut, IsRefused}
use Rattle.glue_public.proofs.tree.defined_tree.Given as goal

-- what is made of the definitions that are left and the tree is made of all of them
abbrev pub invariant-loop-one : goal.invariant-loop-one
invariant-loop-one l =
    goal.iterator-loop-one.can_next l.one-iterator
    × goal.iterator-loop-one.is_finite l.one-iterator
    × ((new : List Entry) → ArePut (into_iter_items l.one-iterator) l.tree new → ArePut l.fn.definitions [] new)
    × ((name : List ℕ) → IsRefused (into_iter_items l.one-iterator) l.tree name → IsRefused l.fn.definitions [] name)
