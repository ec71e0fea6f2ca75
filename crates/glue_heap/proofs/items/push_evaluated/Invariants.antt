use Rattle.std.proofs.Common.{◌≡◌, ◌++◌, map, take}
use Rattle.glue_heap.specs.HeapItems.{evaluated}
use Rattle.glue_heap.proofs.items.push_evaluated.Given as goal

abbrev pub invariant-loop-word : goal.invariant-loop-word
invariant-loop-word l = l.words ≡ l.initial.words ++ map evaluated (take l.word-index l.more)
