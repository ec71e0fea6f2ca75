use Rattle.std.proofs.Common.{◌≡◌, take}
use Rattle.helper_table.specs.Closed.{with_words}
use Rattle.helper_table.proofs.asked.push_words.Given as goal

abbrev pub invariant-loop-word : goal.invariant-loop-word
invariant-loop-word l = l.nodes.items ≡ with_words l.parts l.initial.nodes.items (take l.word-index l.words)
