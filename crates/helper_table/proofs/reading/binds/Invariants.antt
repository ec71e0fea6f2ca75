use Rattle.std.proofs.Common.{take}
use Rattle.values.specs.Lists.{IsAway}
use Rattle.glue_words.specs.Names.{bound_in}
use Rattle.helper_table.proofs.reading.binds.Given as goal

abbrev pub invariant-loop-word : goal.invariant-loop-word
invariant-loop-word l = IsAway l.name (bound_in (take l.word-index l.words))
