use Rattle.std.proofs.Common.{◌≡◌, take}
use Rattle.std.specs.List.{flat_map}
use Rattle.glue_marked.specs.StandIns.{spread_word}
use Rattle.glue_marked.proofs.stand_ins.spread_words.Given as goal

abbrev pub invariant-loop-word : goal.invariant-loop-word
invariant-loop-word l = l.new ≡ flat_map (spread_word l.spreads) (take l.word-index l.words)
