use Rattle.std.proofs.Common.{◌≡◌, map, take}
use Rattle.glue_marked.specs.StandIns.{name_for, renamed_word}
use Rattle.glue_marked.proofs.stand_ins.renamed_words.Given as goal

abbrev pub invariant-loop-word : goal.invariant-loop-word
invariant-loop-word l = l.new ≡ map (renamed_word (name_for l.names) (name_for l.texts)) (take l.word-index l.words)
