use Rattle.std.proofs.Common.{◌≡◌, ◌++◌, map, take}
use Rattle.glue_lines.specs.Vendor.{closing_word}
use Rattle.glue_lines.proofs.vendor.push_closed.Given as goal

abbrev pub invariant-loop-name : goal.invariant-loop-name
invariant-loop-name l = l.words ≡ l.initial.words ++ map closing_word (take l._name-index l.names)
