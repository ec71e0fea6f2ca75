use Rattle.std.proofs.Common.{◌≡◌, ◌+◌, ◌++◌, map, take, drop, count_by}
use Rattle.std.specs.List.{enumerate_from}
use Rattle.wasm_emission.specs.Renumbering.{is_first, is_other, number_of}
use Rattle.wasm_emission.proofs.numbering.add_numbers.Given as goal

abbrev pub invariant-loop-entry : goal.invariant-loop-entry
invariant-loop-entry g l = record {
  numbers : l.out ++ map (number_of g.T.Numbered.test l.entries) (enumerate_from l.entry-index (drop l.entry-index l.entries)) ≡ l.fn.out ++ map (number_of g.T.Numbered.test l.entries) (enumerate_from 0 l.entries);
  imported : l.next.imported ≡ count_by (is_first g.T.Numbered.test) (take l.entry-index l.entries);
  own : l.next.own ≡ count_by (is_first g.T.Numbered.test) l.entries + count_by (is_other g.T.Numbered.test) (take l.entry-index l.entries);
}
