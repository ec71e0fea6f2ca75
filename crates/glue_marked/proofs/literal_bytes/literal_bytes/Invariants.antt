use Rattle.std.proofs.Common.{◌≡◌, drop}
use Rattle.glue_words.specs.Literal.{read_from, read_literal, prepend}
use Rattle.glue_marked.specs.LiteralAt.{reading_of, IsSmall}
use Rattle.glue_marked.proofs.literal_bytes.literal_bytes.Given as goal

abbrev pub invariant-loop-byte : goal.invariant-loop-byte
invariant-loop-byte l = record {
  small : IsSmall l.at;
  reads : prepend l.out.items (read_from (reading_of l.at) (drop l.byte-index l.front)) ≡ read_literal l.front;
}
