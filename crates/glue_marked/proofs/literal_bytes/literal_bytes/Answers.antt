use Rattle.glue_words.specs.Literal.{Start, read_from, read_literal}
use Rattle.glue_marked.proofs.MarkedLiterals.{prepend_nil}
use Rattle.glue_marked.proofs.literal_bytes.literal_bytes.Goals as goal

pub loop-byte-init : goal.loop-byte-init
unfolding read_literal
loop-byte-init c =
    record { small = tt; reads = rw c.new-out.ensures.items (prepend_nil (read_from Start c.args.front.now)) }
