use Rattle.glue_exports.proofs.Commented.{Lists}
use Rattle.glue_exports.specs.Notes.{comment_lines}
use Rattle.glue_exports.proofs.notes.comment_lines.Given as goal

abbrev pub invariant-loop-line : goal.invariant-loop-line
invariant-loop-line l = Lists l.line-iterator l.lines (comment_lines l.fn.comment)
