use Rattle.std.proofs.Common.{◌≡◌, ◌++◌, drop}
use Rattle.type_texts.specs.Notes.{param_lines}
use Rattle.type_texts.proofs.notes.param_lines.Given as goal

abbrev pub invariant-loop-ty : goal.invariant-loop-ty
invariant-loop-ty l =
    l.lines ++ param_lines l.buffers l.names (drop l.ty-index l.types) l.rest ≡ param_lines l.buffers l.names l.types l.params
