use Rattle.std.proofs.Common.{refl, sym, ◌∙◌}
use Rattle.std.proofs.lemmas.Bool.{le-leb}
use Rattle.wasm_file.specs.Parts.{most}
use Rattle.wasm_file.proofs.lists.read_segment_count.Goals as goal

pub returns-then-is_told-clause-value : goal.returns-then-is_told-clause-value
returns-then-is_told-clause-value c = rw (c.in_ok-count.ensures.value, le-leb c.in_ok-count.count most c.if-count-le-MOST.true, sym c.is_told.ensures ∙ c.if-is_told.true) refl
