use Rattle.std.proofs.Common.{arith, sym, ◌∙◌}
use Rattle.glue_lower.proofs.Sections.{two_found}
use Rattle.glue_lower.proofs.lowering.glue_section.Goals as goal

pub returns-then-is_some-clause-failed : goal.returns-then-is_some-clause-failed
returns-then-is_some-clause-failed c = λ _.
    two_found c.args.customs.now c.loop-custom.custom-index c.loop-custom.found c.custom-item.result
    c.loop-custom.invariant (sym c.is_some.ensures ∙ c.if-is_some.true) c.custom-item.is (omega arith) cc

pub returns-then-is_some-clause-ok : goal.returns-then-is_some-clause-ok
returns-then-is_some-clause-ok c = tt
