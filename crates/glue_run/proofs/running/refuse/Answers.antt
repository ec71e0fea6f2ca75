use Rattle.std.proofs.Common.{sym, ◌∙◌}
use Rattle.glue_run.proofs.Outcomes.{refused_answer}
use Rattle.glue_run.proofs.running.refuse.Goals as goal

pub returns : goal.returns
returns g c = record {
  answered = λ bytes known. refused_answer bytes c.args.fault.now c.tell_fault.result _ _ _ _ (sym c.is_memory.ensures.test ∙ c.if-is_memory.false) known c.tell_fault.ensures.wrote;
}
