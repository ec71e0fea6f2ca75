use Rattle.std.proofs.Common.{◌≡◌, Option, IfOk, subst}
use Rattle.glue_faults.specs.declared.fault.Fault.{Fault}
use Rattle.glue_check.proofs.Conditions.{verdict_is}
use Rattle.glue_check.proofs.verdict.first_met.Goals as goal

pub returns : goal.returns
returns c =
    let Answers : Option Fault → Type 0 = λ first. IfOk c.first_answer.result (λ fault. fault ≡ first) in
    record { fault = subst Answers (verdict_is c.args.files c.args.settings.now c.args.lowered.now) c.first_answer.ensures.fault }
