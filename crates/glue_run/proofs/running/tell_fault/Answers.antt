use Rattle.std.proofs.Common.{inr, refl, ◌∙◌, subst, arith}
use Rattle.cli_support.proofs.Prefixes.{prefix_none}
use Rattle.glue_run.specs.Outcome.{Wrote}
use Rattle.glue_run.proofs.running.tell_fault.Goals as goal

pub returns-in-Ok : goal.returns-in-Ok
returns-in-Ok g c =
    let taken = g.O.Sink.taken in
    let faults = g.O.Sink.faults in
    record {
      wrote = subst (λ text. Wrote 1 text c.tell.result (taken c.args.output.now) (taken c.tell.new.output) (faults c.args.output.now) (faults c.tell.new.output))
          (c.as_str.ensures.value ∙ c.in-Ok.ensures.line) c.tell.ensures.wrote;
    }

-- nothing is written where there is no memory for the line
pub returns-in-Err : goal.returns-in-Err
returns-in-Err g c = record {
  wrote = record {
    known = inr (inr refl);
    all = λ one. absurd (omega (arith, one));
    prefix = prefix_none _ _;
    failed = λ four. absurd (omega (arith, four));
    kept = λ other short. refl;
    later = omega arith;
  };
}
