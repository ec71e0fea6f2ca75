use Rattle.glue_run.proofs.running.answer.Goals as goal

pub returns-in-Err : goal.returns-in-Err
returns-in-Err g c = record { answered = c.refuse.ensures.answered c.args.bytes.items c.in-Err.ensures.cause }
