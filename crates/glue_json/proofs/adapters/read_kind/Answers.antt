use Rattle.glue_json.proofs.adapters.read_kind.Goals as goal

pub returns-in-Some-call-clause-ok : goal.returns-in-Some-call-clause-ok
returns-in-Some-call-clause-ok c = tt
