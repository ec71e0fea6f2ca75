use Rattle.std.proofs.Common.{Result, Ok, Err, OnOk}
use Rattle.printed_adapters.specs.Places.{id_at}
use Rattle.printed_adapters.specs.Printed.{closures_by}
use Rattle.printed_adapters.proofs.Making.{made_within}
use Rattle.printed_adapters.proofs.closures.MakersGraph.push_names.Goals as goal

always : {A E : Type 0} (P : Type 0) → (r : Result A E) → P → OnOk r P
always P (Ok x) h = h
always P (Err e) h = tt

pub returns-clause-within : goal.returns-clause-within
returns-clause-within c =
    let ids = c.args.self.now.places.now in
    always _ c.push_adapter.result (made_within ids (closures_by c.args.self.now.lowered.now (id_at ids c.args.node)))
