use Rattle.std.proofs.Common.{Result, Ok, Err, OnOk, ◌<◌}
use Rattle.glue_words.specs.Names.{used_in}
use Rattle.helper_set.proofs.Entries.{all_found}
use Rattle.helper_set.proofs.closing.ReferencesGraph.push_names.Goals as goal

always : {A E : Type 0} (P : Type 0) → (r : Result A E) → P → OnOk r P
always P (Ok x) h = h
always P (Err e) h = tt

pub returns-clause-within : goal.returns-clause-within
returns-clause-within g c =
    let table = c.args.self.now.table.now in
    always _ c.push_referred.result (all_found (λ other. other < g.T.Table.count table) (g.T.Table.binder table) (λ name i e. (g.met.T.Table.binds table name i e).0) (used_in (g.T.Table.words table c.args.node)))
