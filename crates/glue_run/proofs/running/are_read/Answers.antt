use Rattle.std.proofs.Common.{rules, arith, ◌≡◌, ◌∷◌, []}
use Rattle.glue_run.proofs.Pairs.{pair_of}
use Rattle.glue_run.proofs.running.are_read.Goals as goal

pub returns-then-eq : goal.returns-then-eq
returns-then-eq c =
    let both : c.args.words.now ≡ c.first-item.result ∷ c.second-item.result ∷ [] =
    pair_of c.args.words.now _ _ (grind arith) c.first-item.is c.second-item.is in
    rw both (search rules)
