use Rattle.std.proofs.Common.{sym, rules}
use Rattle.std.proofs.lemmas.Bool.{eqb-true}
use Rattle.std.proofs.lemmas.List.{nil_from_length}
use Rattle.glue_ends.proofs.Writing.{up_to_start, up_to_more, up_to_kept, up_to_prefix, up_to_end}
use Rattle.glue_ends.proofs.standard.write_whole.Goals as goal

pub loop-rest-init : goal.loop-rest-init
loop-rest-init g c = up_to_start _ _

pub loop-rest-preserved : goal.loop-rest-preserved
loop-rest-preserved g c = rw c.split_at.ensures.back (up_to_more _ _ _ _ _ c.in_ok-count.count c.loop-rest.invariant c.in_ok-count.ensures.bytes)

pub returns : goal.returns
returns g c =
    let empty = nil_from_length _ (eqb-true _ _ (sym c.loop-rest-test.ensures)) in
    let flushed = up_to_kept _ _ _ _ _ c.loop-rest.invariant c.flush.ensures.bytes in
    let all = up_to_end _ _ _ _ empty flushed in
    record { ok = search rules; prefix = up_to_prefix _ _ _ _ flushed }
