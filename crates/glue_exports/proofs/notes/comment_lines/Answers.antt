use Rattle.std.proofs.Common.{◌≡◌}
use Rattle.std.specs.Str.Iter.{lines_rest}
use Rattle.glue_exports.proofs.Commented.{listing_start, listing_more, listing_end}
use Rattle.glue_exports.proofs.notes.comment_lines.Goals as goal

pub loop-line-init : goal.loop-line-init
loop-line-init c =
    let starts : lines_rest c.into_iter-line-iterator.result ≡ c.args.comment.now =
    rw (c.into_iter-line-iterator.ensures.into_iter_gives) c.lines-line-items.ensures.rest in
    rw c.new-lines.ensures (listing_start _ _ starts)

pub loop-line-preserved : goal.loop-line-preserved
loop-line-preserved c =
    rw (c.in_ok-push.ensures.ok, c.in_ok-from_str.ensures, c.unspaced.ensures.line)
    (listing_more _ _ c.in-Some.line _ _ c.in-Some.ensures.steps c.loop-line.invariant)

pub returns : goal.returns
returns c = record { lines = listing_end _ c.next.new.self _ _ c.in-None.ensures.steps c.loop-line.invariant }
