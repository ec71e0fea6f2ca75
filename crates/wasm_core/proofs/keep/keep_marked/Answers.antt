use Rattle.std.proofs.Common.{◌<◌, ◌≤◌, rules, get_or, false, length}
use Rattle.wasm_core.proofs.Kept.{kept_begins, kept_steps, kept_ends}
use Rattle.wasm_core.proofs.keep.keep_marked.Goals as goal

pub loop-place-init : goal.loop-place-init
loop-place-init g c = kept_begins (λ i. get_or c.args.marks.now i false) c.args.entries.now.items

pub loop-place-preserved : goal.loop-place-preserved
loop-place-preserved g c =
    let lt : c.loop-place.place < length c.args.entries.now.items = search rules in
    kept_steps (λ i. get_or c.args.marks.now i false) c.args.entries.now.items c.loop-place.entries.items c.keep_if.new.entries.items c.loop-place.place c.mark_at.result lt c.mark_at.ensures c.loop-place.invariant c.keep_if.ensures

pub returns : goal.returns
returns g c =
    let le : length c.args.entries.now.items ≤ c.loop-place.place = search rules in
    kept_ends (λ i. get_or c.args.marks.now i false) c.args.entries.now.items c.loop-place.entries.items c.loop-place.place le c.loop-place.invariant
