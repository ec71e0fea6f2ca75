use Rattle.std.proofs.Common.{◌≤◌, ◌<◌, length, arith, ap, ◌∙◌}
use Rattle.std.proofs.lemmas.Grind.{common_steps}
use Rattle.glue_prepare.specs.Prepared.{without_linker_export_at}
use Rattle.glue_prepare.proofs.Dropped.{dropped_more, dropped_all}
use Rattle.glue_prepare.proofs.linker.drop_linker_exports.Goals as goal

pub loop-place-preserved : goal.loop-place-preserved
loop-place-preserved c =
    let within : c.loop-place.place < length c.args.«module».now.exports = grind (arith, common_steps) in
    c.drop_linker_export.ensures.dropped
    ∙ ap (λ place. without_linker_export_at place c.loop-place.«module») c.in_ok-id_at.ensures.id
    ∙ ap (without_linker_export_at c.loop-place.place) c.loop-place.invariant
    ∙ dropped_more c.args.«module».now c.loop-place.place within

pub returns : goal.returns
returns c =
    let past : length c.args.«module».now.exports ≤ c.loop-place.place = grind (arith, common_steps) in
    record { dropped = c.loop-place.invariant ∙ dropped_all c.args.«module».now c.loop-place.place past }
