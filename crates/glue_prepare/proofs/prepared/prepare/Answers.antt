use Rattle.std.proofs.Common.{sym, ap, ◌∙◌}
use Rattle.glue_prepare.proofs.Passed.{passed, finished_as}
use Rattle.glue_prepare.specs.Prepared as spec
use Rattle.glue_prepare.proofs.prepared.prepare.Goals as goal

pub returns-clause-ok : goal.returns-clause-ok
returns-clause-ok c =
    passed c.args.keep_lld_exports c.args.settings c.turn_on_features.new.settings c.args.«module» c.take_marker.new.«module» c.take_marker.ensures.taken
    (c.turn_on_features.ensures.features ∙ ap (spec.with_features c.take_marker.new.«module») c.take_marker.ensures.target)
    (sym c.in_ok-check_target.ensures.first)
    ∙ finished_as c.args.keep_lld_exports c.turn_on_features.new.settings c.take_marker.new.«module» c.add_processed_by.new.self c.are_features_missing-features_missing.result
    (c.in_ok-add_processed_by.ensures.ok ∙ ap spec.with_producer (c.in_ok-own_exception.ensures.owned ∙ ap spec.with_own_exception c.in_ok-drop_unwanted_exports.ensures.dropped))
    c.are_features_missing-features_missing.ensures.test
