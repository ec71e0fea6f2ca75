use Rattle.std.specs.Prelude.{Ok, Err}
use Rattle.cli_support.proofs.Answered.{handed, handed_flags, handed_on, tests_refused, taken_refused, ready_of, ready_refused, lower_refused, check_refused, output_made, check_lowers_none, prepare_lowers_none, not_lower, memory_out}
use Rattle.cli_support.proofs.bindgen.Bindgen.generate_output.Goals as goal

pub returns-in_err-check_input-clause-cause : goal.returns-in_err-check_input-clause-cause
returns-in_err-check_input-clause-cause g c =
    let told = g.L.Lowering.told c.args.lowering.now in
    let f = c.in_err-check_input.field-0.0 in
    handed_on told c.args.self.now c.from_residual.result f c.from_residual.ensures.1 (tests_refused told c.args.self.now f c.in_err-check_input.ensures.refused)

pub returns-in_err-module-clause-cause : goal.returns-in_err-module-clause-cause
returns-in_err-module-clause-cause g c =
    let told = g.L.Lowering.told c.args.lowering.now in
    let f = c.in_err-module.field-0.0 in
    handed_on told c.args.self.now c.from_residual-in_err-module.result f c.from_residual-in_err-module.ensures.1
    (taken_refused told c.args.self.now f c.in_ok-check_input.ensures.ok c.in_err-module.ensures.step)

pub returns-in_err-settings-2-clause-cause : goal.returns-in_err-settings-2-clause-cause
returns-in_err-settings-2-clause-cause g c =
    let told = g.L.Lowering.told c.args.lowering.now in
    let f = c.in_err-settings-2.field-0.0 in
    let h = handed c.args.self.now c.take_module.new.self c.keeps_lld_exports.result c.in_ok-settings.settings c.in_ok-settings.«module» c.in_ok-module.«module» c.in_ok-module.ensures.step c.in_ok-module.ensures.kept c.keeps_lld_exports.ensures.keeps c.in_ok-settings.ensures.both in
    handed_on told c.args.self.now c.from_residual-in_err-settings-2.result f c.from_residual-in_err-settings-2.ensures.1
    (ready_refused told c.args.self.now f (λ other. ready_of c.args.self.now c.keeps_lld_exports.result c.in_ok-settings.settings c.in_ok-settings.«module» (Err f) c.in_ok-check_input.ensures.ok h (c.in_err-settings-2.ensures.fault other)))

pub returns-in_err-settings-2-clause-lower : goal.returns-in_err-settings-2-clause-lower
returns-in_err-settings-2-clause-lower g c = λ e.
    let f = c.in_err-settings-2.field-0.0 in
    absurd (not_lower c.from_residual-in_err-settings-2.result f c.from_residual-in_err-settings-2.ensures.1
    (prepare_lowers_none c.keeps_lld_exports.result c.in_ok-settings.settings c.in_ok-settings.«module» f c.in_err-settings-2.ensures.fault) e)

pub returns-in_err-lowered-clause-cause : goal.returns-in_err-lowered-clause-cause
returns-in_err-lowered-clause-cause g c =
    let told = g.L.Lowering.told c.args.lowering.now in
    let f = c.in_err-lowered.field-0.0 in
    let h = handed c.args.self.now c.take_module.new.self c.keeps_lld_exports.result c.in_ok-settings.settings c.in_ok-settings.«module» c.in_ok-module.«module» c.in_ok-module.ensures.step c.in_ok-module.ensures.kept c.keeps_lld_exports.ensures.keeps c.in_ok-settings.ensures.both in
    let p = c.in_ok-settings-2.field-0 in
    let given = ready_of c.args.self.now c.keeps_lld_exports.result c.in_ok-settings.settings c.in_ok-settings.«module» (Ok p) c.in_ok-check_input.ensures.ok h c.in_ok-settings-2.ensures.ok in
    handed_on told c.args.self.now c.from_residual-in_err-lowered.result f c.from_residual-in_err-lowered.ensures.1
    (lower_refused told c.args.self.now p given f c.in_err-lowered.ensures.refused)

pub returns-in_err-checked-clause-cause : goal.returns-in_err-checked-clause-cause
returns-in_err-checked-clause-cause g c =
    let told = g.L.Lowering.told c.args.lowering.now in
    let f = c.in_err-checked.field-0.0 in
    let h = handed c.args.self.now c.take_module.new.self c.keeps_lld_exports.result c.in_ok-settings.settings c.in_ok-settings.«module» c.in_ok-module.«module» c.in_ok-module.ensures.step c.in_ok-module.ensures.kept c.keeps_lld_exports.ensures.keeps c.in_ok-settings.ensures.both in
    let p = c.in_ok-settings-2.field-0 in
    let given = ready_of c.args.self.now c.keeps_lld_exports.result c.in_ok-settings.settings c.in_ok-settings.«module» (Ok p) c.in_ok-check_input.ensures.ok h c.in_ok-settings-2.ensures.ok in
    handed_on told c.args.self.now c.from_residual-in_err-checked.result f c.from_residual-in_err-checked.ensures.1
    (check_refused told c.args.self.now p given c.in_ok-lowered.lowered c.in_ok-lowered-2.lowered c.in_ok-lowered.ensures.ok c.in_ok-lowered-2.ensures.collected
    c.file_flags.result (handed_flags c.args.self.now c.take_module.new.self c.file_flags.result c.file_flags.ensures.flags c.in_ok-module.ensures.kept) f c.in_err-checked.ensures.fault)

pub returns-in_err-checked-clause-lower : goal.returns-in_err-checked-clause-lower
returns-in_err-checked-clause-lower g c = λ e.
    let f = c.in_err-checked.field-0.0 in
    absurd (not_lower c.from_residual-in_err-checked.result f c.from_residual-in_err-checked.ensures.1
    (check_lowers_none c.file_flags.result c.in_ok-settings-2.field-0.settings c.in_ok-lowered-2.lowered f c.in_err-checked.ensures.fault) e)

pub returns-in_err-hosts-clause-cause : goal.returns-in_err-hosts-clause-cause
returns-in_err-hosts-clause-cause g c =
    memory_out (g.L.Lowering.told c.args.lowering.now) c.args.self.now c.from_residual-in_err-hosts.result c.from_residual-in_err-hosts.ensures.1

pub returns-clause-made : goal.returns-clause-made
returns-clause-made g c =
    let told = g.L.Lowering.told c.args.lowering.now in
    let h = handed c.args.self.now c.take_module.new.self c.keeps_lld_exports.result c.in_ok-settings.settings c.in_ok-settings.«module» c.in_ok-module.«module» c.in_ok-module.ensures.step c.in_ok-module.ensures.kept c.keeps_lld_exports.ensures.keeps c.in_ok-settings.ensures.both in
    let p = c.in_ok-settings-2.field-0 in
    let given = ready_of c.args.self.now c.keeps_lld_exports.result c.in_ok-settings.settings c.in_ok-settings.«module» (Ok p) c.in_ok-check_input.ensures.ok h c.in_ok-settings-2.ensures.ok in
    output_made told c.args.self.now p given c.in_ok-lowered.lowered c.in_ok-lowered-2.lowered c.in_ok-lowered.ensures.ok c.in_ok-lowered-2.ensures.collected
    c.file_flags.result (handed_flags c.args.self.now c.take_module.new.self c.file_flags.result c.file_flags.ensures.flags c.in_ok-module.ensures.kept)
    c.in_ok-checked.checked c.in_ok-hosts.hosts c.in_ok-hosts.keys c.in_ok-items.items c.in_ok-items.«module» c.in_ok-new.field-0
    c.in_ok-checked.ensures.files c.in_ok-checked.ensures.settings c.in_ok-checked.ensures.lowered c.in_ok-hosts.ensures.hosts c.in_ok-hosts.ensures.keys c.in_ok-items.ensures.items c.in_ok-items.ensures.rewritten c.in_ok-new.ensures.made

-- ---- the module was taken

pub returns-in_err-hosts-clause-after : goal.returns-in_err-hosts-clause-after
returns-in_err-hosts-clause-after g c = c.in_ok-module.ensures.spent c.in_ok-check_input.ensures.ok

pub returns-in_err-items-clause-after : goal.returns-in_err-items-clause-after
returns-in_err-items-clause-after g c = c.in_ok-module.ensures.spent c.in_ok-check_input.ensures.ok

pub returns-in_err-new-clause-after : goal.returns-in_err-new-clause-after
returns-in_err-new-clause-after g c = c.in_ok-module.ensures.spent c.in_ok-check_input.ensures.ok

pub returns-clause-after : goal.returns-clause-after
returns-clause-after g c = c.in_ok-module.ensures.spent c.in_ok-check_input.ensures.ok
