use Rattle.std.proofs.Common.{◌≡◌, ℕ, ◌+◌, ◌-◌, List, drop, sym, ap, ◌∙◌, subst, arith}
use Rattle.wasm_core.specs.ids.ExportId.{ExportId}
use Rattle.glue_steps.specs.Callbacks.{GivesExport}
use Rattle.glue_steps.proofs.FirstExports.{gives_more}
use Rattle.glue_steps.proofs.callbacks.first_exports.Goals as goal

pub loop-place-preserved : goal.loop-place-preserved
loop-place-preserved c =
    let entries = c.args.entries.now in
    let place = c.loop-place.place - 1 in
    let back : c.loop-place.place ≡ place + 1 = omega arith in
    let entry = c.index-entries-place.result in
    let new = c.in_ok-put.ensures.added in
    record {
      gives = subst (λ (exports : List (ℕ × ExportId)). GivesExport exports (drop place entries)) (sym new)
          (gives_more c.loop-place.exports entries place entry (omega arith) c.index-entries-place.is
          (subst (λ (k : ℕ). GivesExport c.loop-place.exports (drop k entries)) back c.loop-place.invariant.gives));
      within = omega arith;
    }
