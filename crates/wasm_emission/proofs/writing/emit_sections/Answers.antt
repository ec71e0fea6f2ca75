use Rattle.std.proofs.Common.{◌≡◌, [], sym, ap, ◌∙◌, Some, arith}
use Rattle.std.specs.List.{flat_map}
use Rattle.std.specs.Vec.Iter.{into_iter_items}
use Rattle.std.proofs.lemmas.Grind.{common_steps}
use Rattle.std.proofs.lemmas.Result.{err_from_is_err_and}
use Rattle.wasm_ops.proofs.Written.{walked_more, walked_all}
use Rattle.wasm_file.specs.Spelling.{section_bytes}
use Rattle.wasm_emission.specs.Emission.{first_too_large}
use Rattle.wasm_emission.proofs.Large.{large_here, large_later, large_none}
use Rattle.wasm_emission.proofs.writing.emit_sections.Goals as goal

pub returns-in_err-emit_section-clause-err : goal.returns-in_err-emit_section-clause-err
returns-in_err-emit_section-clause-err c = λ s h.
    let p = err_from_is_err_and c.from_residual.result c.from_residual.ensures.1 in
    let told = c.in_err-emit_section.ensures.err s (sym (rw p.2 at p.1) ∙ h) in
    let left = into_iter_items c.next.new.self in
    sym c.loop-section.invariant.3 ∙ ap (first_too_large c.args.longest) c.in-Some.ensures.steps.0 ∙ large_here c.args.longest c.in-Some.section left told.1 ∙ ap Some (sym told.0)

pub loop-section-preserved : goal.loop-section-preserved
loop-section-preserved c =
    let from = into_iter_items c.loop-section.section-iterator in
    let left = into_iter_items c.next.new.self in
    let section = c.in-Some.section in
    let large = sym (ap (first_too_large c.args.longest) c.in-Some.ensures.steps.0) ∙ c.loop-section.invariant.3 in (
      tt,
      tt,
      walked_more section_bytes section from left c.args.out.now.items c.loop-section.out.items c.emit_section.new.out.items (flat_map section_bytes c.args.sections) c.in-Some.ensures.steps.0 c.in_ok-emit_section.ensures.ok.0 c.loop-section.invariant.2,
      sym (large_later c.args.longest section left c.in_ok-emit_section.ensures.ok.1) ∙ large,
    )

pub returns-clause-ok : goal.returns-clause-ok
returns-clause-ok c =
    let from = into_iter_items c.loop-section.section-iterator in
    let none : from ≡ [] = grind (arith, common_steps) in (
      walked_all section_bytes from c.args.out.now.items c.loop-section.out.items (flat_map section_bytes c.args.sections) none c.loop-section.invariant.2,
      sym c.loop-section.invariant.3 ∙ ap (first_too_large c.args.longest) none ∙ large_none c.args.longest,
    )
