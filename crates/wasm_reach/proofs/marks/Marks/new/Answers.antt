use Rattle.wasm_reach.proofs.MarkSteps.{unmarked_by}
use Rattle.wasm_reach.proofs.marks.Marks.new.Goals as goal

pub returns : goal.returns
returns c =
    unmarked_by c.args.sizes.now _ _ _ _ _ _ _ _ c.in_ok-no_marks.ensures c.in_ok-no_marks-2.ensures c.in_ok-no_marks-3.ensures c.in_ok-no_marks-4.ensures c.in_ok-no_marks-5.ensures c.in_ok-no_marks-6.ensures c.in_ok-no_marks-7.ensures c.in_ok-no_marks-8.ensures
