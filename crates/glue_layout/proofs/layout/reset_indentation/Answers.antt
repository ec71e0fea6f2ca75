use Rattle.std.proofs.Common.{◌≡◌, map, ap, ◌∙◌, arith}
use Rattle.std.specs.Str.{trim}
use Rattle.std.specs.Str.Iter.{lines_rest}
use Rattle.std.specs.Str.Lines.{lines}
use Rattle.glue_layout.proofs.Characters.{indented_twice, keeps_lines}
use Rattle.glue_layout.proofs.Laying.{laying_start, laying_more, laying_end}
use Rattle.glue_layout.proofs.layout.reset_indentation.Goals as goal

pub returns-in_err-push_line-clause-twice : goal.returns-in_err-push_line-clause-twice
returns-in_err-push_line-clause-twice c = indented_twice c.args.text.now c.utf8.text

pub returns-clause-value : goal.returns-clause-value
returns-clause-value c = laying_end _ c.next.new.self _ _ _ c.in-None.ensures.steps c.loop-untrimmed.invariant.laid

pub returns-clause-keeps : goal.returns-clause-keeps
returns-clause-keeps c =
    ap (λ l. map trim (lines l)) (laying_end _ c.next.new.self _ _ _ c.in-None.ensures.steps c.loop-untrimmed.invariant.laid)
    ∙ keeps_lines c.args.text.now c.utf8.text

pub returns-clause-twice : goal.returns-clause-twice
returns-clause-twice c = indented_twice c.args.text.now c.utf8.text

pub loop-untrimmed-init : goal.loop-untrimmed-init
loop-untrimmed-init c =
    let starts : lines_rest c.into_iter-untrimmed-iterator.result ≡ trim c.args.text.now =
    rw (c.into_iter-untrimmed-iterator.ensures.into_iter_gives, c.lines-untrimmed-items.ensures.rest) c.trim.ensures.trim in
    record {
      laid = rw c.new-laid.ensures.bytes (laying_start _ _ starts);
      room = rw (starts, ← c.trim.ensures.trim) (omega (arith, c.trim.ensures.bound));
    }

pub loop-untrimmed-preserved : goal.loop-untrimmed-preserved
loop-untrimmed-preserved c = record {
  laid = rw (c.in_ok-push_line.ensures, c.level_after-level.ensures.value, c.trim-line.ensures.trim) (laying_more _ _ c.in-Some.untrimmed _ _ _ c.in-Some.ensures.steps c.loop-untrimmed.invariant.laid);
  room = omega (arith, c.loop-untrimmed.invariant.room, c.level_after-level.ensures.room, c.in-Some.ensures.steps.0.1, c.trim-line.ensures.bound);
}
