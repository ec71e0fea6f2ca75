use Rattle.std.proofs.Common.{◌++◌, ap, sym, ◌∙◌, arith}
use Rattle.std.proofs.lemmas.Grind.{common_steps}
use Rattle.glue_tree.specs.Spelling.{comma_unless}
use Rattle.glue_tree.proofs.Steps.{argument_next, pushed, pushed_more, not_first, no_first, field_next, record_plain}
use Rattle.glue_tree.proofs.spelling.+exprs.Goals as goal

pub push_arguments-loop-argument-preserved : goal.push_arguments-loop-argument-preserved
push_arguments-loop-argument-preserved t c =
    let i = c.loop-argument.argument-index in
    let done = ap comma_unless c.loop-argument.invariant.first in
    record {
      words = pushed _ _ _ _ c.loop-argument.invariant.words (c.in_ok-push_comma_unless.ensures.words ∙ ap (λ l. c.loop-argument.words ++ l) done) c.in_ok-push_expr.ensures.words
          ∙ ap (λ l. c.push.new.self ++ l) (sym (argument_next c.args.arguments.now i _ c.loop-argument-test.true c.argument-item.is));
      first = not_first c.args.arguments.now i _ c.loop-argument-test.true c.argument-item.is;
    }

pub push_record-loop-field-preserved : goal.push_record-loop-field-preserved
push_record-loop-field-preserved t c =
    let i = c.loop-field.field-index in
    let done = ap comma_unless c.loop-field.invariant.first in
    record {
      words = pushed_more _ _ _ _ _ c.loop-field.invariant.words (c.in_ok-push_comma_unless.ensures.words ∙ ap (λ l. c.loop-field.words ++ l) done) c.in_ok-push_label.ensures.words c.in_ok-push_expr.ensures.words
          ∙ ap (λ l. c.push_open.new.words ++ l) (sym (field_next c.args.fields.now i _ c.loop-field-test.true c.field-item.is));
      first = no_first c.args.fields.now i _ c.loop-field-test.true c.field-item.is;
    }

pub push_expr-returns-in-Record : goal.push_expr-returns-in-Record
push_expr-returns-in-Record t c = rw (c.in-Record.is, record_plain c.in-Record.fields) (grind (arith, common_steps))
