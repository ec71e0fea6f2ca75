use Rattle.std.proofs.Common.{false, ◌++◌, ◌∷◌, [], take, ap, ◌∙◌, append_assoc}
use Rattle.std.proofs.lemmas.List.{take_all}
use Rattle.glue_words.specs.declared.word.Word.TheVariants.{Host}
use Rattle.glue_scope.specs.Properties.{property_parts}
use Rattle.glue_operands.specs.Spelling.{path_words}
use Rattle.glue_operands.proofs.Lists.{appended}
use Rattle.glue_operands.proofs.import.push_host.Goals as goal

pub loop-field-preserved : goal.loop-field-preserved
loop-field-preserved c =
    c.in_ok-push_field.ensures.words
    ∙ ap (λ l. l ++ property_parts c.field-item.result) c.loop-field.invariant
    ∙ appended property_parts c.args.fields.now c.loop-field.field-index c.field-item.result c.push.new.self
    c.loop-field-test.true c.field-item.is

pub returns : goal.returns
returns c =
    let before = c.args.words.now in
    let fields = c.args.fields.now in
    let passed = path_words (take c.loop-field.field-index fields) in record {
      words = c.loop-field.invariant
          ∙ ap (λ l. l ++ passed) c.in_ok-push.ensures.ok
          ∙ append_assoc before (Host c.in_ok-copy.field-0 false ∷ []) passed
          ∙ ap (λ fs. before ++ (Host c.in_ok-copy.field-0 false ∷ path_words fs))
          (take_all c.loop-field.field-index fields c.loop-field-test.false)
          ∙ ap (λ name. before ++ (Host name false ∷ path_words fields)) c.in_ok-copy.ensures.equal;
    }
