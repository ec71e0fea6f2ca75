use Rattle.std.proofs.Common.{◌≡◌, List, [], ◌++◌, map, ap, ◌∙◌, append_assoc}
use Rattle.glue_words.specs.declared.word.Word.{Word}
use Rattle.glue_operands.specs.Plainly.{plain_operand}
use Rattle.glue_operands.specs.Spelling.{parts_words}
use Rattle.glue_operands.proofs.import.import_line.Goals as goal

-- words that are written one behind the other
written : (none a b c d p s v e : List Word) → none ≡ [] → a ≡ none ++ p → b ≡ a ++ s → c ≡ b ++ v → d ≡ c ++ e → d ≡ p ++ (s ++ (v ++ e))
written none a b c d p s v e n h k l m =
    m
    ∙ ap (λ w. w ++ e) (l ∙ ap (λ w. w ++ v) (k ∙ ap (λ w. w ++ s) (h ∙ ap (λ w. w ++ p) n)))
    ∙ append_assoc (p ++ s) v e
    ∙ append_assoc p s (v ++ e)

pub returns : goal.returns
returns c =
    let args = map plain_operand c.args.operands.now in
    let locals = c.args.locals.now in record {
      words = written c.new-words.result c.push_parts.new.words c.push_start.new.words c.push_parts-2.new.words c.push.new.self _ _ _ _
          c.new-words.ensures
          (c.in_ok-push_parts.ensures.words ∙ ap (λ parts. c.new-words.result ++ parts_words parts locals args) c.as_slice.ensures)
          c.in_ok-push_start.ensures.words
          (c.in_ok-push_parts-2.ensures.words ∙ ap (λ parts. c.push_start.new.words ++ parts_words parts locals args) c.as_slice-2.ensures)
          c.in_ok-push.ensures.ok;
    }
