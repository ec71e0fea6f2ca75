use Rattle.std.proofs.Common.{sym, arith, false}
use Rattle.std.proofs.lemmas.Grind.{common_steps}
use Rattle.std.proofs.lemmas.Iterator.{YieldsList-from_chars}
use Rattle.std.proofs.lemmas.Iterator.Consumers.{YieldsList-end}
use Rattle.glue_words.specs.Words.{note_body}
use Rattle.glue_words.proofs.NoteSteps.{star_after_push, note_chars_push}
use Rattle.glue_words.proofs.printing.push_note_body.Goals as goal

pub loop-ch-preserved : goal.loop-ch-preserved
loop-ch-preserved c =
    let p = note_chars_push false c.loop-ch.yielded c.in-Some.ch in
    let q = star_after_push false c.loop-ch.yielded c.in-Some.ch in
    record {
      written = grind (arith, common_steps, p);
      star = sym q;
    }

pub returns : goal.returns
unfolding note_body
returns c =
    let t = YieldsList-end (YieldsList-from_chars c.args.text.now c.utf8.text cc) c.loop-ch.yielded _ c.loop-ch.yielded_by _ _ c.in-None.is c.next.ensures.steps in
    grind (arith, common_steps)
