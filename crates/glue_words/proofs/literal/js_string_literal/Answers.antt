use Rattle.std.proofs.Common.{◌≡◌, ◌∙◌, ◌++◌, ◌∷◌, [], ℕ, List, ap, arith}
use Rattle.std.proofs.lemmas.Grind.{common_steps}
use Rattle.std.proofs.lemmas.Iterator.{YieldsList-from_chars}
use Rattle.std.proofs.lemmas.Iterator.Consumers.{YieldsList-end}
use Rattle.std.proofs.lemmas.List.{flat_map_more}
use Rattle.glue_words.specs.Literal.{escaped_char, literal}
use Rattle.std.specs.String.{string_bytes}
use Rattle.glue_words.proofs.LiteralReads.{literal_reads}
use Rattle.glue_words.proofs.literal.js_string_literal.Goals as goal

pub returns : goal.returns
unfolding literal
returns c =
    let t = YieldsList-end (YieldsList-from_chars c.args.text.now c.utf8.text cc) c.loop-ch.yielded _ c.loop-ch.yielded_by _ _ c.in-None.is c.next.ensures.steps in
    let e : string_bytes c.push-2.new.self ≡ literal c.args.text.now = grind (arith, common_steps) in
    record {
      value = e;
      reads_back = rw e (literal_reads c.args.text.now c.utf8.text);
    }

pub loop-ch-preserved : goal.loop-ch-preserved
loop-ch-preserved c =
    c.in_ok-push_escaped.ensures
    ∙ ap (λ (bs : List ℕ). bs ++ escaped_char c.in-Some.ch) c.loop-ch.invariant
    ∙ flat_map_more escaped_char (34 ∷ []) c.loop-ch.yielded c.in-Some.ch
