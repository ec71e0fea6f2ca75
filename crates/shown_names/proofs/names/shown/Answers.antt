use Rattle.std.proofs.Common.{◌≡◌, ◌∙◌, ◌++◌, ◌∷◌, [], ℕ, List, ap, arith, refl}
use Rattle.std.proofs.lemmas.Grind.{common_steps}
use Rattle.std.proofs.lemmas.Iterator.{YieldsList-from_chars, YieldsList-from_take}
use Rattle.std.proofs.lemmas.Iterator.Consumers.{YieldsList-end}
use Rattle.std.proofs.lemmas.List.{flat_map_more}
use Rattle.shown_names.specs.Shown.{shown_char, shown}
use Rattle.std.specs.String.{string_bytes}
use Rattle.shown_names.proofs.names.shown.Goals as goal

pub returns : goal.returns
unfolding shown
returns c =
    let t = YieldsList-end (YieldsList-from_take 60 (YieldsList-from_chars c.args.text.now c.utf8.text cc) cc) c.loop-ch.yielded _ c.loop-ch.yielded_by _ _ c.in-None.is c.next.ensures.steps in
    record { value = grind (arith, common_steps) }

pub loop-ch-preserved : goal.loop-ch-preserved
loop-ch-preserved c =
    c.in_ok-push_shown.ensures.pushed
    ∙ ap (λ (bs : List ℕ). bs ++ shown_char c.in-Some.ch) c.loop-ch.invariant
    ∙ flat_map_more shown_char (34 ∷ []) c.loop-ch.yielded c.in-Some.ch
