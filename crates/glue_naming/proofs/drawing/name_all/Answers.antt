use Rattle.std.proofs.Common.{List, ℕ, Result, Ok, Err, IfOk, ap, ◌∙◌}
use Rattle.glue_shared.specs.NameMap.{no_names}
use Rattle.glue_naming.specs.Drawing.{map_of}
use Rattle.glue_naming.proofs.Draws.{good}
use Rattle.glue_naming.proofs.drawing.name_all.Goals as goal

weaker : {A E : Type 0} (P Q : A → Type 0) → ((x : A) → P x → Q x) → (r : Result A E) → IfOk r P → IfOk r Q
weaker P Q f (Ok x) h = f x h
weaker P Q f (Err e) h = tt

pub returns-clause-good : goal.returns-clause-good
returns-clause-good g c =
    let list = c.args.list.now in
    let names = c.in_ok-names.names in
    weaker _ _ (λ m is. good (g.N.Names.bound c.args.scope) list names m c.in_ok-names.ensures.length c.in_ok-names.ensures.drawn (is ∙ ap (λ (ns : List (List ℕ)). map_of no_names list ns) c.as_slice.ensures)) c.fill.result c.fill.ensures.filled
