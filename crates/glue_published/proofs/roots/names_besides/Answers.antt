use Rattle.std.proofs.Common.{ℕ, List, [], ◌∷◌, ◌++◌, append_assoc, append-nil, filter, not, sym, ap, ◌∙◌}
use Rattle.std.specs.Map.{keys_of}
use Rattle.std.proofs.lemmas.List.Elements.{filter-append}
use Rattle.glue_published.specs.Sets.{holds}
use Rattle.glue_published.proofs.roots.names_besides.Goals as goal

pub loop-name-preserved : goal.loop-name-preserved
loop-name-preserved c =
    let keeps = λ (name : List ℕ). not (holds c.args.set.now name) in
    let names = c.loop-name.names in
    let name = c.in-Some.name.now in
    let left = filter keeps (keys_of c.next.new.self) in
    ap (λ (all : List (List ℕ)). all ++ left) c.in_ok-push_other.ensures.pushed
    ∙ append_assoc names (filter keeps (name ∷ [])) left
    ∙ ap (λ (rest : List (List ℕ)). names ++ rest) (sym (filter-append keeps (name ∷ []) (keys_of c.next.new.self)))
    ∙ ap (λ es. names ++ filter keeps (keys_of es)) (sym c.in-Some.ensures.steps)
    ∙ c.loop-name.invariant

pub returns-clause-names : goal.returns-clause-names
returns-clause-names c =
    let keeps = λ (name : List ℕ). not (holds c.args.set.now name) in
    let names = c.loop-name.names in
    sym (append-nil names) ∙ ap (λ es. names ++ filter keeps (keys_of es)) (sym c.in-None.ensures.steps.0) ∙ c.loop-name.invariant
