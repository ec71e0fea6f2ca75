use Rattle.std.proofs.Common.{◌≡◌, ◌+◌, ℕ, List, sym, ap, ◌∙◌, subst, arith}
use Rattle.std.specs.Prelude.{IsSome}
use Rattle.std.specs.FinMap as finite
use Rattle.std.specs.String.{string_bytes}
use Rattle.glue_scope.specs.Scope.{Numbers, KeepsTaken}
use Rattle.glue_scope.proofs.Scopes.{keeps_put, kept_after, least_from_kept, contained, contains_grown, has_entry}
use Rattle.glue_scope.proofs.names.IdentScope.bind_numbered.Goals as goal

pub bind-requires : goal.bind-requires
bind-requires c = rw (c.as_str.ensures.value ∙ c.in_ok-answer.ensures.found.0) c.in_ok-answer.ensures.found.2.free

pub set-requires : goal.set-requires
set-requires c =
    subst (λ (m : Numbers). IsSome (finite.get m c.args.name.now)) (sym (c.self.view_is ∙ c.in_ok-bind.ensures.ok))
    (has_entry _ _ (contains_grown c.args.self.now _ 2 _ (contained _ _ _ c.requires.there)))

pub invariant_of-self : goal.invariant_of-self
invariant_of-self c =
    let grown = c.self.view_is ∙ c.in_ok-bind.ensures.ok in
    let least = least_from_kept _ _ _ _ c.requires.kept c.in_ok-answer.ensures.found.2 in
    let same = c.as_str.ensures.value ∙ c.in_ok-answer.ensures.found.0 in
    subst KeepsTaken (sym (c.set.ensures ∙ ap (λ (m : Numbers). finite.insert m c.args.name.now (c.in_ok-answer.number + 1)) grown))
    (keeps_put _ _ _ (subst KeepsTaken grown c.self.invariant) (kept_after _ _ _ _ same least))

pub returns-clause-ok : goal.returns-clause-ok
returns-clause-ok c =
    let grown : c.self.inside.names ≡ finite.insert c.args.self.now (string_bytes c.in_ok-answer.answer) 2 =
    c.self.view_is ∙ c.in_ok-bind.ensures.ok ∙ ap (λ (q : List ℕ). finite.insert c.args.self.now q 2) c.as_str.ensures.value in (
      c.in_ok-answer.number,
      c.in_ok-answer.ensures.found.0,
      omega (arith, c.in_ok-answer.ensures.found.1),
      least_from_kept _ _ _ _ c.requires.kept c.in_ok-answer.ensures.found.2,
      c.set.ensures ∙ ap (λ (m : Numbers). finite.insert m c.args.name.now (c.in_ok-answer.number + 1)) grown,
    )
