use Rattle.std.proofs.Common.{refl, true, ◌≡◌, ap, ◌∙◌}
use Rattle.std.specs.Prelude.{Some, None}
use Rattle.std.specs.FinMap as finite
use Rattle.std.specs.FinSet as set
use Rattle.std.specs.String.{string_bytes}
use Rattle.std.proofs.lemmas.Result.{IfOk-weaker}
use Rattle.glue_words.specs.Ident.{is_ident}
use Rattle.glue_scope.specs.Scope.{key_set}
use Rattle.glue_words.proofs.Idents.{numbered_ident}
use Rattle.glue_scope.proofs.KeySets.{key_set-insert}
use Rattle.glue_scope.proofs.Scopes.{not_contained, contained, key_set-numbered, first_plain, first_numbered}
use Rattle.glue_scope.proofs.names.IdentScope.bind_first.Goals as goal

pub bind-requires : goal.bind-requires
bind-requires c =
    let e : finite.get c.args.self.now (string_bytes c.args.ident) ≡ None = cc in
    rw c.as_str-in-None.ensures.value (not_contained _ _ e)

pub returns-in_ok-bind-in-None-clause-first : goal.returns-in_ok-bind-in-None-clause-first
returns-in_ok-bind-in-None-clause-first c =
    let e : finite.get c.args.self.now (string_bytes c.args.ident) ≡ None = cc in
    first_plain _ _ _ refl e

pub returns-in_ok-bind-in-None-clause-binds : goal.returns-in_ok-bind-in-None-clause-binds
returns-in_ok-bind-in-None-clause-binds c =
    ap key_set c.in_ok-bind-in-None.ensures.ok ∙ key_set-insert _ _ 2 ∙ ap (set.insert (key_set c.args.self.now)) c.as_str-in-None.ensures.value

pub returns-in-Some-clause-first : goal.returns-in-Some-clause-first
returns-in-Some-clause-first c =
    let there : finite.get c.args.self.now c.as_str-in-Some.result.now ≡ Some c.in-Some.start = cc in
    IfOk-weaker c.bind_numbered.result _ _ (λ answer n. first_numbered _ _ _ _ _ n.0 c.as_str-in-Some.ensures.value there n.1 n.3) c.bind_numbered.ensures.ok

pub returns-in-Some-clause-binds : goal.returns-in-Some-clause-binds
returns-in-Some-clause-binds c =
    let there : finite.get c.args.self.now c.as_str-in-Some.result.now ≡ Some c.in-Some.start = cc in
    IfOk-weaker c.bind_numbered.result _ _ (λ answer n. ap key_set n.4 ∙ key_set-numbered c.args.self.now _ _ _ (contained _ _ _ there)) c.bind_numbered.ensures.ok

pub returns-in-Some-clause-ident : goal.returns-in-Some-clause-ident
returns-in-Some-clause-ident c =
    let named : is_ident c.as_str-in-Some.result.now ≡ true = ap is_ident c.as_str-in-Some.ensures.value ∙ c.requires in
    IfOk-weaker c.bind_numbered.result _ _ (λ answer n. ap is_ident n.1 ∙ numbered_ident _ n.0 c.as_str-in-Some.utf8 named) c.bind_numbered.ensures.ok
