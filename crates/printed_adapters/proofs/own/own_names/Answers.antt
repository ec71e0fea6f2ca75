use Rattle.std.proofs.Common.{◌≡◌, ℕ, List, IfOk, subst}
use Rattle.printed_adapters.proofs.OwnNames.{own_named}
use Rattle.printed_adapters.proofs.own.own_names.Goals as goal

pub returns : goal.returns
returns c =
    let Gives : List (List ℕ) → Type 0 = λ names. IfOk c.names_at.result (λ texts. texts ≡ names) in
    record {
      texts = subst Gives
          (own_named c.args.settings.now c.args.lowered.now _ _ _ c.imports.ensures c.as_slice.ensures c.in_ok-ids.ensures.ids)
          c.names_at.ensures.texts;
    }
