use Rattle.std.proofs.Common.{◌≡◌, IfOk, subst}
use Rattle.values.specs.TextSet.{TextSet}
use Rattle.glue_names.proofs.TakenNames.{hosts_joined}
use Rattle.glue_names.proofs.taken.with_hosts.Goals as goal

pub returns : goal.returns
returns g c =
    let Binds : TextSet → Type 0 = λ taken. IfOk c.with_inspect.result (λ more. g.N.Names.bound more ≡ taken) in
    record {
      bound = subst Binds
          (hosts_joined (g.N.Names.bound c.args.scope) c.args.settings.now c.args.aux.now _ _ _ _ _ _ c.as_slice.ensures c.as_slice-2.ensures
          c.in_ok-common.ensures.bound c.in_ok-own.ensures.bound c.in_ok-imported.ensures.bound c.in_ok-described.ensures.bound)
          c.with_inspect.ensures.bound;
    }
