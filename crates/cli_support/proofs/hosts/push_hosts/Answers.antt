use Rattle.std.proofs.Common.{◌≡◌, OnOk, List, ℕ, subst}
use Rattle.cli_support.proofs.Listed.{hosts_pushed}
use Rattle.cli_support.proofs.hosts.push_hosts.Goals as goal

pub returns : goal.returns
returns c = record {
  pushed = subst (λ (ys : List (List ℕ)). OnOk c.push_inspect.result (c.push_inspect.new.out.items ≡ ys))
      (hosts_pushed c.args.settings.now c.args.aux.now _ _ c.args.out.now.items _ _ _ _ c.as_slice.ensures c.as_slice-2.ensures
      c.in_ok-push_names.ensures.pushed c.in_ok-push_target_hosts.ensures.pushed c.in_ok-push_imported.ensures.pushed c.in_ok-push_reexported.ensures.pushed)
      c.push_inspect.ensures.pushed;
}
