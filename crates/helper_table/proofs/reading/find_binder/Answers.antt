use Rattle.std.proofs.Common.{ℕ, Some, sym, subst}
use Rattle.helper_table.specs.Closed.{IsBinder}
use Rattle.helper_table.specs.Laws.{no_binder, single_binder, family_binder, node_at}
use Rattle.helper_table.proofs.reading.find_binder.Goals as goal

pub returns-in-Some : goal.returns-in-Some
returns-in-Some c = record {
  found =
      subst (λ (i : ℕ). IsBinder c.args.name.now (Some i)) (sym c.single_owner.ensures.owner)
      (single_binder c.args.name.now c.in-Some.place c.in-Some.ensures.place.0 c.in-Some.ensures.place.1);
}

pub returns-in-None : goal.returns-in-None
returns-in-None c = record { found = no_binder c.args.name.now c.in_default.ensures.place (rw c.in-None.is at c.in_ok-find_placed.ensures.placed) }

pub returns-in-Some-2 : goal.returns-in-Some-2
returns-in-Some-2 c =
    let told = rw c.in-Some-2.is at c.in_ok-find_placed.ensures.placed in
    record {
      found =
          subst (λ (q : ℕ). IsBinder c.args.name.now (Some (node_at q c.in-Some-2.number))) (sym c.family_owner-family.ensures.owner)
          (family_binder c.args.name.now c.in-Some-2.place c.in-Some-2.number told.0 told.1 told.2);
    }
