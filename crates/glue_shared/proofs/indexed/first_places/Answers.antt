use Rattle.std.proofs.Common.{◌≡◌, ℕ, ◌+◌, ◌-◌, List, drop, sym, ap, ◌∙◌, subst, arith}
use Rattle.std.specs.Ordering.{nat_cmp}
use Rattle.std.specs.BTreeMap.{insert_entry}
use Rattle.glue_shared.specs.declared.import.AuxImport.{AuxImport}
use Rattle.glue_shared.specs.Indexed.{LeadsTo}
use Rattle.glue_shared.proofs.FirstEntries.{leads_to_more}
use Rattle.glue_shared.proofs.indexed.first_places.Goals as goal

pub loop-place-preserved : goal.loop-place-preserved
loop-place-preserved c =
    let entries = c.args.entries.now in
    let place = c.loop-place.place - 1 in
    let back : c.loop-place.place ≡ place + 1 = omega arith in
    let new = c.in_ok-insert.ensures.entries ∙ ap (λ k. insert_entry nat_cmp c.loop-place.places k place)
    (c.id.view_is ∙ ap (λ (e : ℕ × AuxImport). e.0) (sym c.index-entries-place.is)) in
    record {
      leads = subst (λ (places : List (ℕ × ℕ)). LeadsTo places entries (drop place entries)) (sym new)
          (leads_to_more c.loop-place.places entries place c.index-entries-place.result (omega arith) c.index-entries-place.is
          (subst (λ (k : ℕ). LeadsTo c.loop-place.places entries (drop k entries)) back c.loop-place.invariant.leads));
      within = omega arith;
    }
