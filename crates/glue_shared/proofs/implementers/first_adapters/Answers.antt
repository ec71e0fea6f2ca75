use Rattle.std.proofs.Common.{◌≡◌, ℕ, ◌+◌, ◌-◌, List, drop, sym, ap, ◌∙◌, subst, arith}
use Rattle.std.specs.Ordering.{nat_cmp}
use Rattle.std.specs.BTreeMap.{insert_entry}
use Rattle.wasm_core.specs.ids.ImportId.{ImportId}
use Rattle.glue_shared.specs.Indexed.{GivesFirst}
use Rattle.glue_shared.proofs.FirstEntries.{gives_more}
use Rattle.glue_shared.proofs.implementers.first_adapters.Goals as goal

pub loop-place-preserved : goal.loop-place-preserved
loop-place-preserved c =
    let pairs = c.args.pairs.now in
    let place = c.loop-place.place - 1 in
    let back : c.loop-place.place ≡ place + 1 = omega arith in
    let pair = c.index-pairs-place.result in
    let new = c.in_ok-insert.ensures.entries in
    record {
      gives = subst (λ (adapters : List (ℕ × ℕ)). GivesFirst adapters (drop place pairs)) (sym new)
          (gives_more c.loop-place.adapters pairs place pair (omega arith) c.index-pairs-place.is
          (subst (λ (k : ℕ). GivesFirst c.loop-place.adapters (drop k pairs)) back c.loop-place.invariant.gives));
      within = omega arith;
    }
