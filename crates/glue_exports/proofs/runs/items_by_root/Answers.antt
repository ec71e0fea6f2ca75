use Rattle.std.proofs.Common.{◌≡◌, [], ◌∷◌, ◌++◌, List, refl, sym, ap, ◌∙◌, arith}
use Rattle.std.proofs.lemmas.List.{nil_from_length}
use Rattle.std.specs.List.{flat_map}
use Rattle.std.specs.Vec.Iter.{into_iter_items}
use Rattle.glue_words.specs.declared.item.Item.{Item}
use Rattle.glue_exports.specs.Kept.{continues, runs_behind}
use Rattle.glue_exports.specs.Printed.{run_items, runs}
use Rattle.glue_exports.specs.Tree.{Entry}
use Rattle.glue_exports.proofs.Grouped.{next_longer, next_new, run_last}
use Rattle.glue_exports.proofs.runs.items_by_root.Goals as goal
use Rattle.glue_exports.proofs.runs.items_by_root.Goals.{then-not-continues+in_ok-run_items+in_ok-append, else-not-continues}

pub loop-entry-preserved : goal.loop-entry-preserved
loop-entry-preserved c =
    let f : List Entry → List Item = run_items c.args.roots.now c.args.hosts.now in
    let all = flat_map f (runs c.args.entries.items) in
    let items = c.loop-entry.items in
    let run = c.loop-entry.run.items in
    let e = c.in-Some.entry in
    let es = into_iter_items c.next.new.self in
    let so_far : items ++ flat_map f (runs_behind run (e ∷ es)) ≡ all = rw c.in-Some.ensures.steps.0 at c.loop-entry.invariant.2 in
    elim c.if-not-continues.branch [
      | then-not-continues+in_ok-run_items+in_ok-append w ↦
          let new = next_new f refl items all run es e (ap (λ (r : List Entry). continues r e) (sym c.as_slice.ensures.value) ∙ sym w.if-not-continues.ensures.test) so_far in
          (tt, tt, rw (c.in_ok-push.ensures.items, w.run-is, w.clear.ensures.items, w.items-is, w.in_ok-append.ensures.ok, w.in_ok-run_items.ensures.items, w.as_slice-then-not-continues.ensures.value) new)
      | else-not-continues w ↦
          let longer = next_longer f refl items all run es e (ap (λ (r : List Entry). continues r e) (sym c.as_slice.ensures.value) ∙ sym w.if-not-continues.ensures.test) so_far in
          (tt, tt, rw (c.in_ok-push.ensures.items, w.run-is, w.items-is) longer)
    ]

pub returns : goal.returns
returns c =
    let f : List Entry → List Item = run_items c.args.roots.now c.args.hosts.now in
    let run = c.loop-entry.run.items in
    let left : into_iter_items c.loop-entry.entry-iterator ≡ [] = nil_from_length _ (omega (arith, c.in-None.ensures.steps.0)) in
    let last : flat_map f (runs_behind run (into_iter_items c.loop-entry.entry-iterator)) ≡ f run =
    ap (λ (es : List Entry). flat_map f (runs_behind run es)) left ∙ run_last f refl run in
    let put = ap (λ (is : List Item). c.loop-entry.items ++ is) (sym last) ∙ c.loop-entry.invariant.2 in
    record { items = c.in_ok-append-2.ensures.ok ∙ ap (λ (is : List Item). c.loop-entry.items ++ is) (c.in_ok-run_items-2.ensures.items ∙ ap f c.as_slice-2.ensures.value) ∙ put }
