use Rattle.std.proofs.Common.{◌≡◌, List, Bool, true, Result, Ok, Err, IfOk, subst}
use Rattle.least_set.specs.Least.{is_marked}
use Rattle.helper_set.specs.Helpers.{AreEntries}
use Rattle.helper_set.proofs.closing.close.Goals as goal

weaker : {A E : Type 0} (P Q : A → Type 0) → ((x : A) → P x → Q x) → (r : Result A E) → IfOk r P → IfOk r Q
weaker P Q f (Ok x) h = f x h
weaker P Q f (Err e) h = tt

pub returns : goal.returns
returns g c =
    let table = c.args.table.now in
    let marks = c.in_ok-marks.marks.items in
    let same : c.deref.result.now ≡ marks = c.deref.ensures.value in
    record {
      held = weaker _ _ (λ held h. record {
        held = is_marked marks;
        least = c.in_ok-marks.ensures.least;
        entries_are = subst (λ (ms : List Bool). AreEntries (g.T.Table.key table) (g.T.Table.words table) (λ i. is_marked ms i ≡ true) held) same h;
      }) c.collect.result c.collect.ensures.entries;
    }
