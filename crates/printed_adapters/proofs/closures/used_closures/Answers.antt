use Rattle.std.proofs.Common.{◌≡◌, ◌<◌, ℕ, List, Bool, Result, Ok, Err, IfOk, length, sym, ap, subst, ◌∙◌}
use Rattle.std.specs.Prelude.{All}
use Rattle.std.specs.List.{filter}
use Rattle.least_set.specs.Least.{is_marked}
use Rattle.printed_adapters.specs.Places.{has_mark}
use Rattle.printed_adapters.specs.Printed.{AreUsed, closures_in, outer_code, used_closures}
use Rattle.printed_adapters.proofs.Making.{made_within, marked_used}
use Rattle.printed_adapters.proofs.Used.{used_least}
use Rattle.printed_adapters.proofs.closures.used_closures.Goals as goal

weaker : {A E : Type 0} (P Q : A → Type 0) → ((x : A) → P x → Q x) → (r : Result A E) → IfOk r P → IfOk r Q
weaker P Q f (Ok x) h = f x h
weaker P Q f (Err e) h = tt

pub search-requires : goal.search-requires
search-requires c =
    let ids = c.in_ok-places.places in
    let code = outer_code c.args.settings.now c.args.lowered.now in
    let are = c.deref.ensures.value ∙ c.in_ok-outer.ensures.outer in
    record { within = subst (All (λ (place : ℕ). place < length ids)) (sym are) (made_within ids (closures_in code)) }

pub returns : goal.returns
returns c =
    let s = c.args.settings.now in
    let l = c.args.lowered.now in
    let ids = c.in_ok-places.places in
    let marks = c.in_ok-marks.marks.items in
    let are = c.deref.ensures.value ∙ c.in_ok-outer.ensures.outer in
    let same : c.deref-2.result.now ≡ marks = c.deref-2.ensures.value in
    let all : filter (has_mark ids c.deref-2.result.now) ids ≡ used_closures s l =
    ap (λ (ms : List Bool). filter (has_mark ids ms) ids) same
    ∙ marked_used s l ids c.deref.result.now marks c.in_ok-places.ensures.same are c.in_ok-marks.ensures.least in
    record {
      used = weaker _ _ (λ (used : List ℕ) h. h ∙ all) c.marked.result c.marked.ensures.marked;
      least = weaker _ _ (λ (used : List ℕ) h. subst (AreUsed s l) (sym (h ∙ all)) (used_least s l)) c.marked.result c.marked.ensures.marked;
    }
