use Rattle.std.proofs.Common.{◌<◌, ◌≡◌, true, Result, Ok, Err, IfOk}
use Rattle.std.proofs.lemmas.List.Elements.{All-weaker}
use Rattle.helper_table.specs.Made.{count, helper_item, is_there}
use Rattle.helper_table.proofs.Own.{owned}
use Rattle.helper_table.proofs.closing.held_items.Goals as goal

weaker : {A E : Type 0} (P Q : A → Type 0) → ((x : A) → P x → Q x) → (r : Result A E) → IfOk r P → IfOk r Q
weaker P Q f (Ok x) h = f x h
weaker P Q f (Err e) h = tt

pub close-requires : goal.close-requires
close-requires c = record {
  nodes = All-weaker (λ i. (i < count c.args.parts.now) × (is_there (helper_item c.args.parts.now i) ≡ true)) (λ i. i < count c.args.parts.now) (λ i p. p.0)
      c.args.nodes.now c.requires.bound;
}

pub returns : goal.returns
returns c = record {
  held = weaker _ _ (λ items h. record {
    entries = c.in_ok-held.held;
    helpers = c.in_ok-held.ensures.held;
    made = h;
    own = owned c.args.parts.now c.args.nodes.now c.in_ok-held.held c.in_ok-held.ensures.held c.requires.bound;
  }) c.helper_items.result c.helper_items.ensures.items;
}
