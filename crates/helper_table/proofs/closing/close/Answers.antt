use Rattle.std.proofs.Common.{◌≡◌, List, ℕ, sym, subst, ◌∙◌, IfOk}
use Rattle.glue_words.specs.declared.item.Item.{Item}
use Rattle.helper_table.specs.Closed.{AreHeld, ArePresent, needed_helpers}
use Rattle.helper_table.proofs.Steps.{all_needed}
use Rattle.helper_table.proofs.closing.close.Goals as goal

pub held_items-requires : goal.held_items-requires
held_items-requires c =
    let same : c.as_slice.result.now ≡ needed_helpers c.args.parts.now c.args.needed.now = c.as_slice.ensures.value ∙ c.in_ok-nodes.ensures.nodes in
    record { bound = subst (ArePresent c.args.parts.now) (sym same) (all_needed c.args.parts.now c.args.needed.now) }

pub returns : goal.returns
returns c =
    let same : c.as_slice.result.now ≡ needed_helpers c.args.parts.now c.args.needed.now = c.as_slice.ensures.value ∙ c.in_ok-nodes.ensures.nodes in
    record { closed = subst (λ (nodes : List ℕ). IfOk c.held_items.result (λ (items : List Item). AreHeld c.args.parts.now nodes items)) same c.held_items.ensures.held }
