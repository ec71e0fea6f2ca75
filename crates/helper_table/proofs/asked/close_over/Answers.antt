use Rattle.std.proofs.Common.{◌≡◌, List, ℕ, sym, subst, ◌∙◌, IfOk}
use Rattle.glue_words.specs.declared.item.Item.{Item}
use Rattle.helper_table.specs.Closed.{AreHeld, ArePresent, asked_helpers}
use Rattle.helper_table.proofs.Steps.{all_asked}
use Rattle.helper_table.proofs.asked.close_over.Goals as goal

pub held_items-requires : goal.held_items-requires
held_items-requires c =
    let same : c.as_slice.result.now ≡ asked_helpers c.args.parts.now c.args.items.now = c.as_slice.ensures.value ∙ c.in_ok-nodes.ensures.asked in
    record { bound = subst (ArePresent c.args.parts.now) (sym same) (all_asked c.args.parts.now c.args.items.now) }

pub returns : goal.returns
returns c =
    let same : c.as_slice.result.now ≡ asked_helpers c.args.parts.now c.args.items.now = c.as_slice.ensures.value ∙ c.in_ok-nodes.ensures.asked in
    record { asked = subst (λ (nodes : List ℕ). IfOk c.held_items.result (λ (items : List Item). AreHeld c.args.parts.now nodes items)) same c.held_items.ensures.held }
