use Rattle.std.proofs.Common.{sym, ap, ◌∙◌}
use Rattle.helper_table.specs.Closed.{with_helper}
use Rattle.helper_table.specs.Laws.{bound_by_none}
use Rattle.helper_table.proofs.Steps.{asked_again, asked_anew}
use Rattle.helper_table.proofs.asked.push_binder.Goals as goal

pub returns-in_default : goal.returns-in_default
returns-in_default c =
    let told = rw (c.as_str.ensures, c.in_default.is) at c.in_ok-node.ensures.found in
    record { asked = sym (ap (with_helper c.args.nodes.now.items) (bound_by_none c.args.parts.now c.args.name.now told)) }

pub returns-then-is_one : goal.returns-then-is_one
returns-then-is_one c =
    let told = rw (c.as_str.ensures, c.in-Some.is) at c.in_ok-node.ensures.found in
    let test = rw c.as_slice.ensures.value at c.is_one.ensures.test in
    let one = sym test ∙ c.if-is_one.true in
    record { asked = asked_again c.args.parts.now c.args.nodes.now.items c.args.name.now c.in-Some.node told one }

pub returns-in_ok-push-in-Some-2 : goal.returns-in_ok-push-in-Some-2
returns-in_ok-push-in-Some-2 c =
    let told = rw (c.as_str.ensures, c.in-Some.is) at c.in_ok-node.ensures.found in
    let test = rw c.as_slice.ensures.value at c.is_one.ensures.test in
    let none = sym test ∙ c.if-is_one.false in
    let binds = rw c.as_str-2.ensures at c.in_ok-binder.ensures.binder in
    let found = sym c.in-Some-2.is ∙ binds in
    record {
      asked = c.in_ok-push-in-Some-2.ensures.items
          ∙ asked_anew c.args.parts.now c.args.nodes.now.items c.args.name.now c.in-Some.node c.in-Some-2.found told none found;
    }
