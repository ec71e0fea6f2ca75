use Rattle.std.proofs.Common.{◌≡◌, false, rules}
use Rattle.wasm_reach.specs.Marks.{IsWithin, is_marked}
use Rattle.wasm_reach.proofs.MarkSteps.{marked_more, adds_new}
use Rattle.wasm_reach.proofs.found.Found.add.Goals as goal

pub invariant_of-self-then-not-has : goal.invariant_of-self-then-not-has
invariant_of-self-then-not-has c =
    let within : IsWithin c.self.inside.marks c.args.thing = rw (← c.self.view_is) at c.requires in
    let free : is_marked c.self.inside.marks c.args.thing ≡ false = search rules in
    rw (c.set.ensures, c.in_ok-push.ensures.items) (marked_more _ _ c.args.thing c.self.invariant within free)

pub returns-in_ok-push : goal.returns-in_ok-push
returns-in_ok-push c =
    let within : IsWithin c.self.inside.marks c.args.thing = rw (← c.self.view_is) at c.requires in
    rw (← c.self.view_is) (adds_new _ _ c.args.thing within c.set.ensures c.in_ok-push.ensures.items)
