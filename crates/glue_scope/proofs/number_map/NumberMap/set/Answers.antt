use Rattle.std.proofs.Common.{sym, ap, ◌∙◌, subst, ℕ, MutBor}
use Rattle.std.specs.Prelude.{Option, Some, None, IsSome}
use Rattle.std.specs.Option.{option_copied_mut}
use Rattle.std.specs.FinMap as finite
use Rattle.glue_scope.proofs.NumberMaps.{number_map_insert, get_number_map}
use Rattle.glue_scope.proofs.number_map.NumberMap.set.Goals as goal

some_from_copied : (o : Option (MutBor ℕ)) → IsSome (option_copied_mut o) → IsSome o
some_from_copied None h = h
some_from_copied (Some x) h = h

pub unwrap-place-requires : goal.unwrap-place-requires
unwrap-place-requires c =
    let e = get_number_map c.self.inside.tree.entries c.args.key.now in
    let f = c.get_mut.ensures.value ∙ sym e ∙ ap (λ (m : finite.FinMap _ _). finite.get m c.args.key.now) c.self.view_is in
    some_from_copied c.get_mut.result (subst IsSome (sym f) c.requires)

pub returns : goal.returns
returns c =
    let e = get_number_map c.self.inside.tree.entries c.args.key.now in
    let f = sym e ∙ ap (λ (m : finite.FinMap _ _). finite.get m c.args.key.now) c.self.view_is in
    rw (← c.self.view_is) (number_map_insert c.args.key.now c.self.inside.tree (c.get_mut.follows.lender c.args.value) c.args.value ((c.get_mut.follows.holds c.args.value).3 (subst IsSome (sym f) c.requires)))
