use Rattle.std.proofs.Common.{Result, Ok, Err, IfOk, OnOk, ap, subst, sym}
use Rattle.std.specs.Result.{result_and}
use Rattle.wasm_reach.specs.Marks.{IsWithin}
use Rattle.wasm_reach.specs.Found.{Nodes}
use Rattle.wasm_reach.proofs.MarkSteps.{counted_within}
use Rattle.wasm_reach.proofs.graph.search.Goals as goal

then_ok : {A B E : Type 0} (r : Result A E) (x : B) (P : B → Type 0) → OnOk r (P x) → IfOk (result_and r (Ok x)) P
then_ok (Ok _) x P h = h
then_ok (Err _) x P h = tt

pub add_reached-added-requires-clause-none : goal.add_reached-added-requires-clause-none
add_reached-added-requires-clause-none g c = ap (λ (n : Nodes). n.found) c.in_ok-found.ensures

pub add_reached-added-requires-clause-within : goal.add_reached-added-requires-clause-within
add_reached-added-requires-clause-within g c = λ t h. subst (λ (n : Nodes). IsWithin n.marks t) (sym c.in_ok-found.ensures) (counted_within c.args.sizes.now t (c.requires t h))

pub returns : goal.returns
returns g c = rw (c.and.ensures, c.into_marks.ensures) (then_ok c.add_reached-added.result _ _ c.add_reached-added.ensures)
