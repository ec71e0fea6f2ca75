use Rattle.std.proofs.Common.{Result, Ok, Err, IfOk}
use Rattle.wasm_reach.proofs.marks.no_marks.Goals as goal

given : {A E : Type 0} (r : Result A E) (P : A → Type 0) (C : Type 0) → IfOk r (λ v. C → P v) → C → IfOk r P
given (Ok v) P C h c = h c
given (Err e) P C h c = tt

pub returns : goal.returns
returns c = given c.vec.result _ _ c.vec.ensures.items_if_clones_equal (λ y same. same)
