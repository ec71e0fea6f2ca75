use Rattle.std.proofs.Common.{◌≡◌, [], map, arith}
use Rattle.std.proofs.lemmas.List.{nil_from_length}
use Rattle.std.specs.Vec.Iter.{into_iter_items}
use Rattle.glue_public.proofs.Steps.{zipped_all}
use Rattle.glue_public.proofs.definitions.function_definitions.Goals as goal

pub returns : goal.returns
returns c =
    let left : into_iter_items c.loop-identifier.identifier-iterator ≡ [] = nil_from_length _ (omega (arith, c.in-None.ensures.steps.0)) in
    record {
      definitions = zipped_all (map (λ e. e.now) c.loop-identifier.waiting.now) _ c.loop-identifier.definitions _ left c.loop-identifier.invariant.2;
    }
