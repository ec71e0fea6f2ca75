use Rattle.glue_context.proofs.Common.{take, map, AllZip, ImportId, IsDefineItem}
use Rattle.glue_context.proofs.defined.define_each.Given as goal

abbrev pub invariant-loop-place : goal.invariant-loop-place
invariant-loop-place g l =
    AllZip (IsDefineItem l.basis.settings.now l.basis.names.now l.indexed) (map (λ (id : ImportId). id.0) (take l.place-index l.places)) l.items
