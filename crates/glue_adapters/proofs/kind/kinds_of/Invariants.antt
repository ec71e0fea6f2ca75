use Rattle.std.proofs.Common.{◌≡◌, drop}
use Rattle.glue_adapters.specs.Stack.{kinds_of}
use Rattle.glue_adapters.proofs.KindLists.{with_front}
use Rattle.glue_adapters.proofs.kind.kinds_of.Given as goal

abbrev pub invariant-loop-ty : goal.invariant-loop-ty
invariant-loop-ty l = with_front l.kinds (kinds_of (drop l.ty-index l.types)) ≡ kinds_of l.types
