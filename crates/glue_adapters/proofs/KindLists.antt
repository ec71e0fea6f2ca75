-- Kinds that were read, before those that are left.
use Rattle.std.proofs.Common.{List, ◌++◌, Option, Some, None}
use Rattle.glue_adapters.specs.declared.kind.Kind.{Kind}

abbrev pub with_front : List Kind → Option (List Kind) → Option (List Kind)
with_front front None = None
with_front front (Some kinds) = Some (front ++ kinds)
