-- The first of some names and one behind them.
use Rattle.std.proofs.Common.{◌≡◌, ℕ, List, [], ◌∷◌, ◌++◌}
use Rattle.std.specs.Prelude.{find}
use Rattle.std.specs.Option.{option_or}
use Rattle.std.proofs.lemmas.List.Folds.{find-append}
use Rattle.glue_published.specs.Named.{is_proto_name}

pub found_behind : (namespace : List (List ℕ)) (name : List ℕ)
    → find is_proto_name (namespace ++ name ∷ []) ≡ option_or (find is_proto_name namespace) (find is_proto_name (name ∷ []))
found_behind namespace name = find-append is_proto_name namespace (name ∷ [])
