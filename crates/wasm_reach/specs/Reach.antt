-- Reachable things.
use Rattle.std.specs.Prelude.{Bool, List}
use Rattle.least_set.specs.Least as least
use Rattle.wasm_reach.specs.declared.things.Thing.{Thing}

-- a set that holds what each of its members refers to
abbrev pub IsClosed : (Thing → List Thing) → (Thing → Bool) → Type 0
IsClosed refs kept = least.IsClosed refs kept

-- the least set that holds the roots and what each of its members refers to
abbrev pub IsLeast : (Thing → List Thing) → List Thing → (Thing → Bool) → Type 0
IsLeast refs roots kept = least.IsLeast refs roots kept
