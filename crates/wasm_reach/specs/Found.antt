-- What a search has found.
use Rattle.std.specs.Prelude.{◌≡◌, true, List, ◌++◌, length, All, Contains}
use Rattle.wasm_reach.specs.declared.things.Thing.{Thing}
use Rattle.wasm_reach.specs.Marks.{Rows, is_marked, IsWithin, room, marks_count}

-- the marks, and the things that were found, each once
pub record Nodes : Type 0 where
  pub marks : Rows
  pub found : List Thing

-- as many places are marked as things were found, and what is marked was found
pub record AreMarked (marks : Rows) (found : List Thing) : Type 0 where
  pub counted : marks_count marks ≡ length found
  pub told : (t : Thing) → is_marked marks t ≡ true → Contains found t

-- new is old with things of xs behind it, and has each of xs
pub record Adds (old new : Nodes) (xs : List Thing) : Type 0 where
  pub same_room : room new.marks ≡ room old.marks
  pub within : (t : Thing) → IsWithin old.marks t → IsWithin new.marks t
  pub kept : (t : Thing) → is_marked old.marks t ≡ true → is_marked new.marks t ≡ true
  pub extra : List Thing
  pub grown : new.found ≡ old.found ++ extra
  pub only : All (Contains xs) extra
  pub has : All (λ t. is_marked new.marks t ≡ true) xs
