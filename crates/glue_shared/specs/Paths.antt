-- Paths under which something is published, and the names that stand for them.
use Rattle.std.specs.Prelude.{ℕ, List, [], ◌∷◌, ◌++◌, codes}

-- the segments of a namespace and a name
abbrev pub Path : Type 0
Path = List (List ℕ)

-- the segments of the namespace and the name, joined by `__`
abbrev pub qualified_name : Path → List ℕ → List ℕ
qualified_name [] name = name
qualified_name (segment ∷ namespace) name = segment ++ (codes "__" ++ qualified_name namespace name)
