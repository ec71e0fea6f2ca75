-- The least set as a test: whether a thing is in each set of things that holds the roots and what its members refer to.
use Rattle.std.specs.Prelude.{ℕ, ◌==◌, Bool, not, ◌&&◌, ◌||◌, List, [], ◌∷◌, ◌++◌, map}
use Rattle.std.specs.List.{list_any, list_all}
use Rattle.wasm_reach.specs.declared.things.Thing.{Thing}
use Rattle.wasm_reach.specs.declared.things.Thing.TheVariants as things

abbrev pub kind_of : Thing → ℕ
kind_of (things.Type place) = 0
kind_of (things.Func place) = 1
kind_of (things.Table place) = 2
kind_of (things.Memory place) = 3
kind_of (things.Global place) = 4
kind_of (things.Tag place) = 5
kind_of (things.Elem place) = 6
kind_of (things.Segment place) = 7

abbrev pub place_of : Thing → ℕ
place_of (things.Type place) = place
place_of (things.Func place) = place
place_of (things.Table place) = place
place_of (things.Memory place) = place
place_of (things.Global place) = place
place_of (things.Tag place) = place
place_of (things.Elem place) = place
place_of (things.Segment place) = place

-- two things are one
abbrev pub is_same_thing : Thing → Thing → Bool
is_same_thing a b = kind_of a == kind_of b && place_of a == place_of b

-- the thing is one of these
abbrev pub has : List Thing → Thing → Bool
has set t = list_any (is_same_thing t) set

-- each set of items of a list
unfoldable pub subsets : {A : Type 0} → List A → List (List A)
subsets [] = [] ∷ []
subsets (x ∷ xs) = map (λ set. x ∷ set) (subsets xs) ++ subsets xs

-- the set holds the roots and what each of its members refers to
abbrev pub is_closed : (Thing → List Thing) → List Thing → List Thing → Bool
is_closed refs roots set = list_all (has set) roots && list_all (λ t. list_all (has set) (refs t)) set

-- of all sets of these things, each that holds the roots and what its members refer to holds the thing
abbrev pub is_reached : List Thing → (Thing → List Thing) → List Thing → Thing → Bool
is_reached all refs roots t = list_all (λ set. not (is_closed refs roots set) || has set t) (subsets all)
