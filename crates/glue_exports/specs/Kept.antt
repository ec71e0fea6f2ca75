-- What is kept while the items of a tree are made: sets of names and of paths, and the run that has begun.
use Rattle.std.specs.Prelude.{◌≡◌, ℕ, Bool, true, false, not, is_some, List, [], ◌∷◌, ◌++◌, map, filter}
use Rattle.std.specs.Ordering.{nat_cmp}
use Rattle.std.specs.Cmp.Lexicographic.{slice_cmp}
use Rattle.values.specs.Map.{look_up}
use Rattle.glue_words.specs.declared.word.Word.{Word}
use Rattle.glue_words.specs.declared.word.Word.TheVariants as w
use Rattle.glue_words.specs.declared.punct.TheConstants as punct
use Rattle.glue_words.specs.declared.item.Item.{Item}
use Rattle.glue_shared.specs.Names.{is_one_of}
use Rattle.glue_shared.specs.Paths.{Path}
use Rattle.glue_exports.specs.Fronts.{path_order}
use Rattle.glue_exports.specs.Tree.{Entry}
use Rattle.glue_exports.specs.Printed.{assign_item, inner_fronts, inner_item, places_from, root_item, root_publish, runs, runs_from, share_root}

-- the keys are exactly these names
abbrev pub AreNames : List (List ℕ × Bool) → List (List ℕ) → Type 0
AreNames set names = (name : List ℕ) → is_some (look_up (slice_cmp nat_cmp) set name) ≡ is_one_of names name

-- the paths that aren't in the set
abbrev pub lacking : List (Path × Bool) → List Path → List Path
lacking set paths = filter (λ path. not (is_some (look_up path_order set path))) paths

-- what puts a definition at its path, where the objects at the paths of the set stand already
abbrev pub items_placed : (hosts : List (List ℕ)) (root : Word) (operator : ℕ) → List (Path × Bool) → Entry → List Item
items_placed hosts root operator set e =
    map (inner_item root operator) (lacking set (inner_fronts e.0)) ++ assign_item hosts root e ∷ []

-- the object of a namespace at the root under this name, what is put there, and the clause that publishes it
abbrev pub object_items : (hosts : List (List ℕ)) → List ℕ → List ℕ → List Entry → List Item
object_items hosts segment name below =
    root_item segment name ∷ (places_from hosts (w.Refer name true) punct.ASSIGN [] below ++ root_publish segment name)

-- a definition stands under the root of a run that has begun
abbrev pub continues : List Entry → Entry → Bool
continues [] e = false
continues (first ∷ more) e = share_root first.0 e.0

-- the runs of these and of definitions behind them, where these are under one root
abbrev pub runs_behind : List Entry → List Entry → List (List Entry)
runs_behind [] es = runs es
runs_behind (first ∷ more) es = runs_from first more es
