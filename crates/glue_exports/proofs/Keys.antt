-- Sets of paths as maps, and what a path more changes.
use Rattle.std.proofs.Common.{◌≡◌, ℕ, List, [], ◌∷◌, refl, sym, ap, ◌∙◌, ◌++◌, ◌+◌, ◌-◌, ◌<◌, map, take, drop, length, suc, arith, get_or, append_assoc, cond, Bool, true, false}
use Rattle.std.specs.Prelude.{◌||◌, is_some, Option, Some}
use Rattle.std.proofs.lemmas.List.{at_drop_more}
use Rattle.std.specs.Cmp.Lexicographic.{lists_ties, texts_ties}
use Rattle.std.specs.Ordering.{eq_by_cmp, nat_cmp}
use Rattle.std.specs.Cmp.Lexicographic.{slice_cmp}
use Rattle.std.specs.BTreeMap.{insert_entry}
use Rattle.values.specs.Map.{look_up}
use Rattle.values.proofs.Maps.{look_up_inserted}
use Rattle.glue_shared.specs.Paths.{Path}
use Rattle.glue_targets.specs.PublicTree.{fronts, same_path}
use Rattle.glue_exports.proofs.Order.{path_total}
use Rattle.glue_exports.specs.Fronts.{path_order, all_fronts}

-- ---- the fronts of a path

-- the proper fronts are those of all segments but the last
pub proper_fronts : (path : Path) → all_fronts (take (length path - 1) path) ≡ fronts path
proper_fronts [] = refl
proper_fronts (segment ∷ []) = refl
proper_fronts (segment ∷ next ∷ path) =
    let more : suc (suc (length path)) - 1 ≡ suc (suc (length path) - 1) = omega arith in
    rw more (ap (λ fs. (segment ∷ []) ∷ map (λ front. segment ∷ front) fs) (proper_fronts (next ∷ path)))

pub map_nothing : (fs : List Path) → map (λ rest. [] ++ rest) fs ≡ fs
map_nothing [] = refl
map_nothing (f ∷ fs) = ap (λ rest. f ∷ rest) (map_nothing fs)

longer : (front : Path) (segment : List ℕ) (fs : List Path)
    → map (λ rest. front ++ rest) (map (λ f. segment ∷ f) fs) ≡ map (λ rest. (front ++ segment ∷ []) ++ rest) fs
longer front segment [] = refl
longer front segment (f ∷ fs) =
    rw (append_assoc front (segment ∷ []) f) (ap (λ rest. (front ++ segment ∷ f) ∷ rest) (longer front segment fs))

-- one front more is found, and the others go on from it
pub front_next : (found : List Path) (front path : Path) (i : ℕ) (segment : List ℕ) → i < length path → segment ≡ get_or path i segment
    → found ++ map (λ rest. front ++ rest) (all_fronts (drop i path))
    ≡ (found ++ (front ++ segment ∷ []) ∷ []) ++ map (λ rest. (front ++ segment ∷ []) ++ rest) (all_fronts (drop (i + 1) path))
front_next found front path i segment within here =
    at_drop_more (λ p. found ++ map (λ rest. front ++ rest) (all_fronts p)) path i segment within
    ∙ ap (λ s. found ++ map (λ rest. front ++ rest) (all_fronts (s ∷ drop (i + 1) path))) (sym here)
    ∙ ap (λ fs. found ++ (front ++ segment ∷ []) ∷ fs) (longer front segment (all_fronts (drop (i + 1) path)))
    ∙ sym (append_assoc found ((front ++ segment ∷ []) ∷ []) (map (λ rest. (front ++ segment ∷ []) ++ rest) (all_fronts (drop (i + 1) path))))

-- ---- sets of paths

-- the order ties two paths where they are the same
pub ties : (path key : Path) → eq_by_cmp path_order path key ≡ same_path path key
ties path key = sym (lists_ties (slice_cmp nat_cmp) texts_ties path key)

some_or : {A : Type 0} (b : Bool) (x : A) (o : Option A) → is_some (cond b (Some x) o) ≡ (b || is_some o)
some_or true x o = refl
some_or false x o = refl

-- a path is a key once another is put in, where it is that one or was a key before
pub is_key_added : (keys : List (Path × Bool)) (path key : Path) (value : Bool)
    → is_some (look_up path_order (insert_entry path_order keys key value) path) ≡ (same_path path key || is_some (look_up path_order keys path))
is_key_added keys path key value =
    ap is_some (look_up_inserted path_order path_total keys key value path)
    ∙ some_or (eq_by_cmp path_order path key) value (look_up path_order keys path)
    ∙ ap (λ b. b || is_some (look_up path_order keys path)) (ties path key)

pub or_moved : (a b c : Bool) → ((b || a) || c) ≡ (a || (b || c))
or_moved true true c = refl
or_moved true false c = refl
or_moved false true c = refl
or_moved false false c = refl
