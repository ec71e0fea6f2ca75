-- Sets of names and of paths, kept as maps.
use Rattle.std.proofs.Common.{◌≡◌, ℕ, ◌+◌, ◌<◌, List, [], ◌∷◌, ◌++◌, Bool, true, false, cond, take, get_or, length, is_some, Option, Some, None, refl, sym, ap, ap₂, ◌∙◌, drop}
use Rattle.std.specs.Prelude.{◌||◌, filter, not}
use Rattle.std.specs.Ordering.{nat_cmp, eq_by_cmp}
use Rattle.std.specs.Cmp.Lexicographic.{slice_cmp, texts_ties, nat_list_cmp_total, nat_list_eq_equiv, lists_equiv, lists_ties, lists_total}
use Rattle.std.specs.List.{list_any}
use Rattle.std.specs.Str.{bytes_eq}
use Rattle.std.specs.BTreeMap.{insert_entry}
use Rattle.std.proofs.lemmas.List.{take_more}
use Rattle.std.proofs.lemmas.List.Elements.{filter-append}
use Rattle.std.proofs.lemmas.List.Folds.{list_any-append}
use Rattle.values.specs.Map.{look_up}
use Rattle.values.proofs.Maps.{look_up_inserted}
use Rattle.glue_shared.specs.Names.{is_one_of}
use Rattle.glue_shared.specs.Paths.{Path}
use Rattle.glue_targets.specs.PublicTree.{fronts, same_path}
use Rattle.glue_exports.specs.Fronts.{AreAdded, AreKeys, path_order}
use Rattle.glue_exports.specs.Kept.{AreNames, lacking}
use Rattle.glue_exports.specs.Printed.{inner_fronts, is_placed, new_fronts}
use Rattle.glue_exports.specs.Tree.{Entry}

some_either : {A : Type 0} (b : Bool) (x : A) (o : Option A) → is_some (cond b (Some x) o) ≡ (is_some o || b)
some_either true x None = refl
some_either true x (Some y) = refl
some_either false x None = refl
some_either false x (Some y) = refl

or_none : (b : Bool) → (b || false) ≡ b
or_none true = refl
or_none false = refl

-- one more name
pub name_put : (set : List (List ℕ × Bool)) (names : List (List ℕ)) (i : ℕ) (name : List ℕ) → i < length names → name ≡ get_or names i name
    → AreNames set (take i names) → AreNames (insert_entry (slice_cmp nat_cmp) set name true) (take (i + 1) names)
name_put set names i name within here kept q =
    let test = λ (n : List ℕ). bytes_eq n q in
    let same : eq_by_cmp (slice_cmp nat_cmp) q name ≡ bytes_eq name q = sym (texts_ties q name) ∙ nat_list_eq_equiv.symm q name in
    let grown : take (i + 1) names ≡ take i names ++ name ∷ [] =
    take_more names i name within ∙ ap (λ (n : List ℕ). take i names ++ n ∷ []) (sym here) in
    ap is_some (look_up_inserted (slice_cmp nat_cmp) nat_list_cmp_total set name true q)
    ∙ some_either (eq_by_cmp (slice_cmp nat_cmp) q name) true (look_up (slice_cmp nat_cmp) set q)
    ∙ ap₂ (λ (a b : Bool). a || b) (kept q) (same ∙ sym (or_none (bytes_eq name q)))
    ∙ sym (list_any-append test (take i names) (name ∷ []))
    ∙ ap (λ (ns : List (List ℕ)). is_one_of ns q) (sym grown)

-- ---- paths

-- the paths that have an object, with those of one more definition
pub path_put : (set new : List (Path × Bool)) (before : List Entry) (e : Entry) → AreKeys set (is_placed before)
    → AreAdded set (e.0 ∷ fronts e.0) new → AreKeys new (is_placed (before ++ e ∷ []))
path_put set new before e kept added q =
    let test = λ (d : Entry). same_path d.0 q || list_any (same_path q) (fronts d.0) in
    let turned : (same_path q e.0 || list_any (same_path q) (fronts e.0)) ≡ test e =
    ap (λ (b : Bool). b || list_any (same_path q) (fronts e.0)) ((lists_equiv nat_list_eq_equiv).symm q e.0) in
    added q
    ∙ ap₂ (λ (a b : Bool). a || b) (kept q) (turned ∙ sym (or_none (test e)))
    ∙ sym (list_any-append test before (e ∷ []))

-- a path, and paths behind it
pub added_first : (old new : List (Path × Bool)) (path : Path) (v : Bool) (paths : List Path)
    → AreAdded (insert_entry path_order old path v) paths new → AreAdded old (path ∷ paths) new
added_first old new path v paths added q =
    let there = is_some (look_up path_order old q) in
    let others = list_any (same_path q) paths in
    let put : is_some (look_up path_order (insert_entry path_order old path v) q) ≡ (there || same_path q path) =
    ap is_some (look_up_inserted path_order (lists_total nat_list_cmp_total) old path v q)
    ∙ some_either (eq_by_cmp path_order q path) v (look_up path_order old q)
    ∙ ap (λ (b : Bool). there || b) (sym (lists_ties (slice_cmp nat_cmp) texts_ties q path)) in
    added q ∙ ap (λ (b : Bool). b || others) put ∙ either there (same_path q path) others
  where
    either : (a b c : Bool) → ((a || b) || c) ≡ (a || (b || c))
    either true b c = refl
    either false b c = refl

filter_same : {A : Type 0} (p q : A → Bool) → ((x : A) → p x ≡ q x) → (xs : List A) → filter p xs ≡ filter q xs
filter_same p q h [] = refl
filter_same p q h (x ∷ xs) = ap₂ (λ (b : Bool) (ys : List _). cond b (x ∷ ys) ys) (h x) (filter_same p q h xs)

-- one more path
pub lacking_more : (set : List (Path × Bool)) (paths : List Path) (i : ℕ) (path : Path) → i < length paths → path ≡ get_or paths i path
    → lacking set (take (i + 1) paths) ≡ lacking set (take i paths) ++ cond (is_some (look_up path_order set path)) [] (path ∷ [])
lacking_more set paths i path within here =
    let test = λ (p : Path). not (is_some (look_up path_order set p)) in
    ap (filter test) (take_more paths i path within ∙ ap (λ (p : Path). take i paths ++ p ∷ []) (sym here))
    ∙ filter-append test (take i paths) (path ∷ [])
    ∙ ap (λ (ps : List Path). lacking set (take i paths) ++ ps) (turned (is_some (look_up path_order set path)))
  where
    turned : (b : Bool) → cond (not b) (path ∷ []) [] ≡ cond b [] (path ∷ [])
    turned true = refl
    turned false = refl

-- the paths that aren't in the set are those that have no object
pub lacking_are : (set : List (Path × Bool)) (before : List Entry) (path : Path) → AreKeys set (is_placed before)
    → lacking set (inner_fronts path) ≡ new_fronts before path
lacking_are set before path kept =
    filter_same (λ p. not (is_some (look_up path_order set p))) (λ p. not (is_placed before p)) (λ p. ap not (kept p)) (inner_fronts path)

-- the fronts of two segments or more are all but the first
pub inner_are : (path : Path) → inner_fronts path ≡ drop 1 (fronts path)
inner_are [] = refl
inner_are (segment ∷ []) = refl
inner_are (segment ∷ next ∷ path) = refl
