-- Lists of entries in the order of their paths.
use Rattle.std.proofs.Common.{◌≡◌, Bool, true, false, cond, List, [], ◌∷◌, ◌++◌, filter, Some, Less, refl, sym, ap, ◌∙◌, inl, inr}
use Rattle.std.proofs.lemmas.Bool.{cond-true, cond-false, false_from_ne_true}
use Rattle.std.specs.Cmp.{tied_itself}
use Rattle.std.specs.Ordering.{is_eq, ordering_reverse}
use Rattle.std.specs.List.{AllByRecursion}
use Rattle.std.specs.List.Sorted.{IsStrictlySortedBy}
use Rattle.std.specs.Map.{keys_of}
use Rattle.values.specs.Lists.{IsIn}
use Rattle.values.specs.Map.{AreInOrder, look_up}
use Rattle.glue_shared.specs.Paths.{Path}
use Rattle.glue_exports.specs.Fronts.{path_order}
use Rattle.glue_exports.specs.Tree.{Entry}
use Rattle.glue_exports.proofs.Order.{path_total}

abbrev AreBehind : Path → List Entry → Type 0
AreBehind path es = AllByRecursion (λ (other : Path). path_order path other ≡ Less) (keys_of es)

behind_each : (path : Path) (es : List Entry) (e : Entry) → AreBehind path es → IsIn e es → path_order path e.0 ≡ Less
behind_each path [] e h i = absurd i
behind_each path (f ∷ es) e h (inl same) = rw same h.0
behind_each path (f ∷ es) e h (inr i) = behind_each path es e h.1 i

all_behind : (path : Path) (es : List Entry) → ((e : Entry) → IsIn e es → path_order path e.0 ≡ Less) → AreBehind path es
all_behind path [] h = tt
all_behind path (e ∷ es) h = (h e (inl refl), all_behind path es (λ f i. h f (inr i)))

pub first_behind : (e : Entry) (es : List Entry) (f : Entry) → AreInOrder path_order (e ∷ es) → IsIn f es → path_order e.0 f.0 ≡ Less
unfolding IsStrictlySortedBy
first_behind e es f h i = behind_each e.0 es f h.0 i

pub rest_ordered : (e : Entry) (es : List Entry) → AreInOrder path_order (e ∷ es) → AreInOrder path_order es
unfolding IsStrictlySortedBy
rest_ordered e es h = h.1

behind_left : (path : Path) (es more : List Entry) → AreBehind path (es ++ more) → AreBehind path es
behind_left path [] more h = tt
behind_left path (e ∷ es) more h = (h.0, behind_left path es more h.1)

pub left_ordered : (es more : List Entry) → AreInOrder path_order (es ++ more) → AreInOrder path_order es
unfolding IsStrictlySortedBy
left_ordered [] more h = tt
left_ordered (e ∷ es) more h = (behind_left e.0 es more h.0, left_ordered es more h.1)

pub right_ordered : (es more : List Entry) → AreInOrder path_order (es ++ more) → AreInOrder path_order more
unfolding IsStrictlySortedBy
right_ordered [] more h = h
right_ordered (e ∷ es) more h = right_ordered es more h.1

-- those that pass a test
module _ (p : Entry → Bool) where
  behind_kept : (path : Path) (e : Entry) (es : List Entry) (b : Bool) → path_order path e.0 ≡ Less → AreBehind path es
      → AreBehind path (cond b (e ∷ es) es)
  behind_kept path e es true h rest = (h, rest)
  behind_kept path e es false h rest = rest

  behind_filter : (path : Path) (es : List Entry) → AreBehind path es → AreBehind path (filter p es)
  behind_filter path [] h = tt
  behind_filter path (e ∷ es) h = behind_kept path e (filter p es) (p e) h.0 (behind_filter path es h.1)

  kept_ordered : (e : Entry) (es : List Entry) (b : Bool) → AreBehind e.0 es → AreInOrder path_order es → AreInOrder path_order (cond b (e ∷ es) es)
  unfolding IsStrictlySortedBy
  kept_ordered e es true h rest = (h, rest)
  kept_ordered e es false h rest = rest

  pub filter_ordered : (es : List Entry) → AreInOrder path_order es → AreInOrder path_order (filter p es)
  unfolding IsStrictlySortedBy
  filter_ordered [] h = tt
  filter_ordered (e ∷ es) h = kept_ordered e (filter p es) (p e) (behind_filter e.0 es h.0) (filter_ordered es h.1)

-- an entry is what is found at its path
same_found : (path : Path) (e : Entry) (es : List Entry) → path ≡ e.0 → look_up path_order (e ∷ es) path ≡ Some e.1
same_found path e es same =
    cond-true (is_eq (path_order path e.0)) (Some e.1) (look_up path_order es path) (ap is_eq (ap (path_order path) (sym same) ∙ tied_itself path_total path))

later_found : (path : Path) (e : Entry) (es : List Entry) → path_order e.0 path ≡ Less → look_up path_order (e ∷ es) path ≡ look_up path_order es path
later_found path e es less =
    cond-false (is_eq (path_order path e.0)) (Some e.1) (look_up path_order es path)
    (false_from_ne_true (is_eq (path_order path e.0)) (λ t. let turned = path_total.antisymm path e.0 in let u = ap is_eq (turned ∙ ap ordering_reverse less) in cc))

pub entry_found : (es : List Entry) (e : Entry) → AreInOrder path_order es → IsIn e es → look_up path_order es e.0 ≡ Some e.1
entry_found [] e h i = absurd i
entry_found (f ∷ es) e h (inl same) = same_found e.0 f es (ap (λ (x : Entry). x.0) same) ∙ ap (λ (x : Entry). Some x.1) (sym same)
entry_found (f ∷ es) e h (inr i) = later_found e.0 f es (first_behind f es e h i) ∙ entry_found es e (rest_ordered f es h) i
