-- What definitions make is a tree.
use Rattle.std.proofs.Common.{◌≡◌, ℕ, List, [], ◌∷◌, ◌++◌, false, refl, sym, ap, subst, ◌∙◌}
use Rattle.std.proofs.lemmas.Bool.{or_from}
use Rattle.std.specs.declared.cmp.Ordering.{Ordering}
use Rattle.std.specs.declared.cmp.Ordering.TheVariants.{Less, Equal, Greater}
use Rattle.std.specs.Ordering.{match_ordering, ordering_reverse}
use Rattle.std.specs.List.{list_any, AllByRecursion}
use Rattle.std.specs.List.Sorted.{IsStrictlySortedBy}
use Rattle.std.specs.Map.{keys_of}
use Rattle.values.specs.Map.{AreInOrder}
use Rattle.glue_shared.specs.Paths.{Path}
use Rattle.glue_exports.specs.declared.definition.ExportDefinition.{ExportDefinition}
use Rattle.glue_exports.specs.Fronts.{path_order}
use Rattle.glue_exports.specs.Tree.{Entry, has_none, clashes, defined, IsTree}
use Rattle.glue_exports.proofs.Growing.{any_inserted, apart_more}
use Rattle.glue_exports.proofs.Order.{path_total}
use Rattle.glue_public.specs.declared.definitions.PublicDefinition.{PublicDefinition}
use Rattle.glue_public.specs.Described.{ArePut, entry_of}
use Rattle.glue_public.proofs.Put.{new_path}

-- ---- the order of the paths

-- all of these stand behind the path
abbrev AreBehind : Path → List Entry → Type 0
AreBehind path es = AllByRecursion (λ (other : Path). path_order path other ≡ Less) (keys_of es)

behind_further : (path next : Path) (es : List Entry) → path_order path next ≡ Less → AreBehind next es → AreBehind path es
behind_further path next [] less h = tt
behind_further path next (e ∷ es) less h = (path_total.trans path next e.0 less h.0, behind_further path next es less h.1)

behind_at : (o : Ordering) (path new : Path) (d : ExportDefinition) (e : Entry) (es : List Entry) → path_order path new ≡ Less
    → AreBehind path (e ∷ es) → AreBehind path (defined es new d)
    → AreBehind path (match_ordering o ((new, d) ∷ e ∷ es) ((e.0, d) ∷ es) (e ∷ defined es new d))
behind_at Less path new d e es less h more = (less, h)
behind_at Equal path new d e es less h more = h
behind_at Greater path new d e es less h more = (h.0, more)

still_behind : (path new : Path) (d : ExportDefinition) (es : List Entry) → path_order path new ≡ Less → AreBehind path es
    → AreBehind path (defined es new d)
still_behind path new d [] less h = (less, tt)
still_behind path new d (e ∷ es) less h =
    behind_at (path_order new e.0) path new d e es less h (still_behind path new d es less h.1)

ordered_at : (o : Ordering) (new : Path) (d : ExportDefinition) (e : Entry) (es : List Entry) → path_order new e.0 ≡ o
    → AreInOrder path_order (e ∷ es) → AreInOrder path_order (defined es new d)
    → AreInOrder path_order (match_ordering o ((new, d) ∷ e ∷ es) ((e.0, d) ∷ es) (e ∷ defined es new d))
unfolding IsStrictlySortedBy
ordered_at Less new d e es at h more = ((at, behind_further new e.0 es at h.0), h)
ordered_at Equal new d e es at h more = h
ordered_at Greater new d e es at h more =
    (still_behind e.0 new d es (path_total.antisymm e.0 new ∙ ap ordering_reverse at) h.0, more)

-- a definition more stands in the paths' order
pub defined_ordered : (tree : List Entry) (new : Path) (d : ExportDefinition) → AreInOrder path_order tree
    → AreInOrder path_order (defined tree new d)
unfolding IsStrictlySortedBy
defined_ordered [] new d h = (tt, tt)
defined_ordered (e ∷ tree) new d h = ordered_at (path_order new e.0) new d e tree refl h (defined_ordered tree new d h.1)

-- ---- trees

-- a path with a name isn't empty
goes_on : (namespace : Path) (name : List ℕ) → has_none (namespace ++ name ∷ []) ≡ false
goes_on [] name = refl
goes_on (segment ∷ namespace) name = refl

no_tree : IsTree []
unfolding IsStrictlySortedBy
no_tree = record { ordered = tt; apart = λ path declared. refl; rooted = refl }

tree_more : (tree : List Entry) (d : PublicDefinition) → clashes tree (entry_of d).0 d.definition ≡ false → IsTree tree
    → IsTree (defined tree (entry_of d).0 d.definition)
tree_more tree d clear is =
    let path = (entry_of d).0 in
    record {
      ordered = defined_ordered tree path d.definition is.ordered;
      apart = apart_more tree path d.definition clear is.apart;
      rooted =
          any_inserted path_order has_none tree path d.definition (new_path tree (entry_of d) clear)
          ∙ or_from (has_none path) (list_any has_none (keys_of tree)) (goes_on d.namespace d.name) is.rooted;
    }

tree_grown : (ds : List PublicDefinition) (tree new : List Entry) → ArePut ds tree new → IsTree tree → IsTree new
tree_grown [] tree new put is = subst IsTree (sym put) is
tree_grown (d ∷ ds) tree new put is = tree_grown ds (defined tree (entry_of d).0 d.definition) new put.1 (tree_more tree d put.0 is)

-- what definitions make is a tree
pub tree_is : (ds : List PublicDefinition) (tree : List Entry) → ArePut ds [] tree → IsTree tree
tree_is ds tree put = tree_grown ds [] tree put no_tree
