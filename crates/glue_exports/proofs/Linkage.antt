-- What the layers above need of the items of a tree: they belong into a file, what they declare, that the names under which they publish things
-- stand for those, and that they have the words that their roles ask for.
use Rattle.std.proofs.Common.{◌≡◌, ℕ, List, [], ◌∷◌, map, refl, inl, inr}
use Rattle.values.specs.Lists.{IsIn, AreDistinct, AreApart}
use Rattle.values.proofs.Members.{distinct_both}
use Rattle.glue_exports.specs.Tree.{Entry, IsTree}
use Rattle.glue_exports.specs.Printed.{RootNames, root_name, tree_items}
use Rattle.glue_words.specs.Names.{bound_names}
use Rattle.glue_exports.proofs.Joined.{in_map, from_map}
-- the namespaces at the root
pub use Rattle.glue_exports.proofs.Items.{IsNamespace, OfEach, each_printed}
-- what items declare: the names of definitions' items and of namespaces at the root, each once
pub use Rattle.glue_exports.proofs.Bound.{own_names, root_segments, root_names, segment_all, segment_only, each_segment, bound_only, bound_all, bound_distinct}
-- items belong into a file where those of definitions do, and the file has the names
pub use Rattle.glue_exports.proofs.Belonging.{HasName, is_hosted, HasTree, printed_belong}
-- and words behind notes and behind `export ` do
pub use Rattle.glue_exports.proofs.Behind.{behind_belong, export_belongs}
-- words behind the note of a comment
pub use Rattle.glue_exports.proofs.Noted.{noted_belong, noted_binds, noted_unexported, noted_exported}
-- the names under which items publish things stand for them
pub use Rattle.glue_exports.proofs.Named.{IsDeclaredBy, IsObjectOf, IsReexportOf, Stands, Declared, Grouped, Reexported, IsNamed, printed_named}
-- items have the words that their roles ask for
pub use Rattle.glue_exports.proofs.Prescribed.{IsAskedFor, printed_prescribed}

-- ---- the names of namespaces

-- a function that gives each of some values once
once_mapped : {A B : Type 0} (f : A → B) (xs : List A) → ((x y : A) → IsIn x xs → IsIn y xs → f x ≡ f y → x ≡ y) → AreDistinct xs → AreDistinct (map f xs)
once_mapped f [] one d = tt
once_mapped f (x ∷ xs) one d = (
  λ i. let r = from_map f (f x) xs i in d.0 (rw (← one x r.0 (inl refl) (inr r.1) r.2) at r.1),
  once_mapped f xs (λ y z i k. one y z (inr i) (inr k)) d.1,
)

module _ (roots : RootNames) (tree : List Entry) (t : IsTree tree) where
  -- they are those of the segments at which namespaces are printed
  pub root_name_all : (segment : List ℕ) → IsNamespace tree segment → IsIn (root_name roots segment) (root_names roots tree)
  root_name_all segment n = in_map (root_name roots) segment (root_segments tree) (segment_all tree t segment n)

  pub root_name_only : (name : List ℕ) → IsIn name (root_names roots tree) → (segment : List ℕ) × IsNamespace tree segment × (name ≡ root_name roots segment)
  root_name_only name i = let r = from_map (root_name roots) name (root_segments tree) i in (r.0, segment_only tree t r.0 r.1, r.2)

  -- distinct where no two namespaces have the same
  pub root_names_distinct : ((a b : List ℕ) → IsNamespace tree a → IsNamespace tree b → root_name roots a ≡ root_name roots b → a ≡ b)
      → AreDistinct (root_names roots tree)
  root_names_distinct one =
      once_mapped (root_name roots) (root_segments tree)
      (λ a b i k e. one a b (segment_only tree t a i) (segment_only tree t b k) e) (each_segment tree t)

  -- and so are the names that the items declare, where definitions declare distinct names, and none of a namespace
  pub declared_once : (hosts : List (List ℕ)) → AreDistinct (own_names tree)
      → ((a b : List ℕ) → IsNamespace tree a → IsNamespace tree b → root_name roots a ≡ root_name roots b → a ≡ b)
      → AreApart (own_names tree) (root_names roots tree) → AreDistinct (bound_names (tree_items roots hosts tree))
  declared_once hosts own one apart =
      bound_distinct roots hosts tree t (distinct_both (own_names tree) (root_names roots tree) own (root_names_distinct one) apart)
