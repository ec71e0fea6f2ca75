-- The definitions that a tree has under one root, run by run.
use Rattle.std.proofs.Common.{◌≡◌, ℕ, Bool, true, false, cond, true≢false, List, [], ◌∷◌, ◌++◌, flat_map, append_assoc, refl, sym, ap, subst, ◌∙◌, inl, inr}
use Rattle.values.specs.Lists.{IsIn, AreDistinct}
use Rattle.values.specs.Map.{AreInOrder}
use Rattle.values.proofs.Members.{in_left, in_right, in_either}
use Rattle.glue_shared.specs.Paths.{Path}
use Rattle.glue_exports.specs.declared.definition.ExportDefinition.{ExportDefinition}
use Rattle.glue_exports.specs.Fronts.{path_order}
use Rattle.glue_exports.specs.Tree.{Entry}
use Rattle.glue_exports.specs.Printed.{share_root, runs_from, runs}
use Rattle.glue_exports.proofs.Joined.{in_last, from_flat}
use Rattle.glue_exports.proofs.Order.{IsUnder, IsBelow, goes_on, shared_under, under_shared, left_behind}
use Rattle.glue_exports.proofs.Sorted.{first_behind, left_ordered, right_ordered}

-- definitions in the paths' order, at paths that aren't empty
pub record IsLaid (tree : List Entry) : Type 0 where
  pub ordered : AreInOrder path_order tree
  pub rooted : (e : Entry) → IsIn e tree → e.0 ≡ [] → ⊥

laid_right : (es more : List Entry) → IsLaid (es ++ more) → IsLaid more
laid_right es more h = record { ordered = right_ordered es more h.ordered; rooted = λ e i. h.rooted e (in_right e es more i) }

-- a first definition, and others below it
abbrev pub IsRun : List Entry → Type 0
IsRun [] = ⊥
IsRun (([], d) ∷ more) = ⊥
IsRun ((segment ∷ path, d) ∷ more) = (e : Entry) → IsIn e more → IsBelow segment e.0

-- no path of the first begins as one of the second does
abbrev AreElsewhere : List Entry → List Entry → Type 0
AreElsewhere run rest =
    (segment : List ℕ) (e f : Entry) → IsIn e run → IsUnder segment e.0 → IsIn f rest → IsUnder segment f.0 → ⊥

-- a tree is these runs, each under a root of its own
abbrev AreRuns : List (List Entry) → List Entry → Type 0
AreRuns [] tree = tree ≡ []
AreRuns (run ∷ rs) tree = (rest : List Entry) × (tree ≡ run ++ rest) × IsRun run × AreElsewhere run rest × AreRuns rs rest

-- ---- the runs of a tree

module _ (segment : List ℕ) (path : Path) (d : ExportDefinition) (more : List Entry) where
  abbrev first : Entry
  first = (segment ∷ path, d)

  is_run : IsLaid (first ∷ more) → ((e : Entry) → IsIn e more → IsUnder segment e.0) → IsRun (first ∷ more)
  is_run h under e i = goes_on segment path e.0 (first_behind first more e h.ordered i) (under e i)

  -- what stands behind a definition under another root is elsewhere
  elsewhere : (e : Entry) (es : List Entry) → IsLaid (first ∷ (more ++ e ∷ es)) → ((f : Entry) → IsIn f more → IsUnder segment f.0)
      → (IsUnder segment e.0 → ⊥) → AreElsewhere (first ∷ more) (e ∷ es)
  elsewhere e es h under other s f g i u k v =
      let at : s ≡ segment = elim i [
        | inl same ↦ sym (subst (λ (x : Entry). IsUnder s x.0) same u)
        | inr there ↦ both f.0 u (under f there)
      ] in
      away g k (subst (λ (x : List ℕ). IsUnder x g.0) at v)
    where
      both : {s : List ℕ} (p : Path) → IsUnder s p → IsUnder segment p → s ≡ segment
      both [] u v = absurd u
      both (a ∷ p) u v = sym u ∙ v

      away : (g : Entry) → IsIn g (e ∷ es) → IsUnder segment g.0 → ⊥
      away g (inl same) v = other (subst (λ (x : Entry). IsUnder segment x.0) same v)
      away g (inr k) v =
          left_behind segment path e.0 g.0 (first_behind first (more ++ e ∷ es) e h.ordered (in_right e more (e ∷ es) (inl refl)))
          (first_behind e es g (laid_right (first ∷ more) (e ∷ es) h).ordered k) other v

laid_left : (es more : List Entry) → IsLaid (es ++ more) → IsLaid es
laid_left es more h = record { ordered = left_ordered es more h.ordered; rooted = λ e i. h.rooted e (in_left e es more i) }

-- a definition behind a run belongs to it, or begins another one
next_case : (segment : List ℕ) (path : Path) (d : ExportDefinition) (more : List Entry) (e : Entry) (es : List Entry) (shared : Bool)
    → share_root (segment ∷ path) e.0 ≡ shared → IsLaid ((segment ∷ path, d) ∷ (more ++ e ∷ es)) → ((f : Entry) → IsIn f more → IsUnder segment f.0)
    → (IsUnder segment e.0 → AreRuns (runs_from (segment ∷ path, d) (more ++ e ∷ []) es) ((segment ∷ path, d) ∷ (more ++ e ∷ es)))
    → AreRuns (runs_from e [] es) (e ∷ es)
    → AreRuns (cond shared (runs_from (segment ∷ path, d) (more ++ e ∷ []) es) (((segment ∷ path, d) ∷ more) ∷ runs_from e [] es))
    ((segment ∷ path, d) ∷ (more ++ e ∷ es))
next_case segment path d more e es true shared h under joined begun = joined (shared_under segment path e.0 shared)
next_case segment path d more e es false shared h under joined begun = (
  e ∷ es,
  refl,
  is_run segment path d more (laid_left ((segment ∷ path, d) ∷ more) (e ∷ es) h) under,
  elsewhere segment path d more e es h under (λ u. true≢false (sym (under_shared segment path e.0 u) ∙ shared)),
  begun,
)

runs_go : (segment : List ℕ) (path : Path) (d : ExportDefinition) (more es : List Entry) → IsLaid ((segment ∷ path, d) ∷ (more ++ es))
    → ((e : Entry) → IsIn e more → IsUnder segment e.0)
    → AreRuns (runs_from (segment ∷ path, d) more es) ((segment ∷ path, d) ∷ (more ++ es))
runs_go segment path d more [] h under =
    ([], refl, is_run segment path d more (laid_left ((segment ∷ path, d) ∷ more) [] h) under, λ s e f i u k. absurd k, refl)
runs_go segment path d more (([], d2) ∷ es) h under =
    absurd (h.rooted ([], d2) (inr (in_right ([], d2) more (([], d2) ∷ es) (inl refl))) refl)
runs_go segment path d more ((b ∷ other, d2) ∷ es) h under =
    let e : Entry = (b ∷ other, d2) in
    let joined = append_assoc more (e ∷ []) es in
    next_case segment path d more e es (share_root (segment ∷ path) e.0) refl h under
    (λ u.
    subst (λ (xs : List Entry). AreRuns (runs_from (segment ∷ path, d) (more ++ e ∷ []) es) ((segment ∷ path, d) ∷ xs)) joined
    (runs_go segment path d (more ++ e ∷ []) es (subst (λ (xs : List Entry). IsLaid ((segment ∷ path, d) ∷ xs)) (sym joined) h)
    (λ f i. elim (in_last f e more i) [
      | inl there ↦ under f there
      | inr same ↦ subst (λ (x : Entry). IsUnder segment x.0) (sym same) u
    ])))
    (runs_go b other d2 [] es (laid_right ((segment ∷ path, d) ∷ more) (e ∷ es) h) (λ f i. absurd i))

runs_are : (tree : List Entry) → IsLaid tree → AreRuns (runs tree) tree
runs_are [] h = refl
runs_are (([], d) ∷ es) h = absurd (h.rooted ([], d) (inl refl) refl)
runs_are ((segment ∷ path, d) ∷ es) h = runs_go segment path d [] es h (λ e i. absurd i)

-- ---- each of them

-- a run of a tree: all that the tree has under one root
pub record IsRunOf (tree run : List Entry) : Type 0 where
  pub form : IsRun run
  pub among : (e : Entry) → IsIn e run → IsIn e tree
  pub all : (segment : List ℕ) (e f : Entry) → IsIn e run → IsUnder segment e.0 → IsIn f tree → IsUnder segment f.0 → IsIn f run

run_here : (rs : List (List Entry)) (tree run : List Entry) → AreRuns (run ∷ rs) tree → IsRunOf tree run
run_here rs tree run (rest, whole, form, away, later) = record {
  form = form;
  among = λ e i. rw whole (in_left e run rest i);
  all = λ s e f i u k v. elim (in_either f run rest (rw whole at k)) [
    | inl here ↦ here
    | inr behind ↦ absurd (away s e f i u behind v)
  ];
}

run_later : (tree first rest run : List Entry) → tree ≡ first ++ rest → AreElsewhere first rest → IsRunOf rest run → IsRunOf tree run
run_later tree first rest run whole away h = record {
  form = h.form;
  among = λ e i. rw whole (in_right e first rest (h.among e i));
  all = λ s e f i u k v. elim (in_either f first rest (rw whole at k)) [
    | inl before ↦ absurd (away s f e before v (h.among e i) u)
    | inr there ↦ h.all s e f i u there v
  ];
}

run_of : (rs : List (List Entry)) (tree run : List Entry) → AreRuns rs tree → IsIn run rs → IsRunOf tree run
run_of [] tree run h i = absurd i
run_of (r ∷ rs) tree run h (inl same) = rw same (run_here rs tree r h)
run_of (r ∷ rs) tree run (rest, whole, form, away, later) (inr i) = run_later tree r rest run whole away (run_of rs rest run later i)

pub each_run : (tree run : List Entry) → IsLaid tree → IsIn run (runs tree) → IsRunOf tree run
each_run tree run h i = run_of (runs tree) tree run (runs_are tree h) i

whole_tree : (rs : List (List Entry)) (tree : List Entry) → AreRuns rs tree → tree ≡ flat_map (λ run. run) rs
whole_tree [] tree h = h
whole_tree (run ∷ rs) tree (rest, whole, form, away, later) = whole ∙ ap (λ (es : List Entry). run ++ es) (whole_tree rs rest later)

-- joined, they are the tree
pub runs_whole : (tree : List Entry) → IsLaid tree → tree ≡ flat_map (λ run. run) (runs tree)
runs_whole tree h = whole_tree (runs tree) tree (runs_are tree h)

-- each definition is in one
pub in_run : (tree : List Entry) (e : Entry) → IsLaid tree → IsIn e tree → (run : List Entry) × IsIn run (runs tree) × IsIn e run
in_run tree e h i = from_flat (λ (run : List Entry). run) e (runs tree) (rw (runs_whole tree h) at i)

-- ---- namespaces

-- the segment of a run's namespace: a run that begins with a path of one name has none
abbrev pub namespace_of : List Entry → List (List ℕ)
namespace_of ((segment ∷ next ∷ path, d) ∷ more) = segment ∷ []
namespace_of run = []

-- a path of the run goes on there
pub from_namespace : (run : List Entry) (segment : List ℕ) → IsIn segment (namespace_of run) → (e : Entry) × IsIn e run × IsBelow segment e.0
from_namespace [] segment i = absurd i
from_namespace (([], d) ∷ more) segment i = absurd i
from_namespace ((a ∷ [], d) ∷ more) segment i = absurd i
from_namespace ((a ∷ next ∷ path, d) ∷ more) segment i = elim i [
  | inl same ↦ ((a ∷ next ∷ path, d), inl refl, sym same)
  | inr none ↦ absurd none
]

pub below_under : (segment : List ℕ) (path : Path) → IsBelow segment path → IsUnder segment path
below_under segment [] h = h
below_under segment (a ∷ []) h = absurd h
below_under segment (a ∷ n ∷ path) h = h

namespaces_distinct : (rs : List (List Entry)) (tree : List Entry) → AreRuns rs tree → AreDistinct (flat_map namespace_of rs)
namespaces_distinct [] tree h = tt
namespaces_distinct ([] ∷ rs) tree (rest, whole, form, away, later) = absurd form
namespaces_distinct ((([], d) ∷ more) ∷ rs) tree (rest, whole, form, away, later) = absurd form
namespaces_distinct (((a ∷ [], d) ∷ more) ∷ rs) tree (rest, whole, form, away, later) = namespaces_distinct rs rest later
namespaces_distinct (((a ∷ next ∷ path, d) ∷ more) ∷ rs) tree (rest, whole, form, away, later) = (
  λ i.
      let r = from_flat namespace_of a rs i in
      let e = from_namespace r.0 a r.2 in
      away a (a ∷ next ∷ path, d) e.0 (inl refl) refl ((run_of rs rest r.0 later r.1).among e.0 e.1) (below_under a e.0.0 e.2),
  namespaces_distinct rs rest later,
)

-- each namespace's segment is another one
pub segments_distinct : (tree : List Entry) → IsLaid tree → AreDistinct (flat_map namespace_of (runs tree))
segments_distinct tree h = namespaces_distinct (runs tree) tree (runs_are tree h)
