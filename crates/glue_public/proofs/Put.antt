-- What stands in a tree that definitions make.
use Rattle.std.proofs.Common.{◌≡◌, ◌⊎◌, ℕ, false, true≢false, cond, List, [], ◌∷◌, ◌++◌, map, refl, sym, ap, ◌∙◌, subst, inl, inr}
use Rattle.std.proofs.lemmas.Bool.{or_parts}
use Rattle.std.specs.Prelude.{is_some, Some}
use Rattle.std.specs.declared.cmp.Ordering.{Ordering}
use Rattle.std.specs.declared.cmp.Ordering.TheVariants.{Less, Equal, Greater}
use Rattle.std.specs.Ordering.{is_eq, match_ordering}
use Rattle.std.specs.BTreeMap.{insert_entry}
use Rattle.values.specs.Map.{look_up}
use Rattle.values.specs.Lists.{IsIn}
use Rattle.glue_shared.specs.Paths.{Path}
use Rattle.glue_targets.specs.PublicTree.{PublicPair}
use Rattle.glue_exports.specs.declared.tree.ExportFault.{ExportFault}
use Rattle.glue_exports.specs.declared.tree.ExportFault.TheVariants as faults
use Rattle.glue_exports.specs.Tree as trees
use Rattle.glue_exports.specs.Fronts.{path_order}
use Rattle.glue_exports.specs.Tree.{Entry, clashes, defined, found}
use Rattle.glue_exports.specs.Sound.{IsSound, AreSound, entry_pairs, own_pairs}
use Rattle.glue_exports.proofs.Joined.{in_flat, from_flat}
use Rattle.glue_public.specs.declared.definitions.PublicDefinition.{PublicDefinition}
use Rattle.glue_public.specs.Described.{ArePut, IsRefused, IsCause, entry_of}

-- ---- an entry with a new key

module _ {K X : Type 0} (R : K → K → Ordering) (x : K × X) where
  further : (o : Ordering) (e : K × X) (es : List (K × X)) (k : K) → is_some (cond (is_eq o) (Some e.1) (look_up R es k)) ≡ false
      → is_some (look_up R es k) ≡ false
  further Less e es k new = new
  further Equal e es k new = absurd (true≢false new)
  further Greater e es k new = new

  from_place : (o : Ordering) (e : K × X) (es : List (K × X)) (k : K) (v : X)
      → is_some (cond (is_eq o) (Some e.1) (look_up R es k)) ≡ false
      → (IsIn x (insert_entry R es k v) → (x ≡ (k, v)) ⊎ IsIn x es)
      → IsIn x (match_ordering o ((k, v) ∷ e ∷ es) ((e.0, v) ∷ es) (e ∷ insert_entry R es k v)) → (x ≡ (k, v)) ⊎ IsIn x (e ∷ es)
  from_place Less e es k v new more i = i
  from_place Equal e es k v new more i = absurd (true≢false new)
  from_place Greater e es k v new more (inl same) = inr (inl same)
  from_place Greater e es k v new more (inr i) = elim (more i) [ inl same ↦ inl same | inr there ↦ inr (inr there) ]

  pub from_inserted : (es : List (K × X)) (k : K) (v : X) → is_some (look_up R es k) ≡ false → IsIn x (insert_entry R es k v)
      → (x ≡ (k, v)) ⊎ IsIn x es
  from_inserted [] k v new i = i
  from_inserted (e ∷ es) k v new i =
      from_place (R k e.0) e es k v new (from_inserted es k v (further (R k e.0) e es k new)) i

  to_place : (o : Ordering) (e : K × X) (es : List (K × X)) (k : K) (v : X)
      → is_some (cond (is_eq o) (Some e.1) (look_up R es k)) ≡ false
      → ((x ≡ (k, v)) ⊎ IsIn x es → IsIn x (insert_entry R es k v))
      → (x ≡ (k, v)) ⊎ IsIn x (e ∷ es) → IsIn x (match_ordering o ((k, v) ∷ e ∷ es) ((e.0, v) ∷ es) (e ∷ insert_entry R es k v))
  to_place Less e es k v new more i = i
  to_place Equal e es k v new more i = absurd (true≢false new)
  to_place Greater e es k v new more (inl same) = inr (more (inl same))
  to_place Greater e es k v new more (inr (inl same)) = inl same
  to_place Greater e es k v new more (inr (inr i)) = inr (more (inr i))

  pub to_inserted : (es : List (K × X)) (k : K) (v : X) → is_some (look_up R es k) ≡ false → (x ≡ (k, v)) ⊎ IsIn x es
      → IsIn x (insert_entry R es k v)
  to_inserted [] k v new i = i
  to_inserted (e ∷ es) k v new i =
      to_place (R k e.0) e es k v new (to_inserted es k v (further (R k e.0) e es k new)) i

-- ---- definitions that are put in

-- a definition that doesn't clash has a new path
pub new_path : (tree : List Entry) (e : Entry) → clashes tree e.0 e.1 ≡ false → is_some (found tree e.0) ≡ false
new_path tree e clear = (or_parts _ _ clear).0

pub from_put : (ds : List PublicDefinition) (tree new : List Entry) → ArePut ds tree new → (e : Entry) → IsIn e new
    → IsIn e (map entry_of ds) ⊎ IsIn e tree
from_put [] tree new h e i = inr (subst (IsIn e) h i)
from_put (d ∷ ds) tree new h e i =
    elim (from_put ds (defined tree (entry_of d).0 d.definition) new h.1 e i) [
      | inl later ↦ inl (inr later)
      | inr here ↦ elim (from_inserted path_order e tree (entry_of d).0 d.definition (new_path tree (entry_of d) h.0) here) [
        | inl same ↦ inl (inl same)
        | inr before ↦ inr before
      ]
    ]

pub to_put : (ds : List PublicDefinition) (tree new : List Entry) → ArePut ds tree new → (e : Entry)
    → IsIn e (map entry_of ds) ⊎ IsIn e tree → IsIn e new
to_put [] tree new h e (inl none) = absurd none
to_put [] tree new h e (inr i) = subst (IsIn e) (sym h) i
to_put (d ∷ ds) tree new h e (inl (inl same)) =
    to_put ds (defined tree (entry_of d).0 d.definition) new h.1 e
    (inr (to_inserted path_order e tree (entry_of d).0 d.definition (new_path tree (entry_of d) h.0) (inl same)))
to_put (d ∷ ds) tree new h e (inl (inr i)) = to_put ds (defined tree (entry_of d).0 d.definition) new h.1 e (inl i)
to_put (d ∷ ds) tree new h e (inr i) =
    to_put ds (defined tree (entry_of d).0 d.definition) new h.1 e
    (inr (to_inserted path_order e tree (entry_of d).0 d.definition (new_path tree (entry_of d) h.0) (inr i)))

-- why one definition isn't put in is why all of them aren't, where it comes next
pub refused : (left ds all : List PublicDefinition) (d : PublicDefinition) (tree : List Entry) (namespace : Path) (own : List ℕ) (fault : ExportFault)
    → left ≡ d ∷ ds → namespace ≡ d.namespace → own ≡ d.name → trees.IsCause tree (namespace ++ own ∷ []) own d.definition fault
    → ((name : List ℕ) → IsRefused left tree name → IsRefused all [] name) → IsCause all [] fault
refused left ds all d tree namespace own (faults.Clash name) next place named h up =
    let moved =
    ap (λ (ns : Path). clashes tree (ns ++ own ∷ []) d.definition) place
    ∙ ap (λ (n : List ℕ). clashes tree (d.namespace ++ n ∷ []) d.definition) named in
    up name (subst (λ (ds : List PublicDefinition). IsRefused ds tree name) (sym next) (inl (sym moved ∙ h.1, h.0 ∙ named)))
refused left ds all d tree namespace own faults.OutOfMemory next place named h up = tt

-- ---- what is said of each entry

pub all_sound : (tree : List Entry) → ((e : Entry) → IsIn e tree → IsSound e.1) → AreSound tree
all_sound [] h = tt
all_sound (e ∷ tree) h = (h e (inl refl), all_sound tree (λ f i. h f (inr i)))

-- pairs of trees one of which has all entries of the other
pub pairs_among : (some more : List Entry) → ((e : Entry) → IsIn e some → IsIn e more) → (pair : PublicPair) → IsIn pair (own_pairs some)
    → IsIn pair (own_pairs more)
pairs_among some more h pair i =
    let r = from_flat entry_pairs pair some i in in_flat entry_pairs r.0 pair more (h r.0 r.1) r.2
