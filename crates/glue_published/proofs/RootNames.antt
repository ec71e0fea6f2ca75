-- The keys of a set are the names that it holds; and those that have members and are no re-exports, in order.
use Rattle.std.proofs.Common.{◌≡◌, ℕ, List, [], ◌∷◌, refl, sym, ap, subst, ◌∙◌, cond, inl, inr, Bool, true, false, not, true≢false}
use Rattle.std.specs.Prelude.{◌&&◌, is_some, Option, Some, filter}
use Rattle.std.specs.List.{list_any}
use Rattle.std.specs.List.Sorted.{IsStrictlySortedBy}
use Rattle.std.specs.Map.{keys_of}
use Rattle.std.specs.Ordering.{eq_by_cmp}
use Rattle.std.specs.Str.{bytes_eq}
use Rattle.std.proofs.lemmas.Bool.{and_parts}
use Rattle.std.proofs.lemmas.List.Kept.{IsStrictlySortedBy-filter}
use Rattle.std.proofs.lemmas.Slice.Eq.{bytes_eq-Decides}
use Rattle.values.specs.Lists.{IsIn}
use Rattle.values.specs.Map.{look_up}
use Rattle.glue_shared.specs.declared.aux.WasmBindgenAux.{WasmBindgenAux}
use Rattle.glue_shared.specs.declared.settings.Settings.{Settings}
use Rattle.glue_faults.proofs.Clashes.{same_test}
use Rattle.glue_exports.proofs.Joined.{from_filter, in_filter}
use Rattle.glue_published.specs.Reexports.{has_members}
use Rattle.glue_published.specs.Roots.{AreRoots}
use Rattle.glue_published.specs.Sets.{name_order, holds, AreNames}
use Rattle.glue_published.specs.Things.{published_things}

-- ---- the keys of a set

is_same : (name key : List ℕ) → eq_by_cmp name_order name key ≡ true → name ≡ key
is_same name key h = (bytes_eq-Decides name key).0 (sym (same_test name key) ∙ h)

at_key : (key : List ℕ) → eq_by_cmp name_order key key ≡ true
at_key key = same_test key key ∙ (bytes_eq-Decides key key).1 refl

module _ (name : List ℕ) where
  held_case : (e : List ℕ × Bool) (es : List (List ℕ × Bool)) (b : Bool) → eq_by_cmp name_order name e.0 ≡ b
      → (is_some (look_up name_order es name) ≡ true → IsIn name (keys_of es))
      → is_some (cond b (Some e.1) (look_up name_order es name)) ≡ true → IsIn name (e.0 ∷ keys_of es)
  held_case e es true is later h = inl (is_same name e.0 is)
  held_case e es false is later h = inr (later h)

  -- a name that a set holds is one of its keys
  held_key : (es : List (List ℕ × Bool)) → holds es name ≡ true → IsIn name (keys_of es)
  held_key [] h = absurd (true≢false (sym h))
  held_key (e ∷ es) h = held_case e es (eq_by_cmp name_order name e.0) refl (held_key es) h

  first_case : (b : Bool) (x : Bool) (o : Option Bool) → b ≡ true → is_some (cond b (Some x) o) ≡ true
  first_case true x o h = refl
  first_case false x o h = absurd (true≢false (sym h))

  later_case : (b : Bool) (x : Bool) (o : Option Bool) → is_some o ≡ true → is_some (cond b (Some x) o) ≡ true
  later_case true x o h = refl
  later_case false x o h = h

  -- and the set holds each of its keys
  key_held : (es : List (List ℕ × Bool)) → IsIn name (keys_of es) → holds es name ≡ true
  key_held [] i = absurd i
  key_held (e ∷ es) (inl same) =
      first_case (eq_by_cmp name_order name e.0) e.1 (look_up name_order es name)
      (ap (eq_by_cmp name_order name) (sym same) ∙ at_key name)
  key_held (e ∷ es) (inr i) = later_case (eq_by_cmp name_order name e.0) e.1 (look_up name_order es name) (key_held es i)

-- ---- the names of namespaces

both : (a b : Bool) → a ≡ true → b ≡ true → (a && b) ≡ true
both true b h k = k
both false b h k = absurd (true≢false (sym h))

pub are_roots : (settings : Settings) (aux : WasmBindgenAux) (parents others : List (List ℕ × Bool)) (names : List (List ℕ))
    → AreNames parents (has_members (published_things settings aux))
    → AreNames others (λ name. list_any (λ r. bytes_eq r.0 name) aux.reexports)
    → IsStrictlySortedBy name_order (keys_of parents) → names ≡ filter (λ name. not (holds others name)) (keys_of parents)
    → AreRoots settings aux names
are_roots settings aux parents others names members reexported rises are = record {
  rises = subst (IsStrictlySortedBy name_order) (sym are) (IsStrictlySortedBy-filter name_order keeps (keys_of parents) rises);
  all = λ name. (
    λ i.
        let r = from_filter keeps name (keys_of parents) (subst (IsIn name) are i) in
        both (has_members (published_things settings aux) name) _ (sym (members name) ∙ key_held name parents r.0)
        (ap not (sym (reexported name)) ∙ r.1),
    λ h.
        let parts = and_parts (has_members (published_things settings aux) name) _ h in
        subst (IsIn name) (sym are) (in_filter keeps name (keys_of parents) (held_key name parents (members name ∙ parts.0))
        (ap not (reexported name) ∙ parts.1)),
  );
}
  where
    keeps : List ℕ → Bool
    keeps name = not (holds others name)
