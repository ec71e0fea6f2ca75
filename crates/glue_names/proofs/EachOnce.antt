-- What stands in a list where each comes once: names, and pairs.
use Rattle.std.proofs.Common.{◌≡◌, ℕ, ◌==◌, Bool, true, false, not, ◌&&◌, ◌||◌, cond, true≢false, List, [], ◌∷◌, refl, sym, ap, ◌∙◌, inl, inr}
use Rattle.std.specs.Prelude.{filter}
use Rattle.std.specs.Cmp.{tied_itself}
use Rattle.std.specs.Ordering.{is_eq}
use Rattle.std.proofs.lemmas.Bool.{eqb-true}
use Rattle.std.proofs.lemmas.Bool.Decides.{Decides-eqb}
use Rattle.values.specs.Lists.{IsIn, IsAway, AreDistinct}
use Rattle.wasm_core.specs.ids.ExportId.{ExportId}
use Rattle.glue_shared.specs.declared.import.JsImportName.{JsImportName}
use Rattle.glue_published.specs.Reexports.{is_same}
use Rattle.glue_exports.proofs.Joined.{filter_distinct, from_filter, in_filter}
use Rattle.printed_adapters.proofs.Choices.{both}
use Rattle.glue_names.specs.Once.{has_name, each_once, each_new, each_pair, is_same_pair, once_by}
use Rattle.glue_published.proofs.ImportOrder.{import_order_total, import_same}

module _ {A : Type 0} (same : A → A → Bool) where
  -- the test that keeps what isn't x
  abbrev other_than : A → A → Bool
  other_than x other = not (same other x)

  once_case : (a x : A) (xs : List A) (b : Bool) → same a x ≡ b → (same a x ≡ true → a ≡ x) → IsIn a xs → IsIn a (x ∷ filter (other_than x) xs)
  once_case a x xs true e is i = inl (is e)
  once_case a x xs false e is i = inr (in_filter (other_than x) a xs i (ap not e))

  -- each is there
  once_by_has : ((a x : A) → same a x ≡ true → a ≡ x) → (a : A) (xs : List A) → IsIn a xs → IsIn a (once_by same xs)
  once_by_has is a [] i = absurd i
  once_by_has is a (x ∷ xs) (inl here) = inl here
  once_by_has is a (x ∷ xs) (inr i) = once_case a x (once_by same xs) (same a x) refl (is a x) (once_by_has is a xs i)

  -- and no other
  once_by_from : (a : A) (xs : List A) → IsIn a (once_by same xs) → IsIn a xs
  once_by_from a [] i = absurd i
  once_by_from a (x ∷ xs) (inl here) = inl here
  once_by_from a (x ∷ xs) (inr i) = inr (once_by_from a xs (from_filter (other_than x) a (once_by same xs) i).0)

  -- and none stands twice
  once_by_distinct : ((x : A) → same x x ≡ true) → (xs : List A) → AreDistinct (once_by same xs)
  once_by_distinct itself [] = tt
  once_by_distinct itself (x ∷ xs) = (
    λ i. true≢false (sym (sym (ap not (itself x)) ∙ (from_filter (other_than x) x (once_by same xs) i).1)),
    filter_distinct (other_than x) (once_by same xs) (once_by_distinct itself xs),
  )

-- ---- names

-- each of the names is there
pub once_has : (n : JsImportName) (names : List JsImportName) → IsIn n names → IsIn n (each_once names)
once_has n names i = once_by_has is_same import_same n names i

-- and no other
pub once_from : (n : JsImportName) (names : List JsImportName) → IsIn n (each_once names) → IsIn n names
once_from n names i = once_by_from is_same n names i

-- and none stands twice
pub once_distinct : (names : List JsImportName) → AreDistinct (each_once names)
once_distinct names = once_by_distinct is_same (λ name. ap is_eq (tied_itself import_order_total name)) names

-- a name that is found is one of them
pub name_in : (n : JsImportName) (names : List JsImportName) → has_name n names ≡ true → IsIn n names
name_in n [] h = absurd (true≢false (sym h))
name_in n (name ∷ names) h = here (is_same n name) refl h (name_in n names)
  where
    here : (b : Bool) → is_same n name ≡ b → (b || has_name n names) ≡ true → (has_name n names ≡ true → IsIn n names) → IsIn n (name ∷ names)
    here true e h later = inl (import_same n name e)
    here false e h later = inr (later h)

-- each of the names that didn't come before is there
pub new_has : (n : JsImportName) (before names : List JsImportName) → IsIn n names → has_name n before ≡ false → IsIn n (each_new before names)
new_has n before names i e = in_filter (λ name. not (has_name name before)) n (each_once names) (once_has n names i) (ap not e)

-- ---- pairs

abbrev pair_of : ℕ → ℕ → ExportId × ℕ
pair_of export adapter = (record { 0 = export }, adapter)

pair_is : (a b : ExportId × ℕ) → is_same_pair a b ≡ true → a ≡ b
pair_is a b h =
    let same = both (a.0.0 == b.0.0) (a.1 == b.1) h in
    ap (λ (n : ℕ). pair_of n a.1) (eqb-true a.0.0 b.0.0 same.0) ∙ ap (pair_of b.0.0) (eqb-true a.1 b.1 same.1)

-- each of the pairs is there
pub pair_has : (pair : ExportId × ℕ) (pairs : List (ExportId × ℕ)) → IsIn pair pairs → IsIn pair (each_pair pairs)
pair_has pair pairs i = once_by_has is_same_pair pair_is pair pairs i

-- and no other
pub pair_from : (pair : ExportId × ℕ) (pairs : List (ExportId × ℕ)) → IsIn pair (each_pair pairs) → IsIn pair pairs
pair_from pair pairs i = once_by_from is_same_pair pair pairs i
