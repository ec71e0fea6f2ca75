-- What stands has a place, and what is kept is one set.
use Rattle.std.proofs.Common.{◌≡◌, ℕ, ◌+◌, ◌<◌, Bool, true, false, cond, List, [], ◌∷◌, map, length, Option, Some, None, refl, sym, ap, ◌∙◌, inl, inr}
use Rattle.std.specs.Prelude.{is_some}
use Rattle.std.proofs.lemmas.Option.{slice_get_past}
use Rattle.std.proofs.lemmas.Bool.{cases_lt, false≢true}
use Rattle.wasm_file.specs.declared.entries.ExportItem.{ExportItem}
use Rattle.wasm_reach.specs.declared.things.Thing.{Thing}
use Rattle.wasm_reach.specs.declared.things.Thing.TheVariants as things
use Rattle.wasm_reach.specs.Marks.{IsCounted}
use Rattle.wasm_reach.specs.Reach.{IsLeast}
use Rattle.wasm_core.specs.declared.types.Import.{Import}
use Rattle.wasm_core.specs.Contents.{Contents}
use Rattle.wasm_core.specs.Remainder.{kept_places, kept_import, import_thing, remainder}
use Rattle.wasm_collect.specs.Reach.{entry_of, entry_at, stands, IsCollected}
use Rattle.wasm_collect.specs.Edges.{sizes_of}

-- ---- what stands has a place

within_at : {A : Type 0} (xs : List (Option A)) (i : ℕ) → is_some (entry_at xs i) ≡ true → i < length xs
within_at xs i e = elim (cases_lt i (length xs)) [
  | inl lt ↦ lt
  | inr le ↦ absurd (false≢true (sym (ap (λ o. is_some (entry_of o)) (slice_get_past xs i le)) ∙ e))
]

pub counted : (m : Contents) (t : Thing) → stands m t ≡ true → IsCounted (sizes_of m) t
counted m (things.Type i) e = within_at m.types i e
counted m (things.Func i) e = within_at m.funcs i e
counted m (things.Table i) e = within_at m.tables i e
counted m (things.Memory i) e = within_at m.memories i e
counted m (things.Global i) e = within_at m.globals i e
counted m (things.Tag i) e = within_at m.tags i e
counted m (things.Elem i) e = within_at m.elems i e
counted m (things.Segment i) e = within_at m.segments i e

-- ---- one set, one module

same_bool : (a b : Bool) → (a ≡ true → b ≡ true) → (b ≡ true → a ≡ true) → a ≡ b
same_bool true b f g = sym (f refl)
same_bool false true f g = g refl
same_bool false false f g = refl

least_is_one : (r : Thing → List Thing) (roots : List Thing) (p q : Thing → Bool) → IsLeast r roots p → IsLeast r roots q → (t : Thing) → p t ≡ q t
least_is_one r roots p q a b t = same_bool (p t) (q t) (a.least q b.roots_in b.closed t) (b.least p a.roots_in a.closed t)

kept_same : {A : Type 0} (p q : ℕ → Bool) → ((i : ℕ) → p i ≡ q i) → (k : ℕ) (xs : List (Option A)) → kept_places p k xs ≡ kept_places q k xs
unfolding kept_places
kept_same p q is k [] = refl
kept_same p q is k (x ∷ xs) = ap (λ b. cond b x None ∷ kept_places p (k + 1) xs) (is k) ∙ ap (λ ys. cond (q k) x None ∷ ys) (kept_same p q is (k + 1) xs)

import_same : (p q : Thing → Bool) → ((t : Thing) → p t ≡ q t) → (x : Option Import) → kept_import p x ≡ kept_import q x
import_same p q is (Some i) = ap (λ b. cond b (Some i) None) (is (import_thing i.kind))
import_same p q is None = refl

imports_same : (p q : Thing → Bool) → ((t : Thing) → p t ≡ q t) → (xs : List (Option Import)) → map (kept_import p) xs ≡ map (kept_import q) xs
imports_same p q is [] = refl
imports_same p q is (x ∷ xs) = ap (λ y. y ∷ map (kept_import p) xs) (import_same p q is x) ∙ ap (λ ys. kept_import q x ∷ ys) (imports_same p q is xs)

remainder_same : (m : Contents) (p q : Thing → Bool) → ((t : Thing) → p t ≡ q t) → remainder p m ≡ remainder q m
unfolding remainder
remainder_same m p q is =
    rw (
      kept_same (λ i. p (things.Type i)) (λ i. q (things.Type i)) (λ i. is (things.Type i)) 0 m.types,
      kept_same (λ i. p (things.Func i)) (λ i. q (things.Func i)) (λ i. is (things.Func i)) 0 m.funcs,
      kept_same (λ i. p (things.Table i)) (λ i. q (things.Table i)) (λ i. is (things.Table i)) 0 m.tables,
      kept_same (λ i. p (things.Memory i)) (λ i. q (things.Memory i)) (λ i. is (things.Memory i)) 0 m.memories,
      kept_same (λ i. p (things.Global i)) (λ i. q (things.Global i)) (λ i. is (things.Global i)) 0 m.globals,
      kept_same (λ i. p (things.Tag i)) (λ i. q (things.Tag i)) (λ i. is (things.Tag i)) 0 m.tags,
      kept_same (λ i. p (things.Elem i)) (λ i. q (things.Elem i)) (λ i. is (things.Elem i)) 0 m.elems,
      kept_same (λ i. p (things.Segment i)) (λ i. q (things.Segment i)) (λ i. is (things.Segment i)) 0 m.segments,
      imports_same p q is m.imports,
    ) refl

pub collected_is_one : (m : Contents) (roots : List ExportItem) (a b : Contents) → IsCollected m roots a → IsCollected m roots b → a ≡ b
collected_is_one m roots a b x y = x.is_rest ∙ remainder_same m x.kept y.kept (least_is_one _ _ x.kept y.kept x.reached y.reached) ∙ sym y.is_rest
