-- Names and pairs that come once.
use Rattle.std.proofs.Common.{◌≡◌, ℕ, ◌==◌, Bool, true, false, not, ◌&&◌, ◌||◌, cond, List, [], ◌∷◌, ◌++◌, refl, ap, sym, ◌∙◌, arith}
use Rattle.std.specs.Prelude.{filter, is_some, None, Some, Option}
use Rattle.std.specs.BTreeMap.{insert_entry}
use Rattle.std.specs.Cmp.{IsTotalOrder, nat_cmp_total, on_total, then_total}
use Rattle.std.specs.List.{list_any}
use Rattle.std.specs.Ordering.{eq_by_cmp, is_eq, nat_cmp, ordering_then}
use Rattle.std.specs.declared.cmp.Ordering.{Ordering}
use Rattle.std.specs.declared.cmp.Ordering.TheVariants.{Less, Equal, Greater}
use Rattle.std.proofs.lemmas.Bool.Decides.{nat_tests}
use Rattle.std.proofs.lemmas.List.Elements.{filter-append}
use Rattle.std.proofs.lemmas.List.Folds.{list_any-append}
use Rattle.values.specs.Map.{look_up}
use Rattle.values.proofs.Maps.{look_up_inserted}
use Rattle.wasm_core.specs.ids.ExportId.{ExportId}
use Rattle.glue_shared.specs.declared.import.JsImportName.{JsImportName}
use Rattle.glue_published.specs.Reexports.{import_order, is_same}
use Rattle.glue_names.specs.Once.{has_name, each_once, each_new, is_same_pair, once_by, number_pair_order}
use Rattle.glue_published.proofs.ImportOrder.{import_order_total}

-- what came before isn't added, whatever is left out
left : {A : Type 0} (p : A → Bool) (x : A) (same has : Bool) → p x ≡ not same → filter p (cond has [] (x ∷ [])) ≡ cond (same || has) [] (x ∷ [])
left p x true true e = refl
left p x false true e = refl
left p x true false e = ap (λ b. cond b (x ∷ []) []) e
left p x false false e = ap (λ b. cond b (x ∷ []) []) e

pub once_push : {A : Type 0} (same : A → A → Bool) (xs : List A) (x : A) → once_by same (xs ++ x ∷ []) ≡ once_by same xs ++ cond (list_any (same x) xs) [] (x ∷ [])
once_push same [] x = refl
once_push {A} same (y ∷ xs) x =
    let other : A → Bool = λ z. not (same z y) in
    ap (λ (zs : List A). y ∷ filter other zs) (once_push same xs x)
    ∙ ap (λ (zs : List A). y ∷ zs) (filter-append other (once_by same xs) (cond (list_any (same x) xs) [] (x ∷ [])))
    ∙ ap (λ (zs : List A). y ∷ (filter other (once_by same xs) ++ zs)) (left other x (same x y) (list_any (same x) xs) refl)

pub once-push : (xs : List JsImportName) (x : JsImportName) → each_once (xs ++ x ∷ []) ≡ each_once xs ++ cond (has_name x xs) [] (x ∷ [])
once-push xs x = once_push is_same xs x

-- what was seen, with one more
some_either : {A : Type 0} (b : Bool) (x : A) (o : Option A) → is_some (cond b (Some x) o) ≡ (is_some o || b)
some_either true x None = refl
some_either true x (Some y) = refl
some_either false x None = refl
some_either false x (Some y) = refl

or_none : (b : Bool) → (b || false) ≡ b
or_none true = refl
or_none false = refl

seen_more : {A K X : Type 0} (order : K → K → Ordering) → IsTotalOrder order → (key : A → K) (same : A → A → Bool)
    → ((a b : A) → eq_by_cmp order (key a) (key b) ≡ same a b) → (es : List (K × X)) (v : X) (xs : List A) (x : A)
    → ((q : A) → is_some (look_up order es (key q)) ≡ list_any (same q) xs)
    → (q : A) → is_some (look_up order (insert_entry order es (key x) v) (key q)) ≡ list_any (same q) (xs ++ x ∷ [])
seen_more order total key same is es v xs x h q =
    ap is_some (look_up_inserted order total es (key x) v (key q))
    ∙ some_either (eq_by_cmp order (key q) (key x)) v (look_up order es (key q))
    ∙ ap (λ b. is_some (look_up order es (key q)) || b) (is q x)
    ∙ ap (λ b. b || same q x) (h q)
    ∙ ap (λ b. list_any (same q) xs || b) (sym (or_none (same q x)))
    ∙ sym (list_any-append (same q) xs (x ∷ []))

pub seen-push : {X : Type 0} (es : List (JsImportName × X)) (v : X) (xs : List JsImportName) (x : JsImportName)
    → ((q : JsImportName) → is_some (look_up import_order es q) ≡ has_name q xs)
    → (q : JsImportName) → is_some (look_up import_order (insert_entry import_order es x v) q) ≡ has_name q (xs ++ x ∷ [])
seen-push es v xs x h q = seen_more import_order import_order_total (λ name. name) is_same (λ a b. refl) es v xs x h q

-- ---- pairs

pair_order_total : IsTotalOrder number_pair_order
pair_order_total = then_total (on_total (λ (p : ℕ × ℕ). p.0) nat_cmp_total) (on_total (λ (p : ℕ × ℕ). p.1) nat_cmp_total)

same_number : (a b : ℕ) → eq_by_cmp nat_cmp a b ≡ (a == b)
same_number a b = grind (arith, nat_tests)

both_equal : (a b : Ordering) → is_eq (ordering_then a b) ≡ (is_eq a && is_eq b)
both_equal Less b = refl
both_equal Equal b = refl
both_equal Greater b = refl

same_pair : (a b : ExportId × ℕ) → eq_by_cmp number_pair_order (a.0.0, a.1) (b.0.0, b.1) ≡ is_same_pair a b
same_pair a b =
    both_equal (nat_cmp a.0.0 b.0.0) (nat_cmp a.1 b.1)
    ∙ ap (λ (t : Bool). t && is_eq (nat_cmp a.1 b.1)) (same_number a.0.0 b.0.0)
    ∙ ap (λ (t : Bool). a.0.0 == b.0.0 && t) (same_number a.1 b.1)

pub pair_seen : {X : Type 0} (es : List ((ℕ × ℕ) × X)) (v : X) (xs : List (ExportId × ℕ)) (x : ExportId × ℕ)
    → ((q : ExportId × ℕ) → is_some (look_up number_pair_order es (q.0.0, q.1)) ≡ list_any (is_same_pair q) xs)
    → (q : ExportId × ℕ) → is_some (look_up number_pair_order (insert_entry number_pair_order es (x.0.0, x.1) v) (q.0.0, q.1)) ≡ list_any (is_same_pair q) (xs ++ x ∷ [])
pair_seen es v xs x h q = seen_more number_pair_order pair_order_total (λ (pair : ExportId × ℕ). (pair.0.0, pair.1)) is_same_pair same_pair es v xs x h q

-- ---- names that haven't come before

-- of names that haven't come before, with one more
pub new-push : (before xs : List JsImportName) (x : JsImportName)
    → each_new before (xs ++ x ∷ []) ≡ each_new before xs ++ cond (has_name x (before ++ xs)) [] (x ∷ [])
new-push before xs x =
    let new : JsImportName → Bool = λ name. not (has_name name before) in
    ap (filter new) (once-push xs x)
    ∙ filter-append new (each_once xs) (cond (has_name x xs) [] (x ∷ []))
    ∙ ap (λ (zs : List JsImportName). each_new before xs ++ zs) (left new x (has_name x before) (has_name x xs) refl)
    ∙ ap (λ b. each_new before xs ++ cond b [] (x ∷ [])) (sym (list_any-append (is_same x) before xs))
