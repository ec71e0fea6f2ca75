-- Where no entry clashes with an earlier one, no two of them clash.
use Rattle.std.proofs.Common.{◌≡◌, ℕ, List, [], ◌∷◌, Bool, true, false, cond, ◌||◌, ◌⊎◌, Option, Some, None, refl, sym, ap, ◌∙◌, inl, inr}
use Rattle.std.specs.List.{list_any}
use Rattle.values.specs.Lists.{IsIn}
use Rattle.glue_faults.specs.Clash.{first_clash_after, first_clash, AreCompatible, IsFirstClash}
use Rattle.glue_faults.proofs.First.{list_any-none}

passed_on : {A : Type 0} (b : Bool) (e : A) (later : Option A) → cond b (Some e) later ≡ None → (b ≡ false) × (later ≡ None)
passed_on true e later h = cc
passed_on false e later h = (refl, h)

none_after : {A : Type 0} (clash : A → A → Bool) (before entries : List A) → first_clash_after clash before entries ≡ None
    → (earlier : A) → IsIn earlier before → (later : A) → IsIn later entries → clash earlier later ≡ false
none_after clash before [] h earlier i later j = absurd j
none_after clash before (e ∷ entries) h earlier i later j =
    let p = passed_on (list_any (λ b. clash b e) before) e (first_clash_after clash (e ∷ before) entries) h in
    elim j [
      | inl is ↦ ap (clash earlier) is ∙ list_any-none (λ b. clash b e) before earlier p.0 i
      | inr on ↦ none_after clash (e ∷ before) entries p.1 earlier (inr i) later on
    ]

compatible_after : {A : Type 0} (clash : A → A → Bool) (before entries : List A) → first_clash_after clash before entries ≡ None → AreCompatible clash entries
compatible_after clash before [] h = tt
compatible_after clash before (e ∷ entries) h =
    let p = passed_on (list_any (λ b. clash b e) before) e (first_clash_after clash (e ∷ before) entries) h in
    (λ later i. none_after clash (e ∷ before) entries p.1 e (inl refl) later i, compatible_after clash (e ∷ before) entries p.1)

pub compatible : {A : Type 0} (clash : A → A → Bool) (entries : List A) → first_clash clash entries ≡ None → AreCompatible clash entries
compatible clash entries h = compatible_after clash [] entries h

-- ---- what is named

hit : {A : Type 0} (b : Bool) (x : A) (later : Option A) (e : A) → cond b (Some x) later ≡ Some e → ((b ≡ true) × (x ≡ e)) ⊎ ((b ≡ false) × (later ≡ Some e))
hit true x later e h = inl (refl, cc)
hit false x later e h = inr (refl, h)

or_move : (a b c : Bool) → (a || (b || c)) ≡ ((b || a) || c)
or_move true true c = refl
or_move true false c = refl
or_move false true c = refl
or_move false false c = refl

first_is : {A : Type 0} (clash : A → A → Bool) (before entries : List A) (e : A) → first_clash_after clash before entries ≡ Some e → IsFirstClash clash before entries e
first_is clash before [] e h = cc
first_is {A} clash before (x ∷ entries) e h =
    elim (hit (list_any (λ b. clash b x) before) x (first_clash_after clash (x ∷ before) entries) e h) [
      | inl p ↦ ([], entries, ap (λ y. y ∷ entries) p.1, ap (λ y. list_any (λ b. clash b y) before) (sym p.1) ∙ p.0, refl)
      | inr p ↦
          let r = first_is clash (x ∷ before) entries e p.1 in (
            x ∷ r.0,
            r.1,
            ap (λ ys. x ∷ ys) r.2,
            sym (or_move (list_any (λ b. clash b e) r.0) (clash x e) (list_any (λ b. clash b e) before)) ∙ r.3,
            ap (λ b. cond b (Some x) (first_clash_after clash (x ∷ before) r.0)) p.0 ∙ r.4,
          )
    ]

-- the entry that is named clashes with an earlier one, and no two before it clash
pub named_clash : {A : Type 0} (clash : A → A → Bool) (entries : List A) (e : A) → first_clash clash entries ≡ Some e → IsFirstClash clash [] entries e
named_clash clash entries e h = first_is clash [] entries e h
