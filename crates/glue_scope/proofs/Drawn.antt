-- Names that are drawn from a set of bound names.
use Rattle.std.proofs.Common.{◌≡◌, ℕ, suc, ◌<◌, List, ◌∷◌, [], ◌++◌, length, refl, sym, ap, ◌∙◌, subst, true, false, Bool, true≢false, arith, inl, inr, ◌⊎◌}
use Rattle.std.specs.Prelude.{◌||◌, ◌&&◌}
use Rattle.std.specs.Str.{IsUtf8}
use Rattle.std.specs.List.{list_all}
use Rattle.std.specs.Ordering.{nat_cmp, eq_by_cmp, is_eq}
use Rattle.std.specs.Cmp.{tied_itself}
use Rattle.std.specs.Cmp.Lexicographic.{slice_cmp, nat_list_cmp_total}
use Rattle.std.specs.FinSet as set
use Rattle.std.proofs.lemmas.Bool.{cases_lt}
use Rattle.values.specs.Lists.{IsIn, AreDistinct}
use Rattle.glue_words.specs.Ident.{is_ident, to_ident}
use Rattle.values.specs.TextSet.{TextSet, with_texts}
use Rattle.glue_scope.specs.Scope.{IsFirstFree, IsLeastFree, AreDrawn}
use Rattle.glue_words.specs.Ident.{numbered}
use Rattle.glue_words.proofs.Idents.{made_ident, made_text, numbered_ident, numbered_text}
use Rattle.glue_scope.proofs.Scopes.{same_text}

free_taken : (b : Bool) → b ≡ false → b ≡ true → ⊥
free_taken b h k = true≢false (sym k ∙ h)

-- ---- one name

least_above : (bound : TextSet) (name : List ℕ) (start m n : ℕ) → IsLeastFree bound name start m → IsLeastFree bound name start n → m < n → ⊥
least_above bound name start m n h k less = free_taken _ h.free (k.taken m h.above less)

-- the least free number is one alone
pub least_free_unique : (bound : TextSet) (name : List ℕ) (start m n : ℕ) → IsLeastFree bound name start m → IsLeastFree bound name start n → m ≡ n
least_free_unique bound name start m n h k = elim (cases_lt m n) [
  | inl less ↦ absurd (least_above bound name start m n h k less)
  | inr up ↦ elim (cases_lt n m) [
    | inl less ↦ absurd (least_above bound name start n m k h less)
    | inr down ↦ omega arith
  ]
]

-- the first free name is one alone
pub first_free_unique : (bound : TextSet) (name a b : List ℕ) → IsFirstFree bound name a → IsFirstFree bound name b → a ≡ b
first_free_unique bound name a b (inl h) (inl k) = h.1 ∙ sym k.1
first_free_unique bound name a b (inl h) (inr k) = absurd (free_taken _ h.0 k.0)
first_free_unique bound name a b (inr h) (inl k) = absurd (free_taken _ k.0 h.0)
first_free_unique bound name a b (inr h) (inr k) =
    h.1.1 ∙ ap (numbered name) (least_free_unique bound name 2 h.1.0 k.1.0 h.1.2 k.1.2) ∙ sym k.1.1

-- it is not bound before
pub first_free_new : (bound : TextSet) (name answer : List ℕ) → IsFirstFree bound name answer → set.contains bound answer ≡ false
first_free_new bound name answer (inl h) = ap (set.contains bound) h.1 ∙ h.0
first_free_new bound name answer (inr h) = ap (set.contains bound) h.1.1 ∙ h.1.2.free

-- the first free name of an identifier is an identifier
pub first_free_ident : (bound : TextSet) (name answer : List ℕ) → IsUtf8 name → is_ident name ≡ true → IsFirstFree bound name answer → is_ident answer ≡ true
first_free_ident bound name answer text h (inl k) = ap is_ident k.1 ∙ h
first_free_ident bound name answer text h (inr k) = ap is_ident k.1.1 ∙ numbered_ident name k.1.0 text h

-- and of a text a text
pub first_free_text : (bound : TextSet) (name answer : List ℕ) → IsUtf8 name → IsFirstFree bound name answer → IsUtf8 answer
first_free_text bound name answer text (inl k) = subst IsUtf8 (sym k.1) text
first_free_text bound name answer text (inr k) = subst IsUtf8 (sym k.1.1) (numbered_text name k.1.0 text)

-- a name that is generated is an identifier, whatever was wanted
pub generated_ident : (bound : TextSet) (wanted answer : List ℕ) → IsFirstFree bound (to_ident wanted) answer → is_ident answer ≡ true
generated_ident bound wanted answer h = first_free_ident bound (to_ident wanted) answer (made_text wanted) (made_ident wanted) h

-- ---- sets of names

or_true : (a b : Bool) → b ≡ true → (a || b) ≡ true
or_true true b h = refl
or_true false b h = h

-- a name that is inserted is there
pub inserted_there : (bound : TextSet) (name : List ℕ) → set.contains (set.insert bound name) name ≡ true
inserted_there bound name =
    set.contains-insert nat_list_cmp_total bound name name
    ∙ ap (λ b. b || set.contains bound name) (ap is_eq (tied_itself nat_list_cmp_total name))

-- a name that was there stays
pub inserted_keeps : (bound : TextSet) (name other : List ℕ) → set.contains bound other ≡ true → set.contains (set.insert bound name) other ≡ true
inserted_keeps bound name other h = set.contains-insert nat_list_cmp_total bound name other ∙ or_true _ _ h

or_cases : (a b : Bool) → (a || b) ≡ true → (a ≡ true) ⊎ (b ≡ true)
or_cases true b h = inl refl
or_cases false b h = inr h

-- what is there is the name that was inserted, or was there
pub inserted_cases : (bound : TextSet) (name other : List ℕ) → set.contains (set.insert bound name) other ≡ true → (other ≡ name) ⊎ (set.contains bound other ≡ true)
inserted_cases bound name other h =
    elim (or_cases (eq_by_cmp (slice_cmp nat_cmp) other name) (set.contains bound other) (sym (set.contains-insert nat_list_cmp_total bound name other) ∙ h)) [
      | inl same ↦ inl (same_text other name same)
      | inr there ↦ inr there
    ]

-- what is there is in the first set or one of the names
pub with_texts_cases : (bound : TextSet) (names : List (List ℕ)) (other : List ℕ) → set.contains (with_texts bound names) other ≡ true → (set.contains bound other ≡ true) ⊎ IsIn other names
with_texts_cases bound [] other h = inl h
with_texts_cases bound (name ∷ names) other h = elim (with_texts_cases (set.insert bound name) names other h) [
  | inl there ↦ elim (inserted_cases bound name other there) [ inl same ↦ inr (inl same) | inr before ↦ inl before ]
  | inr later ↦ inr (inr later)
]

-- what is in the first set stays
pub with_texts_keeps : (bound : TextSet) (names : List (List ℕ)) (other : List ℕ) → set.contains bound other ≡ true → set.contains (with_texts bound names) other ≡ true
with_texts_keeps bound [] other h = h
with_texts_keeps bound (name ∷ names) other h = with_texts_keeps (set.insert bound name) names other (inserted_keeps bound name other h)

-- each of the names is there
pub with_texts_there : (bound : TextSet) (names : List (List ℕ)) (other : List ℕ) → IsIn other names → set.contains (with_texts bound names) other ≡ true
with_texts_there bound [] other h = absurd h
with_texts_there bound (name ∷ names) other (inl same) =
    with_texts_keeps (set.insert bound name) names other (ap (set.contains (set.insert bound name)) same ∙ inserted_there bound name)
with_texts_there bound (name ∷ names) other (inr later) = with_texts_there (set.insert bound name) names other later

pub with_texts-append : (bound : TextSet) (xs ys : List (List ℕ)) → with_texts bound (xs ++ ys) ≡ with_texts (with_texts bound xs) ys
with_texts-append bound [] ys = refl
with_texts-append bound (x ∷ xs) ys = with_texts-append (set.insert bound x) xs ys

-- ---- drawn names

-- there are as many as were wanted
pub length-drawn : (bound : TextSet) (wanted names : List (List ℕ)) → AreDrawn bound wanted names → length names ≡ length wanted
length-drawn bound [] [] h = refl
length-drawn bound [] (name ∷ names) h = absurd h
length-drawn bound (w ∷ wanted) [] h = absurd h
length-drawn bound (w ∷ wanted) (name ∷ names) h = ap suc (length-drawn (set.insert bound name) wanted names h.1)

-- no drawn name is bound before
pub drawn_new : (bound : TextSet) (wanted names : List (List ℕ)) (other : List ℕ) → AreDrawn bound wanted names → IsIn other names → set.contains bound other ≡ true → ⊥
drawn_new bound [] [] other h at there = at
drawn_new bound [] (name ∷ names) other h at there = h
drawn_new bound (w ∷ wanted) [] other h at there = h
drawn_new bound (w ∷ wanted) (name ∷ names) other h (inl same) there =
    free_taken _ (first_free_new bound (to_ident w) name h.0) (ap (set.contains bound) (sym same) ∙ there)
drawn_new bound (w ∷ wanted) (name ∷ names) other h (inr later) there =
    drawn_new (set.insert bound name) wanted names other h.1 later (inserted_keeps bound name other there)

-- drawn names are distinct
pub drawn_distinct : (bound : TextSet) (wanted names : List (List ℕ)) → AreDrawn bound wanted names → AreDistinct names
drawn_distinct bound [] [] h = tt
drawn_distinct bound [] (name ∷ names) h = absurd h
drawn_distinct bound (w ∷ wanted) [] h = absurd h
drawn_distinct bound (w ∷ wanted) (name ∷ names) h = (
  λ at. drawn_new (set.insert bound name) wanted names name h.1 at (inserted_there bound name),
  drawn_distinct (set.insert bound name) wanted names h.1,
)

-- drawn names are identifiers
pub drawn_idents : (bound : TextSet) (wanted names : List (List ℕ)) → AreDrawn bound wanted names → list_all is_ident names ≡ true
drawn_idents bound [] [] h = refl
drawn_idents bound [] (name ∷ names) h = absurd h
drawn_idents bound (w ∷ wanted) [] h = absurd h
drawn_idents bound (w ∷ wanted) (name ∷ names) h =
    ap (λ b. b && list_all is_ident names) (generated_ident bound w name h.0) ∙ drawn_idents (set.insert bound name) wanted names h.1

-- they are one list alone
pub drawn_unique : (bound : TextSet) (wanted xs ys : List (List ℕ)) → AreDrawn bound wanted xs → AreDrawn bound wanted ys → xs ≡ ys
drawn_unique bound [] [] [] h k = refl
drawn_unique bound [] [] (y ∷ ys) h k = absurd k
drawn_unique bound [] (x ∷ xs) ys h k = absurd h
drawn_unique bound (w ∷ wanted) [] ys h k = absurd h
drawn_unique bound (w ∷ wanted) (x ∷ xs) [] h k = absurd k
drawn_unique bound (w ∷ wanted) (x ∷ xs) (y ∷ ys) h k =
    let same = first_free_unique bound (to_ident w) x y h.0 k.0 in
    let others : AreDrawn (set.insert bound x) wanted ys = subst (λ (z : List ℕ). AreDrawn (set.insert bound z) wanted ys) (sym same) k.1 in
    ap (λ (z : List ℕ). z ∷ xs) same ∙ ap (λ (zs : List (List ℕ)). y ∷ zs) (drawn_unique (set.insert bound x) wanted xs ys h.1 others)

-- names are drawn for joined lists one list after the other
pub drawn-append : (bound : TextSet) (ws vs xs ys : List (List ℕ)) → AreDrawn bound ws xs → AreDrawn (with_texts bound xs) vs ys → AreDrawn bound (ws ++ vs) (xs ++ ys)
drawn-append bound [] vs [] ys h k = k
drawn-append bound [] vs (x ∷ xs) ys h k = absurd h
drawn-append bound (w ∷ ws) vs [] ys h k = absurd h
drawn-append bound (w ∷ ws) vs (x ∷ xs) ys h k = (h.0, drawn-append (set.insert bound x) ws vs xs ys h.1 k)

-- and the other way round
pub drawn-split : (bound : TextSet) (ws vs names : List (List ℕ)) → AreDrawn bound (ws ++ vs) names → (xs : List (List ℕ)) × ((ys : List (List ℕ)) × (names ≡ xs ++ ys) × AreDrawn bound ws xs × AreDrawn (with_texts bound xs) vs ys)
drawn-split bound [] vs names h = ([], (names, refl, tt, h))
drawn-split bound (w ∷ ws) vs [] h = absurd h
drawn-split bound (w ∷ ws) vs (name ∷ names) h =
    let rest = drawn-split (set.insert bound name) ws vs names h.1 in
    (name ∷ rest.0, (rest.1.0, ap (λ (zs : List (List ℕ)). name ∷ zs) rest.1.1, (h.0, rest.1.2), rest.1.3))
