-- A name has one binder, and a key one helper; keys that are printed are read.
use Rattle.std.proofs.Common.{◌≡◌, ◌≢◌, ℕ, ◌+◌, ◌-◌, ◌*◌, ◌/◌, ◌%◌, ◌<◌, ◌≤◌, ◌^◌, Bool, true, false, true≢false, List, [], ◌∷◌, length, refl, sym}
use Rattle.std.proofs.Common.{ap, subst, ◌∙◌, cond, arith, inl, inr, zero, suc}
use Rattle.std.specs.Prelude.{nat_eq, nat_lt, not, ◌||◌, ◌&&◌, Option, Some, None, slice_index_or}
use Rattle.std.specs.List.{list_any, list_all}
use Rattle.std.specs.Cmp.Lexicographic.{pointwise}
use Rattle.std.proofs.lemmas.Bool.{and_parts, ltb-true, lt-ltb, ltb-false, le-ltb, cases_lt}
use Rattle.std.proofs.Math.Nat.{div-add-mod, mod-lt}
use Rattle.std.proofs.lemmas.Nat.{div-mul-add, mod-mul-add}
use Rattle.values.specs.Lists.{IsIn, IsAway, AreDistinct}
use Rattle.glue_words.specs.Names.{bound_in}
use Rattle.helper_table.specs.declared.parts.HelperParts.{HelperParts}
use Rattle.helper_table.specs.declared.kinds.TheConstants.{SINGLES, SINGLE_BINDS, DECODER, FAMILIES, FAMILY_BINDS}
use Rattle.helper_table.specs.Names.{printed, is_stem, single_keys, single_names, family_names, single_owner, family_owner}
use Rattle.helper_table.specs.Made.{helper_item, is_there, helper_words, helper_key, count}
use Rattle.helper_table.specs.Prints.{printed_apart, text_same, text_self}
use Rattle.helper_table.specs.Told.{IsBound, told}
use Rattle.helper_table.specs.Closed.{first_such, binds_name, binder, has_key, keyed, IsNode, IsBinder, IsKeyed}
use Rattle.helper_table.specs.Names.{single_key_at, single_name, family_stem_at, family_name, IsNoText, IsUnplaced}
use Rattle.helper_table.specs.Made.{family_of, place_of}

-- ---- lists of texts

none_of : List ℕ → List (List ℕ) → Bool
none_of x ys = list_all (λ y. not (pointwise nat_eq x y)) ys

is_distinct : List (List ℕ) → Bool
is_distinct [] = true
is_distinct (x ∷ xs) = none_of x xs && is_distinct xs

not_is : (b : Bool) → not b ≡ true → b ≡ true → ⊥
not_is true h e = true≢false (sym h)
not_is false h e = true≢false (sym e)

away_from : (x : List ℕ) (ys : List (List ℕ)) → none_of x ys ≡ true → IsAway x ys
unfolding none_of
away_from x [] h at = at
away_from x (y ∷ ys) h (inl same) =
    not_is (pointwise nat_eq x y) (and_parts (not (pointwise nat_eq x y)) (none_of x ys) h).0
    (ap (λ (z : List ℕ). pointwise nat_eq x z) (sym same) ∙ text_self x)
away_from x (y ∷ ys) h (inr at) = away_from x ys (and_parts (not (pointwise nat_eq x y)) (none_of x ys) h).1 at

distinct_from : (xs : List (List ℕ)) → is_distinct xs ≡ true → AreDistinct xs
unfolding is_distinct
distinct_from [] h = tt
distinct_from (x ∷ xs) h = let p = and_parts (none_of x xs) (is_distinct xs) h in (away_from x xs p.0, distinct_from xs p.1)

pub text_in : (xs : List (List ℕ)) (i : ℕ) → i < length xs → IsIn (slice_index_or xs i []) xs
text_in [] i lt = absurd (omega (arith, lt))
text_in (x ∷ xs) zero lt = inl refl
text_in (x ∷ xs) (suc i) lt = inr (text_in xs i (omega (arith, lt)))

-- a text stands at one place
one_place : (xs : List (List ℕ)) (i j : ℕ) → AreDistinct xs → i < length xs → j < length xs → slice_index_or xs i [] ≡ slice_index_or xs j [] → i ≡ j
one_place [] i j d lt lu e = absurd (omega (arith, lt))
one_place (x ∷ xs) zero zero d lt lu e = refl
one_place (x ∷ xs) zero (suc j) d lt lu e = absurd (d.0 (subst (λ (y : List ℕ). IsIn y xs) (sym e) (text_in xs j (omega (arith, lu)))))
one_place (x ∷ xs) (suc i) zero d lt lu e = absurd (d.0 (subst (λ (y : List ℕ). IsIn y xs) e (text_in xs i (omega (arith, lt)))))
one_place (x ∷ xs) (suc i) (suc j) d lt lu e = ap suc (one_place xs i j d.1 (omega (arith, lt)) (omega (arith, lu)) e)

stem_case : (x : List ℕ) (xs : List (List ℕ)) → list_all is_stem xs ≡ true → IsIn x xs → is_stem x ≡ true
stem_case x [] h at = absurd at
stem_case x (y ∷ xs) h (inl same) = ap is_stem same ∙ (and_parts (is_stem y) (list_all is_stem xs) h).0
stem_case x (y ∷ xs) h (inr at) = stem_case x xs (and_parts (is_stem y) (list_all is_stem xs) h).1 at

-- the lists pass the tests, which compute
single_names_distinct : AreDistinct single_names
unfolding is_distinct none_of
single_names_distinct = distinct_from single_names refl

family_names_distinct : AreDistinct family_names
unfolding is_distinct none_of
family_names_distinct = distinct_from family_names refl

single_keys_distinct : AreDistinct single_keys
unfolding is_distinct none_of
single_keys_distinct = distinct_from single_keys refl

single_stem : (p : ℕ) → p < SINGLE_BINDS → is_stem (single_name p) ≡ true
single_stem p lt = stem_case (single_name p) single_names refl (text_in single_names p lt)

family_stem : (p : ℕ) → p < FAMILY_BINDS → is_stem (family_stem_at p) ≡ true
family_stem p lt = stem_case (family_stem_at p) family_names refl (text_in family_names p lt)

key_stem : (i : ℕ) → i < SINGLES → is_stem (single_key_at i) ≡ true
key_stem i lt = stem_case (single_key_at i) single_keys refl (text_in single_keys i lt)

-- ---- one binder

some_is : (m n : ℕ) → Some m ≡ Some n → m ≡ n
some_is m n e = ap (λ (o : Option ℕ). elim o [ Some k ↦ k | None ↦ 0 ]) e

none_some : (n : ℕ) → None ≡ Some n → ⊥
none_some n e = cc

small : (i : ℕ) → IsNode i → place_of i < 2 ^ 64
small i near = omega (arith, near, div-add-mod (i - SINGLES) FAMILIES)

rejoined : (i j : ℕ) → SINGLES ≤ i → SINGLES ≤ j → place_of i ≡ place_of j → family_of i ≡ family_of j → i ≡ j
rejoined i j a b e f = omega (arith, a, b, e, f, div-add-mod (i - SINGLES) FAMILIES, div-add-mod (j - SINGLES) FAMILIES)

-- a name without a place is none with one
apart : (p q n : ℕ) → p < SINGLE_BINDS → q < FAMILY_BINDS → n < 2 ^ 64
    → single_name p ≡ family_name q n → ⊥
apart p q n lt lu fits e = none_some n (printed_apart (single_name p) (family_stem_at q) None (Some n) (single_stem p lt) (family_stem q lu) tt fits e).1

-- a name with a place has one stem and one place
same_family : (p q m n : ℕ) → p < FAMILY_BINDS → q < FAMILY_BINDS → m < 2 ^ 64 → n < 2 ^ 64
    → family_name p m ≡ family_name q n → (p ≡ q) × (m ≡ n)
same_family p q m n lt lu fits fitting e =
    let r = printed_apart (family_stem_at p) (family_stem_at q) (Some m) (Some n) (family_stem p lt) (family_stem q lu) fits fitting e in
    (one_place family_names p q family_names_distinct lt lu r.0, some_is m n r.1)

once_by : (b c : Bool) (i j : ℕ) (name : List ℕ) → nat_lt i SINGLES ≡ b → nat_lt j SINGLES ≡ c → IsNode i → IsNode j → IsBound b i name
    → IsBound c j name → i ≡ j
once_by true true i j name e f ni nj h k =
    let same = one_place single_names h.0 k.0 single_names_distinct h.1.0 k.1.0 (sym h.1.2 ∙ k.1.2) in
    sym h.1.1 ∙ ap single_owner same ∙ k.1.1
once_by true false i j name e f ni nj h k = absurd (apart h.0 k.0 (place_of j) h.1.0 k.1.0 (small j nj) (sym h.1.2 ∙ k.1.2))
once_by false true i j name e f ni nj h k = absurd (apart k.0 h.0 (place_of i) k.1.0 h.1.0 (small i ni) (sym k.1.2 ∙ h.1.2))
once_by false false i j name e f ni nj h k =
    let r = same_family h.0 k.0 (place_of i) (place_of j) h.1.0 k.1.0 (small i ni) (small j nj) (sym h.1.2 ∙ k.1.2) in
    rejoined i j (ltb-false i SINGLES e) (ltb-false j SINGLES f) r.1 (sym h.1.1 ∙ ap family_owner r.0 ∙ k.1.1)

-- a name has one binder, for all parts
pub once : (name : List ℕ) (parts others : HelperParts) (i j : ℕ) → IsNode i → IsNode j → IsIn name (bound_in (helper_words parts i))
    → IsIn name (bound_in (helper_words others j)) → i ≡ j
once name parts others i j ni nj h k = once_by (nat_lt i SINGLES) (nat_lt j SINGLES) i j name refl refl ni nj (told parts i name h) (told others j name k)

-- ---- one key

abbrev key_by : Bool → ℕ → List ℕ
key_by b i = cond b (single_key_at i) (family_name (family_of i) (place_of i))

own_place : (i : ℕ) → family_of i < FAMILY_BINDS
own_place i = omega (arith, mod-lt (i - SINGLES) {m = FAMILIES} (omega arith))

key_apart : (i q n : ℕ) → i < SINGLES → q < FAMILY_BINDS → n < 2 ^ 64
    → single_key_at i ≡ family_name q n → ⊥
key_apart i q n lt lu fits e = none_some n (printed_apart (single_key_at i) (family_stem_at q) None (Some n) (key_stem i lt) (family_stem q lu) tt fits e).1

key_once_by : (b c : Bool) (i j : ℕ) → nat_lt i SINGLES ≡ b → nat_lt j SINGLES ≡ c → IsNode i → IsNode j → key_by b i ≡ key_by c j → i ≡ j
key_once_by true true i j e f ni nj same = one_place single_keys i j single_keys_distinct (ltb-true i SINGLES e) (ltb-true j SINGLES f) same
key_once_by true false i j e f ni nj same = absurd (key_apart i (family_of j) (place_of j) (ltb-true i SINGLES e) (own_place j) (small j nj) same)
key_once_by false true i j e f ni nj same = absurd (key_apart j (family_of i) (place_of i) (ltb-true j SINGLES f) (own_place i) (small i ni) (sym same))
key_once_by false false i j e f ni nj same =
    let r = same_family (family_of i) (family_of j) (place_of i) (place_of j) (own_place i) (own_place j) (small i ni) (small j nj) same in
    rejoined i j (ltb-false i SINGLES e) (ltb-false j SINGLES f) r.1 r.0

-- a key has one helper
pub key_once : (i j : ℕ) → IsNode i → IsNode j → helper_key i ≡ helper_key j → i ≡ j
unfolding helper_key
key_once i j ni nj e = key_once_by (nat_lt i SINGLES) (nat_lt j SINGLES) i j refl refl ni nj e

-- ---- the first that passes a test

module _ (test : ℕ → Bool) where
  some_case : (i j more : ℕ) (b : Bool) → test i ≡ b → cond b (Some i) (first_such test (i + 1) more) ≡ Some j
      → (first_such test (i + 1) more ≡ Some j → (i + 1 ≤ j) × (j < (i + 1) + more) × (test j ≡ true)) → (i ≤ j) × (j < i + suc more) × (test j ≡ true)
  some_case i j more true e h rest =
      let same : i ≡ j = some_is i j h in
      (omega (arith, same), omega (arith, same), ap test (sym same) ∙ e)
  some_case i j more false e h rest = let r = rest h in (omega (arith, r.0), omega (arith, r.1), r.2)

  first_some : (i more j : ℕ) → first_such test i more ≡ Some j → (i ≤ j) × (j < i + more) × (test j ≡ true)
  first_some i zero j e = absurd (none_some j e)
  first_some i (suc more) j e = some_case i j more (test i) refl e (first_some (i + 1) more j)

  none_case : (i j more : ℕ) (b : Bool) → test i ≡ b → cond b (Some i) (first_such test (i + 1) more) ≡ None → i ≤ j → j < i + suc more
      → (first_such test (i + 1) more ≡ None → i + 1 ≤ j → test j ≡ false) → test j ≡ false
  none_case i j more true e h le lt rest = absurd (none_some i (sym h))
  none_case i j more false e h le lt rest = elim (cases_lt i j) [
    | inl below ↦ rest h (omega (arith, below))
    | inr up ↦ let same : j ≡ i = omega (arith, up, le) in ap test same ∙ e
  ]

  first_none : (i more j : ℕ) → first_such test i more ≡ None → i ≤ j → j < i + more → test j ≡ false
  first_none i zero j e le lt = absurd (omega (arith, le, lt))
  first_none i (suc more) j e le lt = none_case i j more (test i) refl e le lt (λ h above. first_none (i + 1) more j h above (omega (arith, lt)))

  only_case : (total i : ℕ) (o : Option ℕ) → first_such test 0 total ≡ o → i < total → test i ≡ true → ((j : ℕ) → j < total → test j ≡ true → j ≡ i)
      → o ≡ Some i
  only_case total i None e lt h only = absurd (true≢false (sym h ∙ first_none 0 total i e (omega arith) (omega (arith, lt))))
  only_case total i (Some j) e lt h only = let f = first_some 0 total j e in ap (λ (k : ℕ). Some k) (only j (omega (arith, f.1)) f.2)

  -- the only one is the first
  first_only : (total i : ℕ) → i < total → test i ≡ true → ((j : ℕ) → j < total → test j ≡ true → j ≡ i) → first_such test 0 total ≡ Some i
  first_only total i lt h only = only_case total i (first_such test 0 total) refl lt h only

  never_case : (total : ℕ) (o : Option ℕ) → first_such test 0 total ≡ o → ((j : ℕ) → j < total → test j ≡ true → ⊥) → o ≡ None
  never_case total None e never = refl
  never_case total (Some j) e never = let f = first_some 0 total j e in absurd (never j (omega (arith, f.1)) f.2)

  first_never : (total : ℕ) → ((j : ℕ) → j < total → test j ≡ true → ⊥) → first_such test 0 total ≡ None
  first_never total never = never_case total (first_such test 0 total) refl never

-- ---- who binds a name

any_case : (name n : List ℕ) (names : List (List ℕ)) (b : Bool) → pointwise nat_eq name n ≡ b → (b || list_any (pointwise nat_eq name) names) ≡ true
    → (list_any (pointwise nat_eq name) names ≡ true → IsIn name names) → IsIn name (n ∷ names)
any_case name n names true e h rest = inl (text_same name n e)
any_case name n names false e h rest = inr (rest h)

pub any_in : (name : List ℕ) (names : List (List ℕ)) → list_any (pointwise nat_eq name) names ≡ true → IsIn name names
any_in name [] h = absurd (true≢false (sym h))
any_in name (n ∷ names) h = any_case name n names (pointwise nat_eq name n) refl h (any_in name names)

or_left : (a b : Bool) → a ≡ true → (a || b) ≡ true
or_left true b h = refl
or_left false b h = absurd (true≢false (sym h))

or_right : (a b : Bool) → b ≡ true → (a || b) ≡ true
or_right true b h = refl
or_right false b h = h

pub in_any : (name : List ℕ) (names : List (List ℕ)) → IsIn name names → list_any (pointwise nat_eq name) names ≡ true
in_any name [] h = absurd h
in_any name (n ∷ names) (inl same) =
    or_left (pointwise nat_eq name n) (list_any (pointwise nat_eq name) names)
    (ap (λ (x : List ℕ). pointwise nat_eq name x) (sym same) ∙ text_self name)
in_any name (n ∷ names) (inr h) = or_right (pointwise nat_eq name n) (list_any (pointwise nat_eq name) names) (in_any name names h)

pub near : (parts : HelperParts) (i : ℕ) → i < count parts → IsNode i
near parts i lt = omega (arith, lt)

-- a helper that is found by a name binds it
pub binds_law : (parts : HelperParts) (name : List ℕ) (i : ℕ) → binder parts name ≡ Some i → (i < count parts) × IsIn name (bound_in (helper_words parts i))
binds_law parts name i e =
    let f = first_some (λ j. binds_name name (helper_words parts j)) 0 (count parts) i e in
    (omega (arith, f.1), any_in name (bound_in (helper_words parts i)) f.2)

-- a helper that binds a name is found by it
pub finds_law : (parts : HelperParts) (name : List ℕ) (i : ℕ) → i < count parts → IsIn name (bound_in (helper_words parts i)) → binder parts name ≡ Some i
finds_law parts name i lt h =
    first_only (λ j. binds_name name (helper_words parts j)) (count parts) i lt (in_any name (bound_in (helper_words parts i)) h)
    (λ j lu k. once name parts parts j i (near parts j lu) (near parts i lt) (any_in name (bound_in (helper_words parts j)) k) h)

pub apart_law : (parts : HelperParts) (i j : ℕ) → i < count parts → j < count parts → helper_key i ≡ helper_key j → i ≡ j
apart_law parts i j lt lu e = key_once i j (near parts i lt) (near parts j lu) e

-- no helper binds a name
pub unbound : (parts : HelperParts) (name : List ℕ) → ((i : ℕ) → i < count parts → IsAway name (bound_in (helper_words parts i))) → binder parts name ≡ None
unbound parts name away =
    first_never (λ j. binds_name name (helper_words parts j)) (count parts) (λ j lt h. away j lt (any_in name (bound_in (helper_words parts j)) h))

-- ---- who has a key

-- a key that is read is the helper's: printing what is read gives it again
pub read_printed : (parts : HelperParts) (key : List ℕ) (i : ℕ) → keyed parts key ≡ Some i
    → (i < count parts) × (is_there (helper_item parts i) ≡ true) × (helper_key i ≡ key)
read_printed parts key i e =
    let f = first_some (has_key parts key) 0 (count parts) i e in
    let p = and_parts (is_there (helper_item parts i)) (pointwise nat_eq (helper_key i) key) f.2 in
    (omega (arith, f.1), p.0, text_same (helper_key i) key p.1)

both : (a b : Bool) → a ≡ true → b ≡ true → (a && b) ≡ true
both true b h k = k
both false b h k = absurd (true≢false (sym h))

-- and a key that is printed is read as that helper, where it is there
pub printed_read : (parts : HelperParts) (i : ℕ) → i < count parts → is_there (helper_item parts i) ≡ true → keyed parts (helper_key i) ≡ Some i
printed_read parts i lt there =
    first_only (has_key parts (helper_key i)) (count parts) i lt
    (both (is_there (helper_item parts i)) (pointwise nat_eq (helper_key i) (helper_key i)) there (text_self (helper_key i)))
    (λ j lu k. key_once j i (near parts j lu) (near parts i lt)
    (text_same (helper_key j) (helper_key i) (and_parts (is_there (helper_item parts j)) (pointwise nat_eq (helper_key j) (helper_key i)) k).1))

-- no helper that is there has the key
pub unkeyed : (parts : HelperParts) (key : List ℕ) → ((i : ℕ) → i < count parts → is_there (helper_item parts i) ≡ true → helper_key i ≢ key)
    → keyed parts key ≡ None
unkeyed parts key away = first_never (has_key parts key) (count parts) (λ j lt h.
    let p = and_parts (is_there (helper_item parts j)) (pointwise nat_eq (helper_key j) key) h in
    away j lt p.0 (text_same (helper_key j) key p.1))

-- ---- what the reading of names finds

-- the name is none of those without a place
abbrev pub IsSingleAway : List ℕ → Type 0
IsSingleAway name = IsNoText SINGLE_BINDS single_names name

pub place_small : (i : ℕ) → IsNode i → place_of i < 2 ^ 32
place_small i near = omega (arith, near, div-add-mod (i - SINGLES) FAMILIES)

none_by : (b : Bool) (name : List ℕ) (i : ℕ) → IsSingleAway name → IsUnplaced name → IsNode i → IsBound b i name → ⊥
none_by true name i singles families near h = singles h.0 h.1.0 h.1.2
none_by false name i singles families near h = families h.0 (place_of i) h.1.0 (place_small i near) h.1.2

-- a name that stands in no list has no binder
pub no_binder : (name : List ℕ) → IsSingleAway name → IsUnplaced name → IsBinder name None
no_binder name singles families parts i near h = none_by (nat_lt i SINGLES) name i singles families near (told parts i name h)

single_by : (c : Bool) (name : List ℕ) (p j : ℕ) → p < SINGLE_BINDS → name ≡ single_name p → nat_lt j SINGLES ≡ c → IsNode j
    → IsBound c j name → j ≡ single_owner p
single_by true name p j lt is e near h = sym h.1.1 ∙ ap single_owner (one_place single_names h.0 p single_names_distinct h.1.0 lt (sym h.1.2 ∙ is))
single_by false name p j lt is e near h = absurd (apart p h.0 (place_of j) lt h.1.0 (small j near) (sym is ∙ h.1.2))

owner_case : (b : Bool) (p : ℕ) → nat_lt p SINGLES ≡ b → IsNode (cond b p DECODER)
owner_case true p e = omega (arith, ltb-true p SINGLES e)
owner_case false p e = omega arith

-- one that stands among those without a place
pub single_binder : (name : List ℕ) (p : ℕ) → p < SINGLE_BINDS → name ≡ single_name p → IsBinder name (Some (single_owner p))
single_binder name p lt is =
    (owner_case (nat_lt p SINGLES) p refl, λ parts j near h. single_by (nat_lt j SINGLES) name p j lt is refl near (told parts j name h))

pub owner_below : (b : Bool) (p : ℕ) → nat_lt p FAMILIES ≡ b → p < FAMILY_BINDS → cond b p (p - FAMILIES) < FAMILIES
owner_below true p e lt = ltb-true p FAMILIES e
owner_below false p e lt = omega (arith, lt, ltb-false p FAMILIES e)

-- the number of a helper with a place
abbrev pub node_at : ℕ → ℕ → ℕ
node_at q n = SINGLES + FAMILIES * n + q

pub node_family : (q n : ℕ) → q < FAMILIES → family_of (node_at q n) ≡ q
node_family q n lt = let at : node_at q n - SINGLES ≡ n * FAMILIES + q = omega arith in ap (λ (m : ℕ). m % FAMILIES) at ∙ mod-mul-add n FAMILIES q lt

pub node_place : (q n : ℕ) → q < FAMILIES → place_of (node_at q n) ≡ n
node_place q n lt = let at : node_at q n - SINGLES ≡ n * FAMILIES + q = omega arith in ap (λ (m : ℕ). m / FAMILIES) at ∙ div-mul-add n FAMILIES q lt

family_by : (c : Bool) (name : List ℕ) (p n j : ℕ) → p < FAMILY_BINDS → n < 2 ^ 32 → name ≡ family_name p n
    → nat_lt j SINGLES ≡ c → IsNode j → IsBound c j name → family_owner p < FAMILIES → j ≡ node_at (family_owner p) n
family_by true name p n j lt fits is e near h below = absurd (apart h.0 p n h.1.0 lt (omega (arith, fits)) (sym h.1.2 ∙ is))
family_by false name p n j lt fits is e near h below =
    let r = same_family h.0 p (place_of j) n h.1.0 lt (small j near) (omega (arith, fits)) (sym h.1.2 ∙ is) in
    rejoined j (node_at (family_owner p) n) (ltb-false j SINGLES e) (omega arith) (r.1 ∙ sym (node_place (family_owner p) n below))
    (sym h.1.1 ∙ ap family_owner r.0 ∙ sym (node_family (family_owner p) n below))

-- one that stands among those with a place
pub family_binder : (name : List ℕ) (p n : ℕ) → p < FAMILY_BINDS → n < 2 ^ 32 → name ≡ family_name p n
    → IsBinder name (Some (node_at (family_owner p) n))
family_binder name p n lt fits is =
    let below = owner_below (nat_lt p FAMILIES) p refl lt in
    (omega (arith, below, fits), λ parts j near h. family_by (nat_lt j SINGLES) name p n j lt fits is refl near (told parts j name h) below)

-- ---- what the reading of keys finds

-- a key without a place
pub single_key : (i : ℕ) → i < SINGLES → helper_key i ≡ single_key_at i
unfolding helper_key
single_key i lt = ap (λ b. key_by b i) (lt-ltb i SINGLES lt)

pub placed_key : (i : ℕ) → SINGLES ≤ i → helper_key i ≡ family_name (family_of i) (place_of i)
unfolding helper_key
placed_key i le = ap (λ b. key_by b i) (le-ltb i SINGLES le)

pub keyed_single : (key : List ℕ) (i : ℕ) → i < SINGLES → key ≡ single_key_at i → IsKeyed key (Some i)
keyed_single key i lt is = (omega (arith, lt), single_key i lt ∙ sym is)

pub keyed_family : (key : List ℕ) (q n : ℕ) → q < FAMILIES → n < 2 ^ 32 → key ≡ family_name q n
    → IsKeyed key (Some (node_at q n))
keyed_family key q n lt fits is = (
  omega (arith, lt, fits),
  placed_key (node_at q n) (omega arith)
      ∙ ap (λ (r : ℕ). printed (family_stem_at r) (Some (place_of (node_at q n)))) (node_family q n lt)
      ∙ ap (λ (m : ℕ). family_name q m) (node_place q n lt) ∙ sym is,
)

unkeyed_by : (b : Bool) (key : List ℕ) (i : ℕ) → nat_lt i SINGLES ≡ b → ((j : ℕ) → j < SINGLES → key ≢ single_key_at j)
    → ((q n : ℕ) → q < FAMILIES → n < 2 ^ 32 → key ≢ family_name q n) → IsNode i → key_by b i ≡ key → ⊥
unkeyed_by true key i e singles families near is = singles i (ltb-true i SINGLES e) (sym is)
unkeyed_by false key i e singles families near is =
    families (family_of i) (place_of i) (mod-lt (i - SINGLES) {m = FAMILIES} (omega arith)) (place_small i near) (sym is)

pub not_keyed : (key : List ℕ) → ((j : ℕ) → j < SINGLES → key ≢ single_key_at j)
    → ((q n : ℕ) → q < FAMILIES → n < 2 ^ 32 → key ≢ family_name q n) → IsKeyed key None
unfolding helper_key
not_keyed key singles families i near is = unkeyed_by (nat_lt i SINGLES) key i refl singles families near is

-- a name of a variable that keeps a view is no key
pub kept_no_key : (key : List ℕ) (p n : ℕ) → FAMILIES ≤ p → p < FAMILY_BINDS → n < 2 ^ 32 → key ≡ family_name p n
    → (q m : ℕ) → q < FAMILIES → m < 2 ^ 32 → key ≢ family_name q m
kept_no_key key p n le lt fits is q m lu small other =
    let r = same_family p q n m lt (omega (arith, lu)) (omega (arith, fits)) (omega (arith, small)) (sym is ∙ other) in
    omega (arith, r.0, le, lu)

-- ---- from what is found for all parts to what is found for these

module _ (parts : HelperParts) (name : List ℕ) where
  pub bound_by_none : IsBinder name None → binder parts name ≡ None
  bound_by_none none = unbound parts name (λ i lt h. none parts i (near parts i lt) h)

  pub bound_past : (i : ℕ) → IsBinder name (Some i) → count parts ≤ i → binder parts name ≡ None
  bound_past i only le = unbound parts name (λ j lt h. let same : j ≡ i = only.1 parts j (near parts j lt) h in omega (arith, same, lt, le))

  pub bound_otherwise : (i : ℕ) → IsBinder name (Some i) → IsAway name (bound_in (helper_words parts i)) → binder parts name ≡ None
  bound_otherwise i only away =
      unbound parts name (λ j lt h. away (subst (λ (k : ℕ). IsIn name (bound_in (helper_words parts k))) (only.1 parts j (near parts j lt) h) h))

  pub keyed_by_none : IsKeyed name None → keyed parts name ≡ None
  keyed_by_none none = unkeyed parts name (λ i lt there. none i (near parts i lt))

  pub keyed_past : (i : ℕ) → IsKeyed name (Some i) → count parts ≤ i → keyed parts name ≡ None
  keyed_past i found le =
      unkeyed parts name (λ j lt there h. let same : j ≡ i = key_once j i (near parts j lt) found.0 (h ∙ sym found.1) in omega (arith, same, lt, le))

  pub keyed_absent : (i : ℕ) → IsKeyed name (Some i) → is_there (helper_item parts i) ≡ false → keyed parts name ≡ None
  keyed_absent i found absent =
      unkeyed parts name (λ j lt there h.
      let same : j ≡ i = key_once j i (near parts j lt) found.0 (h ∙ sym found.1) in
      true≢false (sym there ∙ ap (λ (k : ℕ). is_there (helper_item parts k)) same ∙ absent))

  pub keyed_there : (i : ℕ) → IsKeyed name (Some i) → i < count parts → is_there (helper_item parts i) ≡ true → keyed parts name ≡ Some i
  keyed_there i found lt there = ap (keyed parts) (sym found.1) ∙ printed_read parts i lt there
