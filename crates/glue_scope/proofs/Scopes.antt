-- What a scope keeps.
use Rattle.std.proofs.Common.{◌≡◌, ℕ, ◌+◌, List, refl, ap, sym, ◌∙◌, true, false, Bool, cond, subst, arith, rules, inl, inr}
use Rattle.std.proofs.lemmas.Bool.{cases_lt}
use Rattle.std.specs.Prelude.{◌||◌, is_some, IsSome, Some, None, Option}
use Rattle.std.specs.Ordering.{nat_cmp, eq_by_cmp, is_eq}
use Rattle.std.specs.Cmp.{Equal-is, tied_itself}
use Rattle.std.specs.Cmp.Lexicographic.{slice_cmp, nat_list_cmp_total}
use Rattle.std.specs.FinMap as finite
use Rattle.std.specs.FinSet as set
use Rattle.values.specs.TextSet.{TextSet}
use Rattle.glue_scope.specs.Scope.{Numbers}
use Rattle.glue_scope.specs.Scope.{key_set, IsFirstFree, IsLeastFree, IsKept, KeepsTaken}
use Rattle.glue_words.specs.Ident.{numbered}
use Rattle.glue_scope.proofs.KeySets.{contains-key_set, key_set-insert}

pub same_text : (x y : List ℕ) → eq_by_cmp (slice_cmp nat_cmp) x y ≡ true → x ≡ y
same_text x y h = set.slice_cmp-IsAntisymmetric set.nat_cmp-IsAntisymmetric x y ((Equal-is (slice_cmp nat_cmp x y)).0 h)

or_true : (a b : Bool) → b ≡ true → (a || b) ≡ true
or_true true b h = refl
or_true false b h = h

or_absorbs : (a b : Bool) → (a ≡ true → b ≡ true) → (a || b) ≡ b
or_absorbs true b h = sym (h refl)
or_absorbs false b h = refl

some_from_test : (o : Option ℕ) → is_some o ≡ true → IsSome o
some_from_test o h = search rules

pub contains_grown : (m : Numbers) (k : List ℕ) (v : ℕ) (q : List ℕ) → set.contains (key_set m) q ≡ true → set.contains (key_set (finite.insert m k v)) q ≡ true
contains_grown m k v q h =
    ap (λ (s : TextSet). set.contains s q) (key_set-insert m k v)
    ∙ set.contains-insert nat_list_cmp_total (key_set m) k q
    ∙ or_true _ _ h

kept_grown : (m : Numbers) (k : List ℕ) (v : ℕ) (name : List ℕ) (start : ℕ) → IsKept m name start → IsKept (finite.insert m k v) name start
kept_grown m k v name start h = record { least = h.least; taken = λ j low high. contains_grown m k v _ (h.taken j low high) }

kept_either : (m : Numbers) (k : List ℕ) (v : ℕ) (name : List ℕ) (start : ℕ) (b : Bool) → (b ≡ true → name ≡ k) → IsKept m k v → ((x : ℕ) → finite.get m name ≡ Some x → IsKept m name x) → cond b (Some v) (finite.get m name) ≡ Some start → IsKept m name start
kept_either m k v name start true same here others e =
    let same_start : v ≡ start = cc in
    subst (IsKept m name) same_start (subst (λ q. IsKept m q v) (sym (same refl)) here)
kept_either m k v name start false same here others e = others start e

pub keeps_put : (m : Numbers) (k : List ℕ) (v : ℕ) → KeepsTaken m → IsKept m k v → KeepsTaken (finite.insert m k v)
keeps_put m k v keeps here name start e =
    kept_grown m k v name start (kept_either m k v name start (eq_by_cmp (slice_cmp nat_cmp) name k) (same_text name k) here (keeps name) (sym (finite.get-insert nat_list_cmp_total m k v name) ∙ e))

pub kept_new : (m : Numbers) (k : List ℕ) → IsKept m k 2
kept_new m k = record { least = omega arith; taken = λ j low high. absurd (omega arith) }

none_some : (start : ℕ) → None ≡ Some start → ⊥
none_some start e = cc

pub keeps_empty : KeepsTaken finite.empty
keeps_empty name start e = absurd (none_some start (sym (finite.get-empty (slice_cmp nat_cmp) name) ∙ e))

pub least_from_kept : (m : Numbers) (name : List ℕ) (start n : ℕ) → IsKept m name start → IsLeastFree (key_set m) name start n → IsLeastFree (key_set m) name 2 n
least_from_kept m name start n kept h = record {
  above = omega (arith, kept.least, h.above);
  free = h.free;
  taken = λ j low high. elim (cases_lt j start) [ inl below ↦ kept.taken j low below | inr up ↦ h.taken j up high ];
}

pub contains_put : (m : Numbers) (k : List ℕ) (v : ℕ) → set.contains (key_set (finite.insert m k v)) k ≡ true
contains_put m k v =
    ap (λ (s : TextSet). set.contains s k) (key_set-insert m k v)
    ∙ set.contains-insert nat_list_cmp_total (key_set m) k k
    ∙ ap (λ b. b || set.contains (key_set m) k) (ap is_eq (tied_itself nat_list_cmp_total k))

pub kept_after : (m : Numbers) (name answer : List ℕ) (n : ℕ) → answer ≡ numbered name n → IsLeastFree (key_set m) name 2 n → IsKept (finite.insert m answer 2) name (n + 1)
kept_after m name answer n e h = record {
  least = omega (arith, h.above);
  taken = λ j low high. elim (cases_lt j n) [
    | inl below ↦ contains_grown m answer 2 _ (h.taken j low below)
    | inr up ↦
        let same : n ≡ j = omega arith in
        subst (λ i. set.contains (key_set (finite.insert m answer 2)) (numbered name i) ≡ true) same
        (subst (λ (q : List ℕ). set.contains (key_set (finite.insert m answer 2)) q ≡ true) e (contains_put m answer 2))
  ];
}

pub has_entry : (m : Numbers) (q : List ℕ) → set.contains (key_set m) q ≡ true → IsSome (finite.get m q)
has_entry m q h = some_from_test (finite.get m q) (sym (contains-key_set m q) ∙ h)

pub contained : (m : Numbers) (q : List ℕ) (v : ℕ) → finite.get m q ≡ Some v → set.contains (key_set m) q ≡ true
contained m q v e = contains-key_set m q ∙ ap is_some e

pub not_contained : (m : Numbers) (q : List ℕ) → finite.get m q ≡ None → set.contains (key_set m) q ≡ false
not_contained m q e = contains-key_set m q ∙ ap is_some e

pub insert_present : (s : TextSet) (k : List ℕ) → set.contains s k ≡ true → set.insert s k ≡ s
insert_present s k h =
    set.same_set nat_list_cmp_total (set.slice_cmp-IsAntisymmetric set.nat_cmp-IsAntisymmetric) _ _ (λ q.
    set.contains-insert nat_list_cmp_total s k q
    ∙ or_absorbs (eq_by_cmp (slice_cmp nat_cmp) q k) (set.contains s q) (λ t. ap (λ (x : List ℕ). set.contains s x) (same_text q k t) ∙ h))

-- the names that are bound after a new name with a number
pub key_set-numbered : (m : Numbers) (name answer : List ℕ) (v : ℕ) → set.contains (key_set m) name ≡ true → key_set (finite.insert (finite.insert m answer 2) name v) ≡ set.insert (key_set m) answer
key_set-numbered m name answer v h =
    key_set-insert (finite.insert m answer 2) name v
    ∙ insert_present (key_set (finite.insert m answer 2)) name (contains_grown m answer 2 name h)
    ∙ key_set-insert m answer 2

pub first_plain : (m : Numbers) (name answer : List ℕ) → answer ≡ name → finite.get m answer ≡ None → IsFirstFree (key_set m) name answer
first_plain m name answer e h = inl (subst (λ (q : List ℕ). set.contains (key_set m) q ≡ false) e (not_contained m answer h), e)

pub first_numbered : (m : Numbers) (name ident answer : List ℕ) (v n : ℕ) → ident ≡ name → finite.get m ident ≡ Some v → answer ≡ numbered ident n → IsLeastFree (key_set m) ident 2 n → IsFirstFree (key_set m) name answer
first_numbered m name ident answer v n e h a least =
    subst (λ (q : List ℕ). IsFirstFree (key_set m) q answer) e (inr (contained m ident v h, (n, a, least)))
