-- An entry that asks for a word that was told is one that clashes with an earlier one.
use Rattle.std.proofs.Common.{◌≡◌, ℕ, List, [], ◌∷◌, Bool, true, false, Some, ◌||◌, cond, refl, sym, ap, ◌∙◌}
use Rattle.std.specs.List.{list_any}
use Rattle.std.specs.Str.{bytes_eq}
use Rattle.std.specs.Ordering.{nat_cmp, eq_by_cmp, is_eq}
use Rattle.std.specs.Cmp.{Equal-is, tied_itself}
use Rattle.std.specs.Cmp.Lexicographic.{slice_cmp, nat_list_cmp_total}
use Rattle.std.proofs.lemmas.Slice.Eq.{bytes_eq-Decides}
use Rattle.std.specs.FinSet as set
use Rattle.values.specs.TextSet.{TextSet, with_texts}
pub use Rattle.glue_shared.proofs.Texts.{any_alike}
use Rattle.glue_faults.specs.Clash.{first_clash_after, first_clash, is_told, first_told}

same_truth : (a b : Bool) → (a ≡ true → b ≡ true) → (b ≡ true → a ≡ true) → a ≡ b
same_truth true b f g = sym (f refl)
same_truth false true f g = g refl
same_truth false false f g = refl

same_text : (x y : List ℕ) → eq_by_cmp (slice_cmp nat_cmp) x y ≡ true → x ≡ y
same_text x y h = set.slice_cmp-IsAntisymmetric set.nat_cmp-IsAntisymmetric x y ((Equal-is (slice_cmp nat_cmp x y)).0 h)

-- the keys' order and the equality of bytes agree
pub same_test : (x y : List ℕ) → eq_by_cmp (slice_cmp nat_cmp) x y ≡ bytes_eq x y
same_test x y =
    same_truth (eq_by_cmp (slice_cmp nat_cmp) x y) (bytes_eq x y) (λ h. (bytes_eq-Decides x y).1 (same_text x y h))
    (λ h. ap (eq_by_cmp (slice_cmp nat_cmp) x) (sym ((bytes_eq-Decides x y).0 h)) ∙ ap is_eq (tied_itself nat_list_cmp_total x))

-- a word is among those of a list
abbrev pub among : List (List ℕ) → List ℕ → Bool
among words w = list_any (λ other. bytes_eq other w) words

or_assoc : (a b c : Bool) → ((a || b) || c) ≡ (a || (b || c))
or_assoc true b c = refl
or_assoc false b c = refl

or_swap : (a b c : Bool) → (a || (b || c)) ≡ (b || (a || c))
or_swap true true c = refl
or_swap true false c = refl
or_swap false b c = refl

shuffle : (a b c d : Bool) → ((a || b) || (c || d)) ≡ ((a || c) || (b || d))
shuffle true b c d = refl
shuffle false true true d = refl
shuffle false true false d = refl
shuffle false false c d = refl

pub flip : (x y : List ℕ) → bytes_eq x y ≡ bytes_eq y x
flip x y = same_truth (bytes_eq x y) (bytes_eq y x)
    (λ h. (bytes_eq-Decides y x).1 (sym ((bytes_eq-Decides x y).0 h)))
    (λ h. (bytes_eq-Decides x y).1 (sym ((bytes_eq-Decides y x).0 h)))

-- the words that are told, with those of a list
pub told_more : (told : TextSet) (words : List (List ℕ)) (w : List ℕ) → set.contains (with_texts told words) w ≡ (among words w || set.contains told w)
told_more told [] w = refl
told_more told (x ∷ words) w =
    told_more (set.insert told x) words w
    ∙ ap (λ (b : Bool). among words w || b) (set.contains-insert nat_list_cmp_total told x w ∙ ap (λ (b : Bool). b || set.contains told w) (same_test w x ∙ flip w x))
    ∙ or_swap (among words w) (bytes_eq x w) (set.contains told w)
    ∙ sym (or_assoc (bytes_eq x w) (among words w) (set.contains told w))

-- some word was told by these, or by the earlier ones
told_both : (told : TextSet) (words asked : List (List ℕ))
    → is_told (with_texts told words) asked ≡ (list_any (among words) asked || is_told told asked)
told_both told words [] = refl
told_both told words (w ∷ asked) =
    ap (λ (b : Bool). b || is_told (with_texts told words) asked) (told_more told words w)
    ∙ ap (λ (b : Bool). (among words w || set.contains told w) || b) (told_both told words asked)
    ∙ shuffle (among words w) (set.contains told w) (list_any (among words) asked) (is_told told asked)

-- what was told is what the earlier entries tell
abbrev pub Knows : {A : Type 0} → (A → List (List ℕ)) → TextSet → List A → Type 0
Knows tells told before = (asked : List (List ℕ)) → is_told told asked ≡ list_any (λ e. list_any (among (tells e)) asked) before

none_told : (asked : List (List ℕ)) → is_told set.empty asked ≡ false
none_told [] = refl
none_told (w ∷ asked) = ap (λ (b : Bool). b || is_told set.empty asked) (set.contains-empty (slice_cmp nat_cmp) w) ∙ none_told asked

-- where two entries clash exactly if the later asks for a word that the earlier tells
abbrev pub ByWords : {A : Type 0} → (A → A → Bool) → (A → List (List ℕ)) → (A → List (List ℕ)) → Type 0
ByWords {A} clash asks tells = (earlier later : A) → list_any (among (tells earlier)) (asks later) ≡ clash earlier later

told_is_clash : {A : Type 0} (clash : A → A → Bool) (asks tells : A → List (List ℕ)) → ByWords clash asks tells
    → (told : TextSet) (before entries : List A) → Knows tells told before
    → first_told asks tells told entries ≡ first_clash_after clash before entries
told_is_clash clash asks tells same told before [] knows = refl
told_is_clash clash asks tells same told before (e ∷ entries) knows =
    let here = knows (asks e) ∙ any_alike (λ earlier. list_any (among (tells earlier)) (asks e)) (λ earlier. clash earlier e) before (λ earlier. same earlier e) in
    let on : Knows tells (with_texts told (tells e)) (e ∷ before) =
    λ asked. told_both told (tells e) asked ∙ ap (λ (b : Bool). list_any (among (tells e)) asked || b) (knows asked) in
    ap (λ (b : Bool). cond b (Some e) (first_told asks tells (with_texts told (tells e)) entries)) here
    ∙ ap (λ o. cond (list_any (λ earlier. clash earlier e) before) (Some e) o) (told_is_clash clash asks tells same (with_texts told (tells e)) (e ∷ before) entries on)

-- from nothing told on, the first that asks for a told word is the first that clashes with an earlier one
pub first_told_is : {A : Type 0} (clash : A → A → Bool) (asks tells : A → List (List ℕ)) → ByWords clash asks tells
    → (entries : List A) → first_told asks tells set.empty entries ≡ first_clash clash entries
first_told_is clash asks tells same entries = told_is_clash clash asks tells same set.empty [] entries none_told
