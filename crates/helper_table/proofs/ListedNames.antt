-- In which list the names stand that helpers bind: in that of names without a place, or in that of a memory or of the table that is given.
use Rattle.std.proofs.Common.{◌≡◌, ℕ, ◌-◌, ◌<◌, ◌^◌, List, [], ◌∷◌, ◌++◌, map, Bool, true, false, true≢false, inl, inr, refl, sym, ap, ◌∙◌, subst, arith, ◌⊎◌}
use Rattle.std.specs.Prelude.{Option, Some, None, nat_eq, nat_lt, not, ◌&&◌, slice_get}
use Rattle.std.specs.List.{list_all, list_any}
use Rattle.std.specs.Fmt.{decimal}
use Rattle.std.specs.Cmp.Lexicographic.{pointwise}
use Rattle.std.proofs.Math.Nat.{mod-lt}
use Rattle.std.proofs.lemmas.Bool.{and_parts, and_from, or_left, or_right, ltb-false, eq-eqb}
use Rattle.values.specs.Lists.{IsIn, IsAway}
use Rattle.values.proofs.Members.{in_left, in_right}
use Rattle.glue_words.specs.declared.word.Word.{Word}
use Rattle.glue_words.specs.declared.item.Item.{Item}
use Rattle.glue_words.specs.Names.{bound_in}
use Rattle.glue_words.proofs.Among.{among_in}
use Rattle.helper_table.specs.declared.parts.TableExport.{TableExport}
use Rattle.helper_table.specs.declared.parts.HelperParts.{HelperParts}
use Rattle.helper_table.specs.declared.kinds.Family.{Family}
use Rattle.helper_table.specs.declared.kinds.Family.TheVariants as family
use Rattle.helper_table.specs.declared.kinds.TheConstants.{SINGLES, FAMILIES}
use Rattle.helper_table.specs.Names.{printed, single_names}
use Rattle.helper_table.specs.Made.{family_item, memory_item, table_item, helper_item, item_words, family_at, family_of, place_of, count}
use Rattle.helper_table.specs.Numbers.{family_made}
use Rattle.helper_table.specs.Closed.{binder}
use Rattle.helper_table.specs.Laws.{binds_law, near, place_small, in_any}
use Rattle.helper_table.proofs.Own.{bound_there}
use Rattle.helper_table.proofs.HeldItems.{among_test}
use Rattle.helper_table.proofs.Held.{single_listed}
use Rattle.helper_table.proofs.Supplies.{of_memory_given, of_table_given}
use Rattle.helper_table.proofs.SuppliedNames.{memory_stems, table_stems, kind_stems, stems_at, kind_at, placed_binds, there_item}

-- a name of a helper that goes by a memory that is given
pub record IsOfMemory (parts : HelperParts) (name : List ℕ) : Type 0 where
  pub stem : List ℕ
  pub place : ℕ
  pub export : List ℕ
  pub listed : IsIn stem memory_stems
  pub given : slice_get parts.memories place ≡ Some (Some export)
  pub small : place < 2 ^ 32
  pub told : name ≡ printed stem (Some place)

-- a name of a helper that goes by the table, where it is given
pub record IsOfTable (parts : HelperParts) (name : List ℕ) : Type 0 where
  pub stem : List ℕ
  pub export : TableExport
  pub listed : IsIn stem table_stems
  pub given : parts.table ≡ Some export
  pub small : export.place < 2 ^ 32
  pub told : name ≡ printed stem (Some export.place)

-- a name that a helper may bind, with these parts
abbrev pub IsListed : HelperParts → List ℕ → Type 0
IsListed parts name = IsIn name single_names ⊎ (IsOfMemory parts name ⊎ IsOfTable parts name)

-- a name of a helper with a place has a stem of it
from_map : (n : ℕ) (name : List ℕ) (stems : List (List ℕ)) → IsIn name (map (λ s. printed s (Some n)) stems)
    → (stem : List ℕ) × (IsIn stem stems × (name ≡ printed stem (Some n)))
from_map n name [] at = absurd at
from_map n name (s ∷ stems) (inl same) = (s, (inl refl, same))
from_map n name (s ∷ stems) (inr at) = let r = from_map n name stems at in (r.0, (inr r.1.0, r.1.1))

-- it is listed, where the helper is there
kind_listed : (parts : HelperParts) (f : Family) (n : ℕ) (item : Item) (stem name : List ℕ) → family_item parts f n ≡ Some item → n < 2 ^ 32
    → IsIn stem (kind_stems f) → name ≡ printed stem (Some n) → IsListed parts name
kind_listed parts (family.Memory m) n item stem name e small at is =
    let g = of_memory_given (λ export. memory_item parts m n export) (slice_get parts.memories n) item e in
    inr (inl (record { stem = stem; place = n; export = g.0; listed = at; given = g.1.0; small = small; told = is }))
kind_listed parts (family.Table k) n item stem name e small at is =
    let g = of_table_given (λ export. table_item parts k n export) n parts.table item e in
    let same : n ≡ g.0.place = sym g.1.1 in
    inr (inr (record {
      stem = stem;
      export = g.0;
      listed = at;
      given = g.1.0;
      small = omega (arith, small, same);
      told = is ∙ ap (λ (m : ℕ). printed stem (Some m)) same;
    }))

-- what a helper with a place binds is so listed
placed_listed : (parts : HelperParts) (q n : ℕ) (item : Item) (name : List ℕ) → q < FAMILIES → n < 2 ^ 32
    → family_item parts (family_at q) n ≡ Some item → IsIn name (bound_in item.words) → IsListed parts name
placed_listed parts q n item name lt small e at =
    let r = from_map n name (stems_at q) (subst (λ (ns : List (List ℕ)). IsIn name ns) (placed_binds parts q n item lt e) at) in
    kind_listed parts (family_at q) n item r.0 name e small
    (among_in r.0 (stems_at q) (kind_stems (family_at q)) (among_test (stems_at q) (kind_stems (family_at q)) (kind_at q lt).listed) r.1.0) r.1.1

-- so is what any helper binds that is there
pub there_listed : (parts : HelperParts) (i : ℕ) (item : Item) (name : List ℕ) → i < count parts → helper_item parts i ≡ Some item
    → IsIn name (bound_in item.words) → IsListed parts name
there_listed parts i item name lt there at = by (nat_lt i SINGLES) refl
  where
    by : (b : Bool) → nat_lt i SINGLES ≡ b → IsListed parts name
    by true t = inl (single_listed parts i name t (subst (λ (ws : List Word). IsIn name (bound_in ws)) (sym (ap item_words there)) at))
    by false t =
        placed_listed parts (family_of i) (place_of i) item name (mod-lt (i - SINGLES) {m = FAMILIES} (omega arith)) (place_small i (near parts i lt))
        (sym (family_made parts i (ltb-false i SINGLES t)) ∙ there) at

-- and a name that is bound by a helper
pub bound_listed : (parts : HelperParts) (name : List ℕ) (j : ℕ) → binder parts name ≡ Some j → IsListed parts name
bound_listed parts name j found =
    let b = binds_law parts name j found in
    let t = there_item (helper_item parts j) (bound_there parts j name b.1) in
    there_listed parts j t.0 name b.0 t.1 (subst (λ (ws : List Word). IsIn name (bound_in ws)) (ap item_words t.1) b.1)

-- what is not so listed is bound by none
pub unlisted_unbound : (parts : HelperParts) (name : List ℕ) → (IsListed parts name → ⊥) → binder parts name ≡ None
unlisted_unbound parts name away = by (binder parts name) refl
  where
    by : (o : Option ℕ) → binder parts name ≡ o → o ≡ None
    by None e = refl
    by (Some j) e = absurd (away (bound_listed parts name j e))

-- ---- texts that are none of these names

-- a text begins with another
abbrev pub begins_with : List ℕ → List ℕ → Bool
begins_with [] text = true
begins_with (c ∷ cs) [] = false
begins_with (c ∷ cs) (d ∷ ds) = nat_eq c d && begins_with cs ds

-- a text with another behind it begins with itself
begins_joined : (stem rest : List ℕ) → begins_with stem (stem ++ rest) ≡ true
begins_joined [] rest = refl
begins_joined (c ∷ stem) rest = and_from (nat_eq c c) (begins_with stem (stem ++ rest)) (eq-eqb c c refl) (begins_joined stem rest)

-- a text is no name without a place, and begins with no name that a place follows
abbrev pub is_unlisted : List ℕ → Bool
is_unlisted text = not (list_any (pointwise nat_eq text) single_names) && not (list_any (λ stem. begins_with stem text) (memory_stems ++ table_stems))

-- a test does not both pass and fail
not_both : (b : Bool) → not b ≡ true → b ≡ true → ⊥
not_both true h e = true≢false (sym h)
not_both false h e = true≢false (sym e)

-- a name with a place begins with one of the stems
stem_begins : (stem : List ℕ) (n : ℕ) (stems : List (List ℕ)) → IsIn stem stems → list_any (λ s. begins_with s (printed stem (Some n))) stems ≡ true
stem_begins stem n [] at = absurd at
stem_begins stem n (s ∷ stems) (inl same) =
    or_left (begins_with s (printed stem (Some n))) (list_any (λ s. begins_with s (printed stem (Some n))) stems)
    (ap (λ (x : List ℕ). begins_with x (printed stem (Some n))) (sym same) ∙ begins_joined stem (decimal n))
stem_begins stem n (s ∷ stems) (inr at) =
    or_right (begins_with s (printed stem (Some n))) (list_any (λ s. begins_with s (printed stem (Some n))) stems) (stem_begins stem n stems at)

-- then no helper may bind it
pub unlisted_not : (parts : HelperParts) (text : List ℕ) → is_unlisted text ≡ true → IsListed parts text → ⊥
unlisted_not parts text h listed = by listed
  where
    begun : Bool
    begun = list_any (λ stem. begins_with stem text) (memory_stems ++ table_stems)

    tests : (not (list_any (pointwise nat_eq text) single_names) ≡ true) × (not begun ≡ true)
    tests = and_parts (not (list_any (pointwise nat_eq text) single_names)) (not begun) h

    placed : (stem : List ℕ) (n : ℕ) → IsIn stem (memory_stems ++ table_stems) → text ≡ printed stem (Some n) → ⊥
    placed stem n at is =
        not_both begun tests.1 (ap (λ (x : List ℕ). list_any (λ s. begins_with s x) (memory_stems ++ table_stems)) is
        ∙ stem_begins stem n (memory_stems ++ table_stems) at)

    by : IsListed parts text → ⊥
    by (inl at) = not_both (list_any (pointwise nat_eq text) single_names) tests.0 (in_any text single_names at)
    by (inr (inl m)) = placed m.stem m.place (in_left m.stem memory_stems table_stems m.listed) m.told
    by (inr (inr t)) = placed t.stem t.export.place (in_right t.stem memory_stems table_stems t.listed) t.told

-- names of helpers are none of such texts
pub listed_away : (parts : HelperParts) (texts : List (List ℕ)) → list_all is_unlisted texts ≡ true → (name : List ℕ) → IsListed parts name
    → IsAway name texts
listed_away parts [] h name listed at = at
listed_away parts (text ∷ texts) h name listed (inl same) =
    unlisted_not parts text (and_parts (is_unlisted text) (list_all is_unlisted texts) h).0 (subst (IsListed parts) same listed)
listed_away parts (text ∷ texts) h name listed (inr at) =
    listed_away parts texts (and_parts (is_unlisted text) (list_all is_unlisted texts) h).1 name listed at
