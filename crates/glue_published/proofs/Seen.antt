-- Imports that were seen, as sets, and what a re-export more changes.
use Rattle.std.proofs.Common.{◌≡◌, ℕ, ◌+◌, ◌<◌, List, [], ◌∷◌, ◌++◌, length, get_or, take, drop, refl, sym, ap, ◌∙◌, cond, Bool, true, false}
use Rattle.std.specs.Prelude.{◌&&◌, ◌||◌, ◌==◌, is_some, Some}
use Rattle.std.proofs.lemmas.List.{at_drop_more, take_more}
use Rattle.std.specs.List.{list_any}
use Rattle.std.specs.BTreeMap.{insert_entry}
use Rattle.values.specs.Map.{look_up}
use Rattle.values.proofs.Maps.{look_up_inserted}
use Rattle.glue_shared.specs.Paths.{Path}
use Rattle.glue_shared.proofs.Texts.{any_alike}
use Rattle.glue_shared.specs.declared.import.JsImportName.{JsImportName}
use Rattle.glue_shared.specs.declared.settings.Settings.{Settings}
use Rattle.glue_faults.proofs.Clashes.{flip}
use Rattle.glue_faults.specs.First.{first_after}
use Rattle.glue_published.specs.Reexports.{Reexport, import_order, is_same, share_members, is_bad_import, is_bad_reexport, holds_import, AreSeen, meets_import, with_import, is_below}
use Rattle.glue_published.specs.Sets.{name_order, holds}
use Rattle.glue_published.proofs.ImportOrder.{import_order_total}
use Rattle.glue_published.proofs.Known.{is_name_added}
use Rattle.glue_published.proofs.Lists.{any_both, any_where, any_behind, some_or}

is_import_added : (test : Bool) (set : List (JsImportName × Bool)) (name key : JsImportName)
    → holds_import (with_import test set key) name ≡ ((test && is_same name key) || holds_import set name)
is_import_added true set name key =
    ap is_some (look_up_inserted import_order import_order_total set key true name) ∙ some_or (is_same name key) true (look_up import_order set name)
is_import_added false set name key = refl

-- the first of some, and one more
pub one_more : {A : Type 0} (xs : List A) (place : ℕ) (x : A) → place < length xs → x ≡ get_or xs place x → take (place + 1) xs ≡ take place xs ++ x ∷ []
one_more xs place x within here = take_more xs place x within ∙ ap (λ y. take place xs ++ y ∷ []) (sym here)

split : (same one other : Bool) → ((one && same) || (other && same)) ≡ (same && (one || other))
split true true other = refl
split true false true = refl
split true false false = refl
split false true true = refl
split false true false = refl
split false false true = refl
split false false false = refl

module _ (seen_set with_set : List (JsImportName × Bool)) (members : List ℕ → Bool) (before : List Reexport) (seen : AreSeen seen_set with_set members before) where
  -- an import that meets those that were seen is one of theirs with members below one of the two
  pub found_shared : (r : Reexport) → meets_import seen_set with_set (members r.0) r.1.name ≡ list_any (λ earlier. share_members members earlier r) before
  found_shared r =
      ap (λ b. b || (members r.0 && holds_import seen_set r.1.name)) (seen.with_members r.1.name)
      ∙ ap (λ b. list_any (λ e. members e.0 && is_same r.1.name e.1.name) before || (members r.0 && b)) (seen.seen r.1.name)
      ∙ ap (λ b. list_any (λ e. members e.0 && is_same r.1.name e.1.name) before || b) (any_where (members r.0) (λ e. is_same r.1.name e.1.name) before)
      ∙ any_both (λ e. members e.0 && is_same r.1.name e.1.name) (λ e. members r.0 && is_same r.1.name e.1.name) before
      ∙ any_alike _ (λ e. share_members members e r) before (λ e. split (is_same r.1.name e.1.name) (members e.0) (members r.0))

  -- a re-export that is bad by itself, or meets an import that was seen, is bad behind them
  pub bad_behind : (settings : Settings) (r : Reexport) (bad has : Bool) → bad ≡ (is_bad_import settings r.1 || meets_import seen_set with_set has r.1.name)
      → has ≡ members r.0 → bad ≡ is_bad_reexport settings members before r
  bad_behind settings r bad has test are =
      test
      ∙ ap (λ b. is_bad_import settings r.1 || meets_import seen_set with_set b r.1.name) are
      ∙ ap (λ b. is_bad_import settings r.1 || b) (found_shared r)

  -- what was seen of one re-export more
  pub seen_more : (r : Reexport) → AreSeen (with_import true seen_set r.1.name) (with_import (members r.0) with_set r.1.name) members (before ++ r ∷ [])
  seen_more r = record {
    seen = λ name.
        is_import_added true seen_set name r.1.name
        ∙ ap (λ b. is_same name r.1.name || b) (seen.seen name)
        ∙ sym (any_behind (λ e. is_same name e.1.name) before r);
    with_members = λ name.
        is_import_added (members r.0) with_set name r.1.name
        ∙ ap (λ b. (members r.0 && is_same name r.1.name) || b) (seen.with_members name)
        ∙ sym (any_behind (λ e. members e.0 && is_same name e.1.name) before r);
  }

-- ---- names with members

-- the first segment of a path that has more, added
pub parent_added : (set : List (List ℕ × Bool)) (segment : List ℕ) (rest : Path) (name : List ℕ) → false ≡ (length rest == 0)
    → holds (insert_entry name_order set segment true) name ≡ (is_below name (segment ∷ rest) || holds set name)
parent_added set segment [] name more = cc
parent_added set segment (next ∷ rest) name more = is_name_added set name segment ∙ ap (λ b. b || holds set name) (flip name segment)

-- ---- a re-export and those behind it

-- the first bad re-export from a place on is the one there, or one behind it
pub next_bad : (settings : Settings) (members : List ℕ → Bool) (reexports : List Reexport) (place : ℕ) (r : Reexport) (b : Bool)
    → place < length reexports → r ≡ get_or reexports place r → b ≡ is_bad_reexport settings members (take place reexports) r
    → first_after (is_bad_reexport settings members) (take place reexports) (drop place reexports)
    ≡ cond b (Some r) (first_after (is_bad_reexport settings members) (take (place + 1) reexports) (drop (place + 1) reexports))
next_bad settings members reexports place r b within here bad =
    let test = is_bad_reexport settings members in
    let rest = drop (place + 1) reexports in
    at_drop_more (first_after test (take place reexports)) reexports place r within
    ∙ ap (λ x. first_after test (take place reexports) (x ∷ rest)) (sym here)
    ∙ ap (λ t. cond t (Some r) (first_after test (take place reexports ++ r ∷ []) rest)) (sym bad)
    ∙ ap (λ before. cond b (Some r) (first_after test before rest)) (sym (one_more reexports place r within here))

-- the names below which something is published, as a set
pub bad_alike : (settings : Settings) (members other : List ℕ → Bool) → ((name : List ℕ) → members name ≡ other name)
    → (before reexports : List Reexport) → first_after (is_bad_reexport settings members) before reexports ≡ first_after (is_bad_reexport settings other) before reexports
bad_alike settings members other same before [] = refl
bad_alike settings members other same before (r ∷ reexports) =
    ap (λ b. cond (is_bad_import settings r.1 || b) (Some r) (first_after (is_bad_reexport settings members) (before ++ r ∷ []) reexports))
    (any_alike (λ e. share_members members e r) (λ e. share_members other e r) before (λ e.
    ap (λ b. is_same r.1.name e.1.name && (b || members r.0)) (same e.0) ∙ ap (λ b. is_same r.1.name e.1.name && (other e.0 || b)) (same r.0)))
    ∙ ap (λ o. cond (is_bad_reexport settings other before r) (Some r) o) (bad_alike settings members other same (before ++ r ∷ []) reexports)
