-- The helpers that needed keys ask for.
use Rattle.std.specs.Prelude.{◌≡◌, ◌≢◌, ℕ, ◌+◌, ◌*◌, ◌<◌, ◌^◌, ◌==◌, zero, suc, nat_eq, ◌&&◌, cond, Bool, true, List, [], ◌∷◌, ◌++◌, fold, map, All, Option, Some, None}
use Rattle.std.specs.List.{list_any, filter_map}
use Rattle.std.specs.Cmp.Lexicographic.{pointwise}
use Rattle.values.specs.Lists.{IsIn, IsAway}
use Rattle.glue_words.specs.declared.word.Word.{Word}
use Rattle.glue_words.specs.declared.item.Item.{Item}
use Rattle.glue_words.specs.Names.{bound_in, used_in}
use Rattle.helper_set.specs.Helpers.{AreHelpers, held_item}
use Rattle.helper_table.specs.declared.parts.HelperParts.{HelperParts}
use Rattle.helper_table.specs.declared.kinds.TheConstants.{SINGLES, FAMILIES}
use Rattle.helper_table.specs.Made.{helper_item, is_there, helper_words, helper_key, count}
use Rattle.std.specs.Ordering.{nat_cmp}
use Rattle.std.specs.Cmp.Lexicographic.{slice_cmp}
use Rattle.values.specs.Map.{look_up}

-- the first of so many next numbers that passes a test
abbrev pub first_such : (ℕ → Bool) → ℕ → ℕ → Option ℕ
first_such test i zero = None
first_such test i (suc more) = cond (test i) (Some i) (first_such test (i + 1) more)

-- whether words bind a name
abbrev pub binds_name : List ℕ → List Word → Bool
binds_name name words = list_any (pointwise nat_eq name) (bound_in words)

-- the helper that binds a name
abbrev pub binder : HelperParts → List ℕ → Option ℕ
binder parts name = first_such (λ i. binds_name name (helper_words parts i)) 0 (count parts)

-- whether a helper has a key, and is there
abbrev pub has_key : HelperParts → List ℕ → ℕ → Bool
has_key parts key i = is_there (helper_item parts i) && pointwise nat_eq (helper_key i) key

-- the helper with a key
abbrev pub keyed : HelperParts → List ℕ → Option ℕ
keyed parts key = first_such (has_key parts key) 0 (count parts)

-- the helpers with these keys; a key that no helper has stands for none
abbrev pub needed_helpers : HelperParts → List (List ℕ) → List ℕ
needed_helpers parts keys = filter_map (keyed parts) keys

-- these are numbers of helpers that are there
abbrev pub ArePresent : HelperParts → List ℕ → Type 0
ArePresent parts nodes = All (λ i. (i < count parts) × (is_there (helper_item parts i) ≡ true)) nodes

-- the items are those of the least set of helpers that holds these and each that a held one's words refer to, by key in order of bytes;
-- each is the item of a helper that is there
pub record AreHeld (parts : HelperParts) (needed : List ℕ) (items : List Item) : Type 0 where
  pub entries : List (List ℕ × List Word)
  pub helpers : AreHelpers helper_key (helper_words parts) (binder parts) needed entries
  pub made : items ≡ map held_item entries
  pub own : (key : List ℕ) (words : List Word) → look_up (slice_cmp nat_cmp) entries key ≡ Some words
      → (i : ℕ) × (helper_item parts i ≡ Some (held_item (key, words)))

-- the items of the helpers that needed keys ask for
abbrev pub AreClosed : HelperParts → List (List ℕ) → List Item → Type 0
AreClosed parts keys items = AreHeld parts (needed_helpers parts keys) items

-- ---- the helpers that items ask for

-- whether a helper is one of these
abbrev pub is_one : List ℕ → ℕ → Bool
is_one nodes node = list_any (λ n. n == node) nodes

-- with a helper, unless it is there
abbrev pub with_helper : List ℕ → Option ℕ → List ℕ
with_helper nodes None = nodes
with_helper nodes (Some node) = cond (is_one nodes node) nodes (nodes ++ node ∷ [])

-- with the helper that binds a name
abbrev pub with_binder : HelperParts → List ℕ → List ℕ → List ℕ
with_binder parts nodes name = with_helper nodes (binder parts name)

-- with those that words refer to
abbrev pub with_words : HelperParts → List ℕ → List Word → List ℕ
with_words parts nodes words = fold (with_binder parts) nodes (used_in words)

-- those that items refer to, each once, in order of need
abbrev pub asked_helpers : HelperParts → List Item → List ℕ
asked_helpers parts items = fold (λ nodes (item : Item). with_words parts nodes item.words) [] items

-- the items of the helpers that these items ask for
abbrev pub AreAsked : HelperParts → List Item → List Item → Type 0
AreAsked parts items group = AreHeld parts (asked_helpers parts items) group

-- the module gives nothing that helpers take: no memory, no table of references, no function
pub record IsBare (parts : HelperParts) : Type 0 where
  pub memories : parts.memories ≡ []
  pub table : parts.table ≡ None
  pub store : parts.exn_store ≡ None
  pub destroy : parts.destroy_closure ≡ None

-- ---- what is found by a name and by a key, whatever the parts are

-- the number is one of a helper
abbrev pub IsNode : ℕ → Type 0
IsNode i = i < SINGLES + FAMILIES * 2 ^ 32

-- no helper but this one binds the name
abbrev pub IsBinder : List ℕ → Option ℕ → Type 0
IsBinder name None = (parts : HelperParts) (i : ℕ) → IsNode i → IsAway name (bound_in (helper_words parts i))
IsBinder name (Some i) = IsNode i × ((parts : HelperParts) (j : ℕ) → IsNode j → IsIn name (bound_in (helper_words parts j)) → j ≡ i)

-- the helper has the key, or none has it
abbrev pub IsKeyed : List ℕ → Option ℕ → Type 0
IsKeyed key None = (i : ℕ) → IsNode i → helper_key i ≢ key
IsKeyed key (Some i) = IsNode i × (helper_key i ≡ key)
