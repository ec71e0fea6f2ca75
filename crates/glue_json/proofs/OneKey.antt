-- Types that are objects with one key.
use Rattle.std.proofs.Common.{◌≡◌, ℕ, List, [], ◌∷◌, length, true, false, None, option_map, codes, string_bytes, bytes_eq, String, Global, refl}
use Rattle.serde_json.specs.Data.{object}
use Rattle.serde_json.specs.View.{view, members_view}
use Rattle.serde_json.specs.declared.value.Value.{Value}
use Rattle.glue_shared.specs.declared.adapter.AdapterType.TheVariants as type
use Rattle.glue_json.specs.Adapters.{type_of, keyed_type}

abbrev Entry : Type 0
Entry = String Global × Value

-- an object without a key, or with two, is no type
pub other_counts : (es : List Entry) → (length es ≡ 1 → ⊥) → type_of (object (members_view es)) ≡ None
unfolding type_of
other_counts [] h = refl
other_counts (e ∷ []) h = absurd (h refl)
other_counts (e ∷ f ∷ es) h = refl

-- an option
pub option_type : (e : Entry) (es : List Entry) → length (e ∷ es) ≡ 1 → bytes_eq (string_bytes e.0) (codes "option") ≡ true
    → type_of (object (members_view (e ∷ es))) ≡ option_map type.Option (type_of (view e.1))
unfolding type_of
option_type e [] one option = rw option refl
option_type e (f ∷ es) one option = cc

-- another key
pub other_type : (e : Entry) (es : List Entry) → length (e ∷ es) ≡ 1 → bytes_eq (string_bytes e.0) (codes "option") ≡ false
    → type_of (object (members_view (e ∷ es))) ≡ keyed_type (string_bytes e.0) (view e.1)
unfolding type_of
other_type e [] one option = rw option refl
other_type e (f ∷ es) one option = cc
