-- The lists and the keys that a value holds.
use Rattle.std.proofs.Common.{◌≡◌, ℕ, List, [], ◌∷◌, map, Bool, ◌&&◌, Option, Some, String, Global, string_bytes, refl, sym, ap, ◌∙◌}
use Rattle.std.specs.List.{list_all}
use Rattle.serde_json.specs.Data.{Data, null, boolean, number, string, array, object}
use Rattle.serde_json.specs.Find.{as_array, as_object}
use Rattle.serde_json.specs.View.{view, items_of, items_view, members_view}
use Rattle.serde_json.specs.declared.value.Value.{Value}
use Rattle.std.specs.Map.{keys_of as entry_keys}
use Rattle.glue_json.specs.Reading.{data_list, keys_of, read_all, list_of, two_parts, three_parts, pair_of, triple_of, has_only}
use Rattle.glue_json.specs.declared.counts.Counts.{Counts}
use Rattle.glue_json.specs.Adapters.{instruction_of, headed}
use Rattle.glue_json.specs.Imports.{what_of, named_what}

pub data_list-items_of : (ds : List Data) → data_list (items_of ds) ≡ ds
data_list-items_of [] = refl
data_list-items_of (d ∷ ds) = ap (λ l. d ∷ l) (data_list-items_of ds)

-- a list reads as its values do
pub list_of_items : {B : Type 0} (f : Data → Option B) (d : Data) (vs : List Value) → Some (items_view vs) ≡ as_array d → list_of f d ≡ read_all f (map view vs)
list_of_items f d vs h = rw (sym h) (ap (read_all f) (data_list-items_of (map view vs)))

-- a list of two reads as its values do
pub pair_of_items : {A B : Type 0} (f : Data → Option A) (g : Data → Option B) (d : Data) (vs : List Value) → Some (items_view vs) ≡ as_array d
    → pair_of f g d ≡ two_parts f g (map view vs)
pair_of_items f g d vs h = rw (sym h) (ap (two_parts f g) (data_list-items_of (map view vs)))

-- a list of three reads as its values do
pub triple_of_items : {A B C : Type 0} (f : Data → Option A) (g : Data → Option B) (k : Data → Option C) (d : Data) (vs : List Value) → Some (items_view vs) ≡ as_array d
    → triple_of f g k d ≡ three_parts f g k (map view vs)
triple_of_items f g k d vs h = rw (sym h) (ap (three_parts f g k) (data_list-items_of (map view vs)))

-- an instruction reads as its name and its parts do
pub instruction_of_items : (c : Counts) (d : Data) (vs : List Value) → Some (items_view vs) ≡ as_array d → instruction_of c d ≡ headed c (map view vs)
instruction_of_items c d vs h = rw (sym h) (ap (headed c) (data_list-items_of (map view vs)))

-- an import's expression reads as its name and its parts do
pub what_of_items : (d : Data) (vs : List Value) → Some (items_view vs) ≡ as_array d → what_of d ≡ named_what (map view vs)
what_of_items d vs h = rw (sym h) (ap named_what (data_list-items_of (map view vs)))

pub keys_of-members : (es : List (String Global × Value)) → keys_of (members_view es) ≡ map string_bytes (entry_keys es)
keys_of-members [] = refl
keys_of-members (e ∷ es) = ap (λ l. string_bytes e.0 ∷ l) (keys_of-members es)

list_all-map : {A B : Type 0} (p : B → Bool) (f : A → B) (xs : List A) → list_all p (map f xs) ≡ list_all (λ x. p (f x)) xs
list_all-map p f [] = refl
list_all-map p f (x ∷ xs) = ap (λ b. p (f x) && b) (list_all-map p f xs)

-- the keys of an object are those of its entries
pub has_only_object : (allowed : List ℕ → Bool) (d : Data) (es : List (String Global × Value)) → Some (members_view es) ≡ as_object d
    → has_only allowed d ≡ list_all (λ k. allowed (string_bytes k)) (entry_keys es)
has_only_object allowed null es h = cc
has_only_object allowed (boolean b) es h = cc
has_only_object allowed (number n) es h = cc
has_only_object allowed (string s) es h = cc
has_only_object allowed (array ds) es h = cc
has_only_object allowed (object ms) es h =
    let same : members_view es ≡ ms = cc in
    ap (list_all allowed) (ap keys_of (sym same) ∙ keys_of-members es) ∙ list_all-map allowed string_bytes (entry_keys es)
