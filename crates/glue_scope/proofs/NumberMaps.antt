-- What a tree with text keys has as a map from bytes.
use Rattle.std.proofs.Common.{◌≡◌, ℕ, List, [], ◌∷◌, refl, ap, sym, ◌∙◌, cond}
use Rattle.std.specs.Prelude.{String, Some, map}
use Rattle.std.specs.Global.{Global}
use Rattle.std.specs.BTreeMap.{BTreeMap, UpdatesBy, is_at, get_by_text}
use Rattle.std.specs.Map.{lookup}
use Rattle.std.specs.Ordering.{nat_cmp, eq_by_cmp}
use Rattle.std.specs.Cmp.Lexicographic.{slice_cmp, nat_list_cmp_total, nat_list_eq_equiv}
use Rattle.std.specs.FinMap as finite
use Rattle.std.specs.String.{string_bytes, string_cmp}
use Rattle.std.specs.Str.{bytes_eq}
use Rattle.std.proofs.lemmas.Map.Text.{btree_map_updates_text, is_eq-slice_cmp, text_cmp}
use Rattle.glue_scope.specs.Scope.{number_map}

find_text : (entries : List (String Global × ℕ)) (q : List ℕ) → finite.find (slice_cmp nat_cmp) q (map (λ e. (string_bytes e.0, e.1)) entries) ≡ lookup (is_at (text_cmp q)) entries
find_text [] q = refl
find_text (e ∷ es) q = ap (λ r. cond (eq_by_cmp (slice_cmp nat_cmp) q (string_bytes e.0)) (Some e.1) r) (find_text es q)

pub get_number_map : (entries : List (String Global × ℕ)) (q : List ℕ) → finite.get (number_map entries) q ≡ lookup (is_at (text_cmp q)) entries
get_number_map entries q = finite.get-from_entries nat_list_cmp_total _ q ∙ find_text entries q

bytes_eq_flip : (xs ys : List ℕ) → bytes_eq xs ys ≡ eq_by_cmp (slice_cmp nat_cmp) ys xs
bytes_eq_flip xs ys = nat_list_eq_equiv.symm xs ys ∙ sym (is_eq-slice_cmp ys xs)

pub number_map_insert : (bs : List ℕ) (m n : BTreeMap (String Global) ℕ) (v : ℕ) → UpdatesBy string_cmp (λ k. slice_cmp nat_cmp bs (string_bytes k)) m n (Some v) → number_map n.entries ≡ finite.insert (number_map m.entries) bs v
number_map_insert bs m n v u =
    finite.same_map nat_list_cmp_total (finite.slice_cmp-IsAntisymmetric finite.nat_cmp-IsAntisymmetric) _ _ (λ q.
    get_number_map n.entries q
    ∙ btree_map_updates_text bs m n (Some v) u q
    ∙ ap (λ b. cond b (Some v) (get_by_text m q)) (bytes_eq_flip bs q)
    ∙ ap (λ r. cond (eq_by_cmp (slice_cmp nat_cmp) q bs) (Some v) r) (sym (get_number_map m.entries q))
    ∙ sym (finite.get-insert nat_list_cmp_total (number_map m.entries) bs v q))
