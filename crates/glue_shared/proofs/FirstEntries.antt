-- The first entry of an id, by an index.
use Rattle.std.proofs.Common.{◌≡◌, ℕ, suc, ◌+◌, ◌<◌, ◌==◌, List, [], ◌∷◌, length, drop, get_or, Bool, true, false, cond, Option, Some, refl, sym, ap, ◌∙◌, arith, add-one, drop-cons}
use Rattle.std.specs.Prelude.{option_and_then, option_map, slice_get, find}
use Rattle.std.specs.Ordering.{nat_cmp, eq_by_cmp}
use Rattle.std.specs.Cmp.{nat_cmp_total}
use Rattle.std.specs.BTreeMap.{insert_entry}
use Rattle.std.proofs.lemmas.Bool.Decides.{nat_tests}
use Rattle.std.proofs.lemmas.List.{drop_all}
use Rattle.std.proofs.lemmas.Option.{slice_get_read}
use Rattle.values.specs.Map.{look_up}
use Rattle.values.proofs.Maps.{look_up_inserted}
use Rattle.wasm_core.specs.ids.ImportId.{ImportId}
use Rattle.glue_shared.specs.Indexed.{LeadsTo, GivesFirst}
use Rattle.glue_shared.specs.Names.{adapter_for}

-- no entry is led to by an index that has nothing
pub leads_to_none : {A : Type 0} (entries : List (ℕ × A)) → LeadsTo [] entries (drop (length entries) entries)
leads_to_none entries id = ap (find (λ e. e.0 == id)) (sym (drop_all (length entries) entries (omega arith)))

same_number : (q k : ℕ) → eq_by_cmp nat_cmp q k ≡ (k == q)
same_number q k = grind (arith, nat_tests)

taken : {X A : Type 0} (get : X → Option A) (b : Bool) (x : X) (rest : Option X) → option_and_then get (cond b (Some x) rest) ≡ cond b (get x) (option_and_then get rest)
taken get true x rest = refl
taken get false x rest = refl

-- one entry more, before the others
pub leads_to_more : {A : Type 0} (places : List (ℕ × ℕ)) (entries : List (ℕ × A)) (place : ℕ) (e : ℕ × A) → place < length entries → e ≡ get_or entries place e
    → LeadsTo places entries (drop (place + 1) entries) → LeadsTo (insert_entry nat_cmp places e.0 place) entries (drop place entries)
leads_to_more places entries place e within here leads id =
    let cut : drop place entries ≡ e ∷ drop (place + 1) entries =
    drop-cons entries place e within ∙ ap (λ x. x ∷ drop (suc place) entries) (sym here) ∙ ap (λ k. e ∷ drop k entries) (sym (add-one place)) in
    let there : slice_get entries place ≡ Some e = slice_get_read entries (length entries) place e refl within here in
    ap (option_and_then (slice_get entries)) (look_up_inserted nat_cmp nat_cmp_total places e.0 place id ∙ ap (λ b. cond b (Some place) (look_up nat_cmp places id)) (same_number id e.0))
    ∙ taken (slice_get entries) (e.0 == id) place (look_up nat_cmp places id)
    ∙ ap (λ o. cond (e.0 == id) o (option_and_then (slice_get entries) (look_up nat_cmp places id))) there
    ∙ ap (cond (e.0 == id) (Some e)) (leads id)
    ∙ ap (find (λ x. x.0 == id)) (sym cut)

-- ---- adapters of imports

-- an index that has nothing gives no pair
pub gives_none : (pairs : List (ImportId × ℕ)) → GivesFirst [] (drop (length pairs) pairs)
gives_none pairs place = ap (λ (ps : List (ImportId × ℕ)). adapter_for ps place) (sym (drop_all (length pairs) pairs (omega arith)))

named : {X A : Type 0} (f : X → A) (b : Bool) (x : X) (rest : Option X) → option_map f (cond b (Some x) rest) ≡ cond b (Some (f x)) (option_map f rest)
named f true x rest = refl
named f false x rest = refl

-- one pair more, before the others
pub gives_more : (adapters : List (ℕ × ℕ)) (pairs : List (ImportId × ℕ)) (place : ℕ) (pair : ImportId × ℕ) → place < length pairs → pair ≡ get_or pairs place pair
    → GivesFirst adapters (drop (place + 1) pairs) → GivesFirst (insert_entry nat_cmp adapters pair.0.0 pair.1) (drop place pairs)
gives_more adapters pairs place pair within here gives id =
    let cut : drop place pairs ≡ pair ∷ drop (place + 1) pairs =
    drop-cons pairs place pair within ∙ ap (λ x. x ∷ drop (suc place) pairs) (sym here) ∙ ap (λ k. pair ∷ drop k pairs) (sym (add-one place)) in
    let adapter = λ (p : ImportId × ℕ). p.1 in
    let rest = find (λ (p : ImportId × ℕ). p.0.0 == id) (drop (place + 1) pairs) in
    look_up_inserted nat_cmp nat_cmp_total adapters pair.0.0 pair.1 id
    ∙ ap (λ b. cond b (Some pair.1) (look_up nat_cmp adapters id)) (same_number id pair.0.0)
    ∙ ap (cond (pair.0.0 == id) (Some pair.1)) (gives id)
    ∙ sym (named adapter (pair.0.0 == id) pair rest)
    ∙ ap (λ (ps : List (ImportId × ℕ)). adapter_for ps id) (sym cut)
