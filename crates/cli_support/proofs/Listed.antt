-- Lists of names and keys: in order of bytes each once, and joined.
use Rattle.std.proofs.Common.{◌≡◌, inl, inr, ℕ, zero, suc, Bool, true, List, [], ◌∷◌, refl, sym, ap, ◌∙◌, subst, arith, nat_eq}
use Rattle.std.specs.Prelude.{Some, None, ◌++◌, map}
use Rattle.std.specs.List.{Contains, filter, flat_map}
use Rattle.std.specs.List.Sorted.{IsPermutation, IsSorted}
use Rattle.std.specs.List.Retain.{IsFiltered, DiffersFromLast}
use Rattle.std.specs.Ordering.{nat_cmp}
use Rattle.std.specs.Cmp.Lexicographic.{pointwise, slice_cmp, texts_ties, nat_list_cmp_total, nat_list_eq_equiv}
use Rattle.std.proofs.lemmas.List.Filters.{dedup_is}
use Rattle.std.proofs.lemmas.List.Kept.{IsStrictlySortedBy-dedup, Contains-dedup, Contains-from_dedup}
use Rattle.std.proofs.lemmas.List.Sorted.{Contains-permutation, IsPermutation-sym}
use Rattle.std.proofs.lemmas.Slice.Eq.{bytes_eq-Decides}
use Rattle.values.specs.Lists.{IsIn}
use Rattle.cli_support.specs.Listed.{IsSortedSet}
use Rattle.std.proofs.lemmas.List.{append-nil, append_assoc}
use Rattle.std.proofs.lemmas.List.Elements.{filter-append}
use Rattle.std.proofs.lemmas.List.Folds.{flat_map-map}
use Rattle.std.proofs.lemmas.Grind.{flat_map-append}
use Rattle.glue_words.specs.Limits.{is_computed}
use Rattle.glue_names.specs.Taken.{brought}
use Rattle.glue_context.specs.Keys.{import_properties, imported_properties, other_properties, member_name, described_keys}
use Rattle.glue_shared.specs.declared.aux.WasmBindgenAux.{WasmBindgenAux}
use Rattle.glue_shared.specs.declared.import.AuxImport.{AuxImport}
use Rattle.glue_shared.specs.declared.import.JsImport.{JsImport}
use Rattle.glue_shared.specs.declared.names.TheConstants.{HOSTS}
use Rattle.glue_shared.specs.declared.settings.Settings.{Settings}
use Rattle.glue_shared.specs.Names.{names_of, js_import, described_names, described_hosts, target_hosts, inspect_names, host_names}

-- ---- in order, each once

module _ {A : Type 0} where
  in_of_contains : (xs : List A) (x : A) → Contains xs x → IsIn x xs
  in_of_contains [] x (k, within, here) = absurd (omega (arith, within))
  in_of_contains (y ∷ xs) x (zero, within, here) = inl (sym here)
  in_of_contains (y ∷ xs) x (suc k, within, here) = inr (in_of_contains xs x (k, omega (arith, within), here))

  contains_of_in : (xs : List A) (x : A) → IsIn x xs → Contains xs x
  contains_of_in [] x h = absurd h
  contains_of_in (y ∷ xs) x (inl same) = (zero, omega arith, sym same)
  contains_of_in (y ∷ xs) x (inr h) = let k = contains_of_in xs x h in (suc k.0, omega (arith, k.1), k.2)

-- texts that `==` holds of are one
same_text : (x y : List ℕ) → pointwise nat_eq x y ≡ true → x ≡ y
same_text x y h = (bytes_eq-Decides x y).0 h

-- texts that are sorted, and then without those that equal the one before
pub sorted_is : (texts sorted kept : List (List ℕ)) → IsPermutation texts sorted → IsSorted (slice_cmp nat_cmp) sorted
    → IsFiltered (DiffersFromLast (pointwise nat_eq)) [] sorted kept → IsSortedSet texts kept
sorted_is texts sorted kept moved rises filtered =
    let is = dedup_is (pointwise nat_eq) sorted kept filtered in
    subst (IsSortedSet texts) (sym is) (record {
      rises = IsStrictlySortedBy-dedup nat_list_cmp_total texts_ties sorted rises;
      only = λ text h. in_of_contains texts text (Contains-permutation sorted texts text (IsPermutation-sym texts sorted moved) (Contains-from_dedup (pointwise nat_eq) sorted text (contains_of_in _ text h)));
      all = λ text h. in_of_contains _ text (Contains-dedup nat_list_eq_equiv same_text sorted text (Contains-permutation texts sorted text moved (contains_of_in texts text h)));
    })

-- ---- names of the outside

-- what an import brings where it begins with a name, and where it begins with none
pub brought_some : (omitted : Bool) (what : AuxImport) (js : JsImport) → js_import what ≡ Some js → brought omitted what ≡ described_hosts omitted js.name
brought_some omitted what js h = ap (λ o. flat_map (described_hosts omitted) (names_of o)) h ∙ append-nil (described_hosts omitted js.name)

pub brought_none : (omitted : Bool) (what : AuxImport) → js_import what ≡ None → brought omitted what ≡ []
brought_none omitted what h = ap (λ o. flat_map (described_hosts omitted) (names_of o)) h

flat_twice : {A B C : Type 0} (f : B → List C) (g : A → List B) (xs : List A) → flat_map f (flat_map g xs) ≡ flat_map (λ x. flat_map f (g x)) xs
flat_twice f g [] = refl
flat_twice f g (x ∷ xs) = flat_map-append f (g x) (flat_map g xs) ∙ ap (λ ys. flat_map f (g x) ++ ys) (flat_twice f g xs)

-- what the described names bring is what imports bring, and then what re-exports bring
described_both : (omitted : Bool) (aux : WasmBindgenAux) → flat_map (described_hosts omitted) (described_names aux)
    ≡ flat_map (λ i. brought omitted i.1) aux.imports ++ flat_map (λ r. described_hosts omitted r.1.name) aux.reexports
described_both omitted aux =
    let f = described_hosts omitted in
    let names = map (λ r. r.1.name) aux.reexports in
    flat_map-append f (flat_map (λ i. names_of (js_import i.1)) aux.imports) names
    ∙ ap (λ ys. ys ++ flat_map f names) (flat_twice f (λ i. names_of (js_import i.1)) aux.imports)
    ∙ ap (λ ys. flat_map (λ i. brought omitted i.1) aux.imports ++ ys) (flat_map-map f (λ r. r.1.name) aux.reexports)

-- the names of the outside, one list behind another
hosts_joined : (settings : Settings) (aux : WasmBindgenAux) (before : List (List ℕ))
    → ((((before ++ map (λ w. w.now) HOSTS) ++ target_hosts settings.target) ++ flat_map (λ i. brought settings.omit_imports i.1) aux.imports)
    ++ flat_map (λ r. described_hosts settings.omit_imports r.1.name) aux.reexports) ++ inspect_names settings aux
    ≡ before ++ host_names settings aux
unfolding host_names
hosts_joined settings aux before =
    let omitted = settings.omit_imports in
    let common = map (λ w. w.now) HOSTS in
    let own = target_hosts settings.target in
    let imported = flat_map (λ i. brought omitted i.1) aux.imports in
    let reexported = flat_map (λ r. described_hosts omitted r.1.name) aux.reexports in
    let rest = inspect_names settings aux in
    append_assoc (((before ++ common) ++ own) ++ imported) reexported rest
    ∙ append_assoc ((before ++ common) ++ own) imported (reexported ++ rest)
    ∙ append_assoc (before ++ common) own (imported ++ (reexported ++ rest))
    ∙ append_assoc before common (own ++ (imported ++ (reexported ++ rest)))
    ∙ ap (λ ys. before ++ (common ++ (own ++ ys))) (sym (ap (λ ys. ys ++ rest) (described_both omitted aux) ∙ append_assoc imported reexported rest))

-- the lists are pushed one behind another
pub hosts_pushed : (settings : Settings) (aux : WasmBindgenAux) (imports : List (ℕ × AuxImport)) (reexports : List (List ℕ × JsImport × Bool))
    (before common own imported reexported : List (List ℕ)) → imports ≡ aux.imports → reexports ≡ aux.reexports
    → common ≡ before ++ map (λ w. w.now) HOSTS → own ≡ common ++ target_hosts settings.target
    → imported ≡ own ++ flat_map (λ i. brought settings.omit_imports i.1) imports
    → reexported ≡ imported ++ flat_map (λ r. described_hosts settings.omit_imports r.1.name) reexports
    → reexported ++ inspect_names settings aux ≡ before ++ host_names settings aux
hosts_pushed settings aux imports reexports before common own imported reexported all others is_common is_own is_imported is_reexported =
    let by_imports : List (ℕ × AuxImport) → List (List ℕ) = flat_map (λ i. brought settings.omit_imports i.1) in
    let by_reexports : List (List ℕ × JsImport × Bool) → List (List ℕ) = flat_map (λ r. described_hosts settings.omit_imports r.1.name) in
    let own_is = is_own ∙ ap (λ ys. ys ++ target_hosts settings.target) is_common in
    let imported_is = is_imported ∙ ap (λ xs. own ++ by_imports xs) all ∙ ap (λ ys. ys ++ by_imports aux.imports) own_is in
    let reexported_is = is_reexported ∙ ap (λ xs. imported ++ by_reexports xs) others ∙ ap (λ ys. ys ++ by_reexports aux.reexports) imported_is in
    ap (λ ys. ys ++ inspect_names settings aux) reexported_is ∙ hosts_joined settings aux before

-- ---- computed keys

-- a filter keeps of a list with one more item what it keeps of both
pub filter_behind : (p : List ℕ → Bool) (names : List (List ℕ)) (name : List ℕ) → filter p (names ++ name ∷ []) ≡ filter p names ++ filter p (name ∷ [])
filter_behind p names name = filter-append p names (name ∷ [])

filter_flat : {A : Type 0} (p : List ℕ → Bool) (f : A → List (List ℕ)) (xs : List A) → filter p (flat_map f xs) ≡ flat_map (λ x. filter p (f x)) xs
filter_flat p f [] = refl
filter_flat p f (x ∷ xs) = filter-append p (f x) (flat_map f xs) ∙ ap (λ ys. filter p (f x) ++ ys) (filter_flat p f xs)

-- the computed keys, one list behind another
pub keys_joined : (aux : WasmBindgenAux) (before : List (List ℕ))
    → ((before ++ flat_map (λ e. filter is_computed (import_properties e.1)) aux.imports) ++ flat_map (λ r. filter is_computed r.1.fields) aux.reexports)
    ++ flat_map (λ e. filter is_computed (member_name e.class e)) aux.exports
    ≡ before ++ described_keys aux
keys_joined aux before =
    let imported = flat_map (λ e. filter is_computed (import_properties e.1)) aux.imports in
    let reexported = flat_map (λ r. filter is_computed r.1.fields) aux.reexports in
    let members = flat_map (λ e. filter is_computed (member_name e.class e)) aux.exports in
    let others : filter is_computed (other_properties aux) ≡ reexported ++ members =
    filter-append is_computed (flat_map (λ r. r.1.fields) aux.reexports) (flat_map (λ e. member_name e.class e) aux.exports)
    ∙ ap (λ ys. ys ++ filter is_computed (flat_map (λ e. member_name e.class e) aux.exports)) (filter_flat is_computed (λ r. r.1.fields) aux.reexports)
    ∙ ap (λ ys. reexported ++ ys) (filter_flat is_computed (λ e. member_name e.class e) aux.exports) in
    append_assoc (before ++ imported) reexported members
    ∙ append_assoc before imported (reexported ++ members)
    ∙ ap (λ ys. before ++ ys) (sym (filter-append is_computed (imported_properties aux) (other_properties aux)
    ∙ ap (λ ys. ys ++ filter is_computed (other_properties aux)) (filter_flat is_computed (λ e. import_properties e.1) aux.imports)
    ∙ ap (λ ys. imported ++ ys) others))
