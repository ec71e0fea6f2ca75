-- The names of functions by their numbers: they fit, they rise, and each is given to its function again.
use Rattle.std.proofs.Common.{◌≡◌, ℕ, zero, suc, ◌+◌, ◌<◌, ◌≤◌, ◌^◌, Bool, true, false, not, List, [], ◌∷◌, ◌++◌, map, length, take, count_by, filter, filter_map, Option, Some, None, slice_get, if◌then◌else◌, refl, sym, ap, ap₂, ◌∙◌, arith, inl, inr, le-leb, ne_eqb, eq-eqb}
use Rattle.std.specs.List.{AllByRecursion, cons_option, enumerate_from}
use Rattle.std.proofs.lemmas.Bool.{cases_Bool, not-true}
use Rattle.std.proofs.lemmas.List.Elements.{filter_map-append}
use Rattle.std.proofs.lemmas.Option.{none-some, same_Some}
use Rattle.wasm_ops.specs.Numbers.{number_at}
use Rattle.wasm_types.specs.declared.ids.FuncId.{FuncId}
use Rattle.wasm_file.specs.Customs.{rise_from}
use Rattle.wasm_file_laws.specs.CustomFits.{IsName, FitsFuncName, FitsNames}
use Rattle.wasm_file_laws.proofs.EachItem.{all_both, all_weaker}
use Rattle.wasm_core.specs.declared.types.Func.{Func}
use Rattle.wasm_core.specs.Contents.{Contents}
use Rattle.wasm_emission.specs.Emission.{live, with_number, is_asked, name_at, func_names, file_names}
use Rattle.wasm_core.specs.Parsing.{later, last_name, with_name, with_names, no_names}
use Rattle.wasm_collect.specs.Reach.{entry_of}
use Rattle.wasm_emission.specs.Renumbering.{is_first, is_other, numbers, numbering}
use Rattle.wasm_core_laws.specs.Again.{IsWithinLimits, in_order, all_there, func_again, if_wanted}
use Rattle.wasm_core_laws.specs.ModuleFits.{FitsFunc, IsModule, func_imported}
use Rattle.wasm_core_laws.proofs.FiledCounts.{counts_are}
use Rattle.wasm_core_laws.proofs.Numbers.{passing_counted, number_is}
use Rattle.wasm_core_laws.proofs.Everywhere.{all_passing, counted_more}
use Rattle.wasm_core_laws.proofs.Entries.{all_live}

-- ---- names in the order of their numbers

-- a number with the name of its function, where that has one
abbrev named : ℕ × Func → Option (FuncId × List ℕ)
named (i, f) = with_number i f.name

-- the names of functions that are numbered from a number on
abbrev names_from : ℕ → List Func → List (FuncId × List ℕ)
names_from k fs = filter_map named (enumerate_from k fs)

-- whether a function is imported, or isn't, as is asked
abbrev asked : Bool → Func → Bool
asked imported f = is_asked imported f.«import»

-- names by numbers that count on from k are the names of the functions that are asked for
among : (ns : List ℕ) (imported : Bool) (i k : ℕ) (xs : List (Option Func))
    → ((j : ℕ) (f : Func) → slice_get xs j ≡ Some (Some f) → asked imported f ≡ true → number_at ns (i + j) ≡ k + count_by (is_first (asked imported)) (take j xs))
    → filter_map (name_at ns imported) (enumerate_from i xs) ≡ names_from k (filter (asked imported) (live xs))
among ns imported i k [] counted = refl
among ns imported i k (None ∷ xs) counted =
    among ns imported (i + 1) k xs (λ j f here is.
    let e : i + 1 + j ≡ i + suc j = omega arith in
    ap (number_at ns) e ∙ counted (suc j) f here is)
among ns imported i k (Some f ∷ xs) counted = elim (cases_Bool (asked imported f)) [
  | inl here_asked ↦
      let first : i + 0 ≡ i = omega arith in
      let none : k + 0 ≡ k = omega arith in
      let here : number_at ns i ≡ k = ap (number_at ns) (sym first) ∙ counted 0 f refl here_asked ∙ none in
      let rest = among ns imported (i + 1) (k + 1) xs (λ j g there is.
      let e : i + 1 + j ≡ i + suc j = omega arith in
      let one : count_by (is_first (asked imported)) (Some f ∷ take j xs) ≡ 1 + count_by (is_first (asked imported)) (take j xs) =
      counted_more (is_first (asked imported)) true (Some f) (take j xs) here_asked in
      let more : k + (1 + count_by (is_first (asked imported)) (take j xs)) ≡ k + 1 + count_by (is_first (asked imported)) (take j xs) = omega arith in
      ap (number_at ns) e ∙ counted (suc j) g there is ∙ ap (λ c. k + c) one ∙ more) in
      rw (here_asked, here) (ap (cons_option (with_number k f.name)) rest)
  | inr not_asked ↦
      let rest = among ns imported (i + 1) k xs (λ j g there is.
      let e : i + 1 + j ≡ i + suc j = omega arith in
      let none : count_by (is_first (asked imported)) (Some f ∷ take j xs) ≡ count_by (is_first (asked imported)) (take j xs) =
      counted_more (is_first (asked imported)) false (Some f) (take j xs) not_asked ∙ omega arith in
      ap (number_at ns) e ∙ counted (suc j) g there is ∙ ap (λ c. k + c) none) in
      rw not_asked rest
]

-- the places of one list behind another go on from its length
enumerate-append : {A : Type 0} (k : ℕ) (xs ys : List A) → enumerate_from k (xs ++ ys) ≡ enumerate_from k xs ++ enumerate_from (k + length xs) ys
enumerate-append k [] ys = let e : k ≡ k + 0 = omega arith in ap (λ (i : ℕ). enumerate_from i ys) e
enumerate-append k (x ∷ xs) ys =
    let e : k + 1 + length xs ≡ k + suc (length xs) = omega arith in
    ap (λ ps. (k, x) ∷ ps) (enumerate-append (k + 1) xs ys ∙ ap (λ (i : ℕ). enumerate_from (k + 1) xs ++ enumerate_from i ys) e)

-- The names of live functions in the order of their numbers.
names_in_order : (funcs : List (Option Func)) → func_names (numbers func_imported funcs) funcs ≡ names_from 0 (in_order func_imported funcs)
unfolding func_names
names_in_order funcs =
    let ns = numbers func_imported funcs in
    let firsts : List Func = filter func_imported (live funcs) in
    let others : List Func = filter (λ f. not (func_imported f)) (live funcs) in
    let imported = among ns true 0 0 funcs (λ j f here is.
    let number = number_is func_imported funcs j f (ap entry_of here) in
    let e : 0 + j ≡ j = omega arith in
    let from : count_by (is_first func_imported) (take j funcs) ≡ 0 + count_by (is_first func_imported) (take j funcs) = omega arith in
    ap (number_at ns) e ∙ rw is at number ∙ from) in
    let own = among ns false 0 (0 + length firsts) funcs (λ j f here is.
    let number = number_is func_imported funcs j f (ap entry_of here) in
    let e : 0 + j ≡ j = omega arith in
    let not_first = not-true (func_imported f) is in
    let from : count_by (is_first func_imported) funcs ≡ 0 + length firsts = omega (arith, passing_counted func_imported (is_first func_imported) refl (λ f. refl) funcs) in
    ap (number_at ns) e ∙ rw not_first at number ∙ ap (λ c. c + count_by (is_other func_imported) (take j funcs)) from) in
    ap₂ (λ a b. a ++ b) imported own ∙ sym (filter_map-append named (enumerate_from 0 firsts) (enumerate_from (0 + length firsts) others)) ∙ ap (filter_map named) (sym (enumerate-append 0 firsts others))

-- ---- they fit

-- names of functions that are numbered one after another rise
rises : (least k : ℕ) (fs : List Func) → least ≤ k → rise_from least (names_from k fs) ≡ true
rises least k [] le = refl
rises least k (f ∷ fs) le = one f.name (names_from (k + 1) fs) (rises least (k + 1) fs (omega arith)) (rises (k + 1) (k + 1) fs (omega arith))
  where
    one : (name : Option (List ℕ)) (rest : List (FuncId × List ℕ)) → rise_from least rest ≡ true → rise_from (k + 1) rest ≡ true → rise_from least (cons_option (with_number k name) rest) ≡ true
    one None rest without behind = without
    one (Some name) rest without behind = rw (le-leb least k le) behind

-- names of functions fit, where their numbers are below a count
fit : (count k : ℕ) (fs : List Func) → count < 2 ^ 32 → k + length fs ≤ count → AllByRecursion (λ (f : Func). IsName f.name) fs → AllByRecursion (FitsFuncName count) (names_from k fs)
fit count k [] few within fits = tt
fit count k (f ∷ fs) few within fits = one f.name (names_from (k + 1) fs) fits.0 (fit count (k + 1) fs few (omega arith) fits.1)
  where
    one : (name : Option (List ℕ)) (rest : List (FuncId × List ℕ)) → IsName name → AllByRecursion (FitsFuncName count) rest → AllByRecursion (FitsFuncName count) (cons_option (with_number k name) rest)
    one None rest is all = all
    one (Some name) rest is all = (((omega arith, omega arith), is), all)

-- 32 bits count the functions
few_funcs : (m : Contents) → IsModule m → IsWithinLimits m → length (in_order func_imported m.funcs) < 2 ^ 32
few_funcs m is within = omega (arith, (counts_are m (numbering m) is.order).funcs, within.few.funcs_few)

-- The names that the file gives fit its functions.
pub names_fit : (m : Contents) → IsModule m → IsWithinLimits m → FitsNames (length (in_order func_imported m.funcs)) (file_names m (numbering m))
unfolding numbering
names_fit m is within =
    let HasName : Func → Type 0 = λ f. IsName f.name in
    let funcs : List Func = live m.funcs in
    let fits = all_weaker (FitsFunc m) HasName (λ f fits. fits.name_fits) funcs (all_live (FitsFunc m) m.funcs is.funcs) in
    let ordered = all_both HasName (filter func_imported funcs) (filter (λ f. not (func_imported f)) funcs) (all_passing HasName func_imported funcs fits) (all_passing HasName (λ f. not (func_imported f)) funcs fits) in
    let same = names_in_order m.funcs in
    record {
      module_fits = is.name;
      funcs_fit = rw same (fit _ 0 (in_order func_imported m.funcs) (few_funcs m is within) (omega arith) ordered);
      funcs_rise = rw same (rises 0 0 (in_order func_imported m.funcs) (omega arith));
    }

-- ---- they are given again

-- what comes later than nothing
pub later-none : {A : Type 0} (o : Option A) → later None o ≡ o
later-none None = refl
later-none (Some x) = refl

-- no later number is an earlier one's
last_none : (k place : ℕ) (fs : List Func) → place < k → last_name (names_from k fs) place ≡ None
unfolding last_name
last_none k place [] lt = refl
last_none k place (f ∷ fs) lt = one f.name (names_from (k + 1) fs) (last_none (k + 1) place fs (omega arith))
  where
    one : (name : Option (List ℕ)) (rest : List (FuncId × List ℕ)) → last_name rest place ≡ None → last_name (cons_option (with_number k name) rest) place ≡ None
    one None rest none = none
    one (Some name) rest none = rw (ne_eqb k place (λ e. absurd (omega arith)), none) refl

-- the function of a number has its own name
last_is : (k j : ℕ) (fs : List Func) (f : Func) → slice_get fs j ≡ Some f → last_name (names_from k fs) (k + j) ≡ f.name
unfolding last_name
last_is k j [] f here = absurd (none-some f here)
last_is k zero (g ∷ fs) f here =
    let e : k + 0 ≡ k = omega arith in
    rw e (one g.name (names_from (k + 1) fs) (last_none (k + 1) k fs (omega arith)) ∙ ap (λ (f : Func). f.name) (same_Some g f here))
  where
    one : (name : Option (List ℕ)) (rest : List (FuncId × List ℕ)) → last_name rest k ≡ None → last_name (cons_option (with_number k name) rest) k ≡ name
    one None rest none = none
    one (Some name) rest none = rw (eq-eqb k k refl, none) refl
last_is k (suc j) (g ∷ fs) f here =
    let e : k + 1 + j ≡ k + suc j = omega arith in
    one g.name (names_from (k + 1) fs) ∙ ap (last_name (names_from (k + 1) fs)) (sym e) ∙ last_is (k + 1) j fs f here
  where
    one : (name : Option (List ℕ)) (rest : List (FuncId × List ℕ)) → last_name (cons_option (with_number k name) rest) (k + suc j) ≡ last_name rest (k + suc j)
    one None rest = refl
    one (Some name) rest = rw (ne_eqb k (k + suc j) (λ e. absurd (omega arith))) (later-none (last_name rest (k + suc j)))

-- functions without names are those with names, once the names are given
given : (names : List (FuncId × List ℕ)) (bare whole : Func → Func) (k : ℕ) (fs : List Func)
    → ((j : ℕ) (f : Func) → slice_get fs j ≡ Some f → with_name (last_name names (k + j)) (Some (bare f)) ≡ Some (whole f))
    → map (λ p. with_name (last_name names p.0) p.1) (enumerate_from k (all_there bare fs)) ≡ all_there whole fs
given names bare whole k [] at_place = refl
given names bare whole k (f ∷ fs) at_place =
    let e : k ≡ k + 0 = omega arith in
    ap₂ (λ x xs. x ∷ xs) (ap (λ (i : ℕ). with_name (last_name names i) (Some (bare f))) e ∙ at_place 0 f refl)
    (given names bare whole (k + 1) fs (λ j g here.
    let next : k + 1 + j ≡ k + suc j = omega arith in
    ap (λ (i : ℕ). with_name (last_name names i) (Some (bare g))) next ∙ at_place (suc j) g here))

-- a function without a name
abbrev unnamed : Func → Func
unnamed f = record f { name = None }

-- a name that is given is the function's
renamed : (f : Func) (name : Option (List ℕ)) → with_name name (Some (unnamed f)) ≡ Some (record f { name = name })
renamed f None = refl
renamed f (Some name) = refl

-- each function gets its name again, or none, where none are wanted
by_wanted : (m : Contents) (wanted : Bool) → m.config.names ≡ wanted
    → with_names (if wanted then file_names m (numbering m) else no_names).funcs (all_there (λ f. unnamed (func_again m f)) (in_order func_imported m.funcs)) ≡ all_there (func_again m) (in_order func_imported m.funcs)
unfolding numbering with_names last_name
by_wanted m true is =
    let fs = in_order func_imported m.funcs in
    rw (names_in_order m.funcs) (given (names_from 0 fs) (λ f. unnamed (func_again m f)) (func_again m) 0 fs (λ j f here.
    let kept : f.name ≡ if_wanted m.config.names f.name = rw is refl in
    ap (λ o. with_name o (Some (unnamed (func_again m f)))) (last_is 0 j fs f here) ∙ renamed (func_again m f) f.name ∙ ap (λ o. Some (record (func_again m f) { name = o })) kept))
by_wanted m false is =
    given [] (λ f. unnamed (func_again m f)) (func_again m) 0 (in_order func_imported m.funcs) (λ j f here.
    let dropped : None ≡ if_wanted m.config.names f.name = rw is refl in
    ap (λ o. Some (record (func_again m f) { name = o })) dropped)

-- Each function gets its name again, where names are wanted.
pub funcs_named_again : (m : Contents) → with_names (if m.config.names then file_names m (numbering m) else no_names).funcs (all_there (λ f. record (func_again m f) { name = None }) (in_order func_imported m.funcs)) ≡ all_there (func_again m) (in_order func_imported m.funcs)
funcs_named_again m = by_wanted m m.config.names refl
