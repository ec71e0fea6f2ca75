-- The names and producers that a file's custom sections give, and functions with these names.
use Rattle.std.proofs.Common.{◌≡◌, ℕ, suc, ◌+◌, Bool, true, false, List, [], ◌∷◌, ◌++◌, map, length, fold, Option, Some, None, refl, sym, ap, ◌∙◌, arith, eqb, zero-add}
use Rattle.std.specs.Prelude.{codes, if◌then◌else◌}
use Rattle.std.specs.List.{AllByRecursion, filter_map, enumerate_from}
use Rattle.wasm_types.specs.declared.ids.FuncId.{FuncId}
use Rattle.wasm_file.specs.Customs.{names_of, producers_of}
use Rattle.wasm_file.specs.declared.entries.Custom.{Custom}
use Rattle.wasm_file.specs.declared.entries.Names.{Names}
use Rattle.wasm_file_laws.specs.CustomFits.{IsName, FitsFuncName, FitsField, FitsFields}
use Rattle.wasm_file_laws.proofs.EntriesFit.{HasBytes}
use Rattle.wasm_file_laws.proofs.CustomsFit.{names_fit, producers_fit}
use Rattle.wasm_file_laws.proofs.EachItem.{all_weaker, all_both}
use Rattle.wasm_core.specs.declared.types.Func.{Func}
use Rattle.wasm_core.specs.Edits.{is_named}
use Rattle.wasm_core.specs.Parsing.{joined, names_in, later, merged, no_names, all_names, last_name, with_name, with_names, producers_in, all_producers}
use Rattle.wasm_core_laws.specs.ModuleFits.{IfThere}
use Rattle.wasm_core_laws.proofs.Everywhere.{all_kept, all_flat}
use Rattle.wasm_core_laws.proofs.Entries.{joined_some}

-- ---- names

-- a name of a module and names of functions that are names
abbrev pub AreNames : ℕ → Names → Type 0
AreNames funcs n = IsName n.«module» × AllByRecursion (FitsFuncName funcs) n.funcs

-- the later of two names
later_name : (x y : Option (List ℕ)) → IsName x → IsName y → IsName (later x y)
later_name x (Some y) h k = k
later_name x None h k = h

-- names and those of another section
merged_names : (funcs : ℕ) (n more : Names) → AreNames funcs n → AreNames funcs more → AreNames funcs (merged n more)
merged_names funcs n more h k = (later_name n.«module» more.«module» h.0 k.0, all_both (FitsFuncName funcs) n.funcs more.funcs h.1 k.1)

-- names and those of all other sections
all_merged : (funcs : ℕ) (n : Names) (xs : List Names) → AreNames funcs n → AllByRecursion (AreNames funcs) xs → AreNames funcs (fold merged n xs)
all_merged funcs n [] h k = h
all_merged funcs n (x ∷ xs) h k = all_merged funcs (merged n x) xs (merged_names funcs n x h k.0) k.1

-- of a value, where there is one
there_if : {A : Type 0} (P : A → Type 0) (o : Option A) → ((x : A) → o ≡ Some x → P x) → IfThere P o
there_if P (Some x) h = h x refl
there_if P None h = tt

-- what a section gives, where it is one and reads
if_named : {A : Type 0} (P : A → Type 0) (test : Bool) (o : Option A) → ((x : A) → o ≡ Some x → P x) → IfThere P (if test then o else None)
if_named P true o h = there_if P o h
if_named P false o h = tt

-- the names that all name sections give
pub are_names : (funcs : ℕ) (customs : List Custom) → AllByRecursion HasBytes customs → AreNames funcs (all_names funcs customs)
unfolding all_names
are_names funcs customs bytes = all_merged funcs no_names (filter_map (names_in funcs) customs) (tt, tt)
    (all_kept (AreNames funcs) (names_in funcs) customs (all_weaker HasBytes (λ c. IfThere (AreNames funcs) (names_in funcs c))
    (λ c h. if_named (AreNames funcs) (is_named (codes "name") c) (names_of funcs c.bytes) (λ n is. let fits = names_fit funcs c.bytes n h is in (fits.module_fits, fits.funcs_fit))) customs bytes))

-- the last name of a function
pub last_is_name : (funcs : ℕ) (names : List (FuncId × List ℕ)) (place : ℕ) → AllByRecursion (FitsFuncName funcs) names → IsName (last_name names place)
unfolding last_name
last_is_name funcs [] place h = tt
last_is_name funcs (n ∷ names) place h = later_name (if eqb n.0.0 place then Some n.1 else None) (last_name names place) (this (eqb n.0.0 place)) (last_is_name funcs names place h.1)
  where
    this : (b : Bool) → IsName (if b then Some n.1 else None)
    this true = h.0.1
    this false = tt

-- ---- producers

-- the fields that all producers sections give
pub are_producers : (customs : List Custom) → AllByRecursion HasBytes customs → FitsFields (all_producers customs)
unfolding all_producers
are_producers customs bytes = all_flat FitsField (λ fields. fields) (filter_map producers_in customs)
    (all_kept FitsFields producers_in customs (all_weaker HasBytes (λ c. IfThere FitsFields (producers_in c))
    (λ c h. if_named FitsFields (is_named (codes "producers") c) (producers_of c.bytes) (λ fields is. producers_fit c.bytes fields h is)) customs bytes))

-- ---- functions with names

-- a function with this name, as it was where none is given
abbrev pub named_func : Option (List ℕ) → Func → Func
named_func (Some name) f = record f { name = Some name }
named_func None f = f

-- functions from a place on, with the last names that are given to them
abbrev pub named_from : List (FuncId × List ℕ) → ℕ → List Func → List Func
named_from names from [] = []
named_from names from (f ∷ fs) = named_func (last_name names from) f ∷ named_from names (from + 1) fs

-- a function that is there
with_some : (name : Option (List ℕ)) (f : Func) → with_name name (Some f) ≡ Some (named_func name f)
with_some (Some name) f = refl
with_some None f = refl

-- functions that are all there
named_all : (names : List (FuncId × List ℕ)) (from : ℕ) (fs : List Func) → map (λ p. with_name (last_name names p.0) p.1) (enumerate_from from (map Some fs)) ≡ map Some (named_from names from fs)
named_all names from [] = refl
named_all names from (f ∷ fs) = ap (λ x. x ∷ map (λ p. with_name (last_name names p.0) p.1) (enumerate_from (from + 1) (map Some fs))) (with_some (last_name names from) f) ∙ ap (λ xs. Some (named_func (last_name names from) f) ∷ xs) (named_all names (from + 1) fs)

-- functions and others behind them
named_both : (names : List (FuncId × List ℕ)) (from : ℕ) (fs gs : List Func) → named_from names from (fs ++ gs) ≡ named_from names from fs ++ named_from names (from + length fs) gs
named_both names from [] gs = let e : from + 0 ≡ from = omega arith in rw e refl
named_both names from (f ∷ fs) gs = let e : from + 1 + length fs ≡ from + suc (length fs) = omega arith in ap (λ xs. named_func (last_name names from) f ∷ xs) (named_both names (from + 1) fs gs ∙ ap (λ k. named_from names (from + 1) fs ++ named_from names k gs) e)

-- imported functions and others, with names
pub names_joined : (names : List (FuncId × List ℕ)) (fs gs : List Func) → with_names names (joined fs gs) ≡ joined (named_from names 0 fs) (named_from names (length fs) gs)
unfolding with_names
names_joined names fs gs =
    ap (λ xs. map (λ p. with_name (last_name names p.0) p.1) (enumerate_from 0 xs)) (joined_some fs gs) ∙ named_all names 0 (fs ++ gs)
    ∙ ap (map Some) (named_both names 0 fs gs ∙ ap (λ k. named_from names 0 fs ++ named_from names k gs) (zero-add (length fs)))
    ∙ sym (joined_some (named_from names 0 fs) (named_from names (length fs) gs))

-- what a name keeps holds of each, where it holds without names
pub all_named : (P Q : Func → Type 0) (names : List (FuncId × List ℕ)) → ((place : ℕ) (f : Func) → P f → Q (named_func (last_name names place) f)) → (from : ℕ) (fs : List Func) → AllByRecursion P fs → AllByRecursion Q (named_from names from fs)
all_named P Q names keeps from [] h = tt
all_named P Q names keeps from (f ∷ fs) h = (keeps from f h.0, all_named P Q names keeps (from + 1) fs h.1)

-- what a name leaves as it is
pub map_named : {B : Type 0} (g : Func → B) (names : List (FuncId × List ℕ)) → ((name : Option (List ℕ)) (f : Func) → g (named_func name f) ≡ g f) → (from : ℕ) (fs : List Func) → map g (named_from names from fs) ≡ map g fs
map_named g names keeps from [] = refl
map_named g names keeps from (f ∷ fs) = ap (λ x. x ∷ map g (named_from names (from + 1) fs)) (keeps (last_name names from) f) ∙ ap (λ xs. g f ∷ xs) (map_named g names keeps (from + 1) fs)
