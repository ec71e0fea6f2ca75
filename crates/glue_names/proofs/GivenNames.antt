-- Given names: of modules none where imports are kept, and the first that is met by those that are taken.
use Rattle.std.proofs.Common.{◌≡◌, ℕ, List, [], ◌∷◌, ◌++◌, map, Bool, true, false, true≢false, ◌||◌, cond, Some, None, ◌⊎◌, refl, sym, ap, ◌∙◌, inl, inr, append-nil}
use Rattle.std.specs.Prelude.{option_map}
use Rattle.std.specs.Str.{bytes_eq}
use Rattle.std.specs.FinSet as set
use Rattle.std.proofs.lemmas.List.Folds.{list_any-append}
use Rattle.std.proofs.lemmas.Slice.Eq.{bytes_eq-Decides}
use Rattle.values.specs.Lists.{AreDistinct, IsIn}
use Rattle.values.specs.TextSet.{TextSet, with_texts}
use Rattle.values.proofs.Members.{in_left, in_right, in_either}
use Rattle.wasm_core.specs.Contents.{Contents}
use Rattle.glue_scope.proofs.Drawn.{with_texts-append}
use Rattle.glue_shared.specs.declared.aux.WasmBindgenAux.{WasmBindgenAux}
use Rattle.glue_shared.specs.declared.import.JsImportName.{JsImportName}
use Rattle.glue_shared.specs.declared.import.JsImportName.TheVariants as js
use Rattle.glue_shared.specs.declared.description.Lowered.{Lowered}
use Rattle.glue_shared.specs.declared.settings.Settings.{Settings}
use Rattle.glue_shared.specs.Names.{described_hosts, described_names, fixed_names, host_names, is_one_of}
use Rattle.glue_faults.specs.declared.fault.Fault.TheVariants as faults
use Rattle.glue_faults.specs.Clash.{first_clash_after, first_told}
use Rattle.glue_faults.proofs.Clashes.{told_more}
use Rattle.glue_faults.proofs.First.{neither, not_here}
use Rattle.glue_names.specs.Given.{closure_names, given_names, kept, other_names, values_name}
use Rattle.glue_names.specs.Naming.{given_clash, one_word}
use Rattle.glue_names.specs.Omitted.{begun, omitted_name, omitted_names, reexported}
use Rattle.glue_names.specs.Once.{each_new, each_once, has_name}
use Rattle.glue_names.specs.Taken.{taken_names}
use Rattle.glue_names.proofs.EachOnce.{name_in, new_has, once_has}
use Rattle.glue_names.proofs.Globals.{in_flat}
use Rattle.glue_names.proofs.TakenNames.{in_set, or_false}

-- ---- where imports are kept

none_omitted : (omitted : Bool) (names : List JsImportName) → omitted ≡ false → omitted_names omitted names ≡ []
none_omitted true names h = cc
none_omitted false [] h = refl
none_omitted false (js.Global name ∷ names) h = none_omitted false names h
none_omitted false (js.Module from name ∷ names) h = none_omitted false names h
none_omitted false (js.LocalModule from name ∷ names) h = none_omitted false names h
none_omitted false (js.InlineJs from index name ∷ names) h = none_omitted false names h
none_omitted false (js.VendorPrefixed name prefixes ∷ names) h = none_omitted false names h

-- no name from a module is added
pub none_pushed : (omitted : Bool) (names : List JsImportName) (list : List (List ℕ)) → omitted ≡ false → list ≡ list ++ omitted_names omitted names
none_pushed omitted names list h =
    sym (ap (λ (others : List (List ℕ)). list ++ others) (none_omitted omitted names h) ∙ append-nil list)

-- ---- the first that is taken or an earlier one

-- a set holds what is in a list
abbrev HoldsAll : TextSet → List (List ℕ) → Type 0
HoldsAll told before = (name : List ℕ) → set.contains told name ≡ is_one_of before name

one_more : (told : TextSet) (before : List (List ℕ)) (name : List ℕ) → HoldsAll told before → HoldsAll (with_texts told (name ∷ [])) (name ∷ before)
one_more told before name h other =
    told_more told (name ∷ []) other
    ∙ ap (λ (b : Bool). b || set.contains told other) (or_false (bytes_eq name other))
    ∙ ap (λ (b : Bool). bytes_eq name other || b) (h other)

told_is_after : (told : TextSet) (before names : List (List ℕ)) → HoldsAll told before
    → first_told one_word one_word told names ≡ first_clash_after bytes_eq before names
told_is_after told before [] h = refl
told_is_after told before (name ∷ names) h =
    ap (λ (b : Bool). cond b (Some name) (first_told one_word one_word (with_texts told (name ∷ [])) names)) (or_false (set.contains told name) ∙ h name)
    ∙ ap (cond (is_one_of before name) (Some name)) (told_is_after (with_texts told (name ∷ [])) (name ∷ before) names (one_more told before name h))

fixed_kept : (s : Settings) (m : Contents) → fixed_names (kept s) m ≡ fixed_names s m
unfolding fixed_names
fixed_kept s m = refl

pub taken_are : (s others : Settings) (l : Lowered) → others ≡ kept s → taken_names others l ≡ with_texts set.empty (other_names s l)
taken_are s others l is =
    ap (λ (o : Settings). taken_names o l) is
    ∙ ap (with_texts (with_texts set.empty (host_names (kept s) l.aux))) (fixed_kept s l.«module»)
    ∙ sym (with_texts-append set.empty (host_names (kept s) l.aux) (fixed_names s l.«module»))

pub first_given : (taken : TextSet) (others names : List (List ℕ)) → taken ≡ with_texts set.empty others
    → first_told one_word one_word taken names ≡ first_clash_after bytes_eq others names
first_given taken others names is =
    told_is_after taken others names (λ name.
    ap (λ (t : TextSet). set.contains t name) is ∙ in_set others name ∙ or_false (is_one_of others name))

-- where nothing is given, nothing clashes
pub none_given : (s : Settings) (l : Lowered) → given_names s.omit_imports l ≡ [] → given_clash s l ≡ None
none_given s l h = ap (λ (names : List (List ℕ)). option_map faults.NameClash (first_clash_after bytes_eq (other_names s l) names)) h

-- ---- where none is

-- none of the names is one of those before, where none is found
none_before : (before names : List (List ℕ)) (name : List ℕ) → first_clash_after bytes_eq before names ≡ None → IsIn name names
    → is_one_of before name ≡ false
none_before before [] name h i = absurd i
none_before before (first ∷ names) name h i =
    let n = not_here (is_one_of before first) first (first_clash_after bytes_eq (first ∷ before) names) h in
    elim i [
      | inl same ↦ ap (is_one_of before) same ∙ n.0
      | inr later ↦ (neither (bytes_eq first name) (is_one_of before name) (none_before (first ∷ before) names name n.1 later)).1
    ]

-- and none stands twice
pub none_twice : (before names : List (List ℕ)) → first_clash_after bytes_eq before names ≡ None → AreDistinct names
none_twice before [] h = tt
none_twice before (name ∷ names) h =
    let n = not_here (is_one_of before name) name (first_clash_after bytes_eq (name ∷ before) names) h in (
      λ i.
          let apart = neither (bytes_eq name name) (is_one_of before name) (none_before (name ∷ before) names name n.1 i) in
          true≢false (sym ((bytes_eq-Decides name name).1 refl) ∙ apart.0),
      none_twice (name ∷ before) names n.1,
    )

-- each is no name of the outside where imports are kept, and none that the glue file may bind
pub none_other : (s : Settings) (l : Lowered) (names : List (List ℕ)) (name : List ℕ) → first_clash_after bytes_eq (other_names s l) names ≡ None
    → IsIn name names → (is_one_of (host_names (kept s) l.aux) name ≡ false) × (is_one_of (fixed_names s l.«module») name ≡ false)
none_other s l names name h i =
    let hosts = host_names (kept s) l.aux in
    let fixed = fixed_names s l.«module» in
    neither (is_one_of hosts name) (is_one_of fixed name)
    (sym (list_any-append (λ n. bytes_eq n name) hosts fixed) ∙ none_before (other_names s l) names name h i)

-- ---- what described names bring

-- a name of the outside is one where imports are kept too, or a name from a module
pub either_host : (omitted : Bool) (n : JsImportName) (x : List ℕ) → IsIn x (described_hosts omitted n)
    → IsIn x (described_hosts false n) ⊎ IsIn x (omitted_name omitted n)
either_host omitted (js.Global name) x i = inl i
either_host omitted (js.VendorPrefixed name prefixes) x i = inl i
either_host true (js.Module from name) x i = inr i
either_host true (js.LocalModule from name) x i = inr i
either_host true (js.InlineJs from index name) x i = inr i
either_host false n x i = inl i

-- the names from modules that imports begin with, each once, and those that imports of re-exports begin with besides
abbrev pub imported_given : (omitted : Bool) → WasmBindgenAux → List (List ℕ)
imported_given omitted aux = omitted_names omitted (each_once (begun aux.imports))

abbrev pub reexported_given : (omitted : Bool) → WasmBindgenAux → List (List ℕ)
reexported_given omitted aux = omitted_names omitted (each_new (begun aux.imports) (reexported aux.reexports))

-- a described name from a module is one of these
pub omitted_either : (omitted : Bool) (aux : WasmBindgenAux) (n : JsImportName) → IsIn n (described_names aux) → (x : List ℕ)
    → IsIn x (omitted_name omitted n) → IsIn x (imported_given omitted aux) ⊎ IsIn x (reexported_given omitted aux)
omitted_either omitted aux n i x k = elim (in_either n (begun aux.imports) (reexported aux.reexports) i) [
  | inl here ↦ first here
  | inr there ↦ split (has_name n (begun aux.imports)) refl there
]
  where
    first : IsIn n (begun aux.imports) → IsIn x (imported_given omitted aux) ⊎ IsIn x (reexported_given omitted aux)
    first here = inl (in_flat (omitted_name omitted) (each_once (begun aux.imports)) n x (once_has n (begun aux.imports) here) k)

    split : (b : Bool) → has_name n (begun aux.imports) ≡ b → IsIn n (reexported aux.reexports)
        → IsIn x (imported_given omitted aux) ⊎ IsIn x (reexported_given omitted aux)
    split true e there = first (name_in n (begun aux.imports) e)
    split false e there =
        inr (in_flat (omitted_name omitted) (each_new (begun aux.imports) (reexported aux.reexports)) n x
        (new_has n (begun aux.imports) (reexported aux.reexports) there e) k)

-- so it is given
pub omitted_given : (omitted : Bool) (l : Lowered) (n : JsImportName) → IsIn n (described_names l.aux) → (x : List ℕ)
    → IsIn x (omitted_name omitted n) → IsIn x (given_names omitted l)
omitted_given omitted l n i x k =
    let closures = closure_names l in
    let first = imported_given omitted l.aux in
    let values = map values_name l.aux.string_enums in
    let later = reexported_given omitted l.aux in
    in_right x closures (first ++ (values ++ later)) (elim (omitted_either omitted l.aux n i x k) [
      | inl here ↦ in_left x first (values ++ later) here
      | inr there ↦ in_right x first (values ++ later) (in_right x values later there)
    ])
