-- Names that are put into a set one list after another, and what is asked of such a set.
use Rattle.std.proofs.Common.{◌≡◌, ℕ, zero, suc, ◌+◌, ◌-◌, ◌<◌, List, [], ◌∷◌, ◌++◌, map, length, drop, get_or, codes, Bool, true, false, ◌||◌, Option, Some, None, refl, sym, ap, ◌∙◌, arith, add-one, drop-cons}
use Rattle.std.specs.Fmt.{decimal}
use Rattle.std.specs.Prelude.{cond, find}
use Rattle.std.specs.List.{flat_map}
use Rattle.std.specs.Option.{option_or}
use Rattle.std.specs.Ordering.{nat_cmp}
use Rattle.std.specs.Cmp.Lexicographic.{slice_cmp}
use Rattle.std.specs.FinSet as set
use Rattle.std.proofs.lemmas.List.{append-nil}
use Rattle.std.proofs.lemmas.List.Folds.{flat_map-map}
use Rattle.std.proofs.lemmas.Grind.{flat_map-append}
use Rattle.values.specs.TextSet.{TextSet, with_texts}
use Rattle.wasm_core.specs.Contents.{Contents}
use Rattle.glue_scope.proofs.Drawn.{with_texts-append}
use Rattle.glue_shared.specs.declared.aux.WasmBindgenAux.{WasmBindgenAux}
use Rattle.glue_shared.specs.declared.import.AuxImport.{AuxImport}
use Rattle.glue_shared.specs.declared.import.JsImport.{JsImport}
use Rattle.glue_shared.specs.declared.import.JsImportName.{JsImportName}
use Rattle.glue_shared.specs.declared.names.TheConstants.{HOSTS, HELPER_NAMES, MEMORY_NAMES, TABLE_NAMES, TARGET_NAMES}
use Rattle.glue_shared.specs.declared.settings.Settings.{Settings}
use Rattle.glue_shared.specs.Names.{is_one_of, names_of, js_import, described_names, described_hosts, target_hosts, inspect_names, host_names, placed_names, import_names, live_count, global_names, helper_names, fixed_names}
use Rattle.glue_faults.specs.First.{first_of, where_true}
use Rattle.glue_faults.proofs.Clashes.{told_more}
use Rattle.glue_names.specs.Naming.{taken_described}
use Rattle.glue_names.specs.Taken.{brought, global_of, name_if, numbered_by, entry_names, taken_in}

-- ---- lists that are put in one after another

-- the names of one more item are put in
pub flat_next : {A : Type 0} (f : A → List (List ℕ)) (xs : List A) (i : ℕ) (x : A) (taken more whole : TextSet) → i < length xs → x ≡ get_or xs i x
    → more ≡ with_texts taken (f x) → with_texts taken (flat_map f (drop i xs)) ≡ whole → with_texts more (flat_map f (drop (i + 1) xs)) ≡ whole
flat_next f xs i x taken more whole within here is so_far =
    let later = flat_map f (drop (i + 1) xs) in
    let cut : drop i xs ≡ x ∷ drop (i + 1) xs =
    drop-cons xs i x within ∙ ap (λ y. y ∷ drop (suc i) xs) (sym here) ∙ ap (λ k. x ∷ drop k xs) (sym (add-one i)) in
    ap (λ (t : TextSet). with_texts t later) is
    ∙ sym (ap (λ ys. with_texts taken (flat_map f ys)) cut ∙ with_texts-append taken (f x) later) ∙ so_far

-- what an import brings where it begins with a name, and where it begins with none
pub brought_some : (omitted : Bool) (what : AuxImport) (js : JsImport) → js_import what ≡ Some js → brought omitted what ≡ described_hosts omitted js.name
brought_some omitted what js h = ap (λ o. flat_map (described_hosts omitted) (names_of o)) h ∙ append-nil (described_hosts omitted js.name)

pub brought_none : (omitted : Bool) (what : AuxImport) → js_import what ≡ None → brought omitted what ≡ []
brought_none omitted what h = ap (λ o. flat_map (described_hosts omitted) (names_of o)) h

flat_twice : {A B C : Type 0} (f : B → List C) (g : A → List B) (xs : List A) → flat_map f (flat_map g xs) ≡ flat_map (λ x. flat_map f (g x)) xs
flat_twice f g [] = refl
flat_twice f g (x ∷ xs) = flat_map-append f (g x) (flat_map g xs) ∙ ap (λ ys. flat_map f (g x) ++ ys) (flat_twice f g xs)

-- what the described names bring is what imports bring, and then what re-exports bring
described_both : (omitted : Bool) (aux : WasmBindgenAux) → flat_map (described_hosts omitted) (described_names aux)
    ≡ flat_map (λ i. brought omitted i.1) aux.imports ++ flat_map (λ r. described_hosts omitted r.1.name) aux.reexports
described_both omitted aux =
    let f = described_hosts omitted in
    let names = map (λ r. r.1.name) aux.reexports in
    flat_map-append f (flat_map (λ i. names_of (js_import i.1)) aux.imports) names
    ∙ ap (λ ys. ys ++ flat_map f names) (flat_twice f (λ i. names_of (js_import i.1)) aux.imports)
    ∙ ap (λ ys. flat_map (λ i. brought omitted i.1) aux.imports ++ ys) (flat_map-map f (λ r. r.1.name) aux.reexports)

hosts_taken : (taken : TextSet) (settings : Settings) (aux : WasmBindgenAux)
    → with_texts (with_texts (with_texts (with_texts (with_texts taken (map (λ w. w.now) HOSTS)) (target_hosts settings.target))
    (flat_map (λ i. brought settings.omit_imports i.1) aux.imports))
    (flat_map (λ r. described_hosts settings.omit_imports r.1.name) aux.reexports))
    (inspect_names settings aux)
    ≡ with_texts taken (host_names settings aux)
unfolding host_names
hosts_taken taken settings aux =
    let omitted = settings.omit_imports in
    let common = map (λ w. w.now) HOSTS in
    let own = target_hosts settings.target in
    let imported = flat_map (λ i. brought omitted i.1) aux.imports in
    let reexported = flat_map (λ r. described_hosts omitted r.1.name) aux.reexports in
    let described = flat_map (described_hosts omitted) (described_names aux) in
    let rest = inspect_names settings aux in
    let first = with_texts (with_texts taken common) own in
    sym (
    with_texts-append taken common (own ++ (described ++ rest))
    ∙ with_texts-append (with_texts taken common) own (described ++ rest)
    ∙ with_texts-append first described rest
    ∙ ap (λ s. with_texts s rest) (ap (with_texts first) (described_both omitted aux) ∙ with_texts-append first imported reexported))

-- names of the outside are in the set once all lists are
pub hosts_joined : (taken : TextSet) (settings : Settings) (aux : WasmBindgenAux) (imports : List (ℕ × AuxImport)) (reexports : List (List ℕ × JsImport × Bool))
    (common own imported described : TextSet) → imports ≡ aux.imports → reexports ≡ aux.reexports
    → common ≡ with_texts taken (map (λ w. w.now) HOSTS) → own ≡ with_texts common (target_hosts settings.target)
    → imported ≡ with_texts own (flat_map (λ i. brought settings.omit_imports i.1) imports)
    → described ≡ with_texts imported (flat_map (λ r. described_hosts settings.omit_imports r.1.name) reexports)
    → with_texts described (inspect_names settings aux) ≡ with_texts taken (host_names settings aux)
hosts_joined taken settings aux imports reexports common own imported described all others is_common is_own is_imported is_described =
    let by_imports : TextSet → List (ℕ × AuxImport) → TextSet = λ t xs. with_texts t (flat_map (λ i. brought settings.omit_imports i.1) xs) in
    let by_reexports : TextSet → List (List ℕ × JsImport × Bool) → TextSet = λ t xs. with_texts t (flat_map (λ r. described_hosts settings.omit_imports r.1.name) xs) in
    let own_is = is_own ∙ ap (λ (t : TextSet). with_texts t (target_hosts settings.target)) is_common in
    let imported_is = is_imported ∙ ap (by_imports own) all ∙ ap (λ (t : TextSet). by_imports t aux.imports) own_is in
    let described_is = is_described ∙ ap (by_reexports imported) others ∙ ap (λ (t : TextSet). by_reexports t aux.reexports) imported_is in
    ap (λ (t : TextSet). with_texts t (inspect_names settings aux)) described_is ∙ hosts_taken taken settings aux

pub helpers_taken : (taken : TextSet) (m : Contents)
    → with_texts (with_texts (with_texts taken (map (λ w. w.now) HELPER_NAMES)) (placed_names (map (λ w. w.now) MEMORY_NAMES) 0 m.memories))
    (placed_names (map (λ w. w.now) TABLE_NAMES) 0 m.tables)
    ≡ with_texts taken (helper_names m)
unfolding helper_names
helpers_taken taken m =
    let listed = map (λ w. w.now) HELPER_NAMES in
    let memories = placed_names (map (λ w. w.now) MEMORY_NAMES) 0 m.memories in
    let tables = placed_names (map (λ w. w.now) TABLE_NAMES) 0 m.tables in
    sym (with_texts-append taken listed (memories ++ tables) ∙ with_texts-append (with_texts taken listed) memories tables)

pub fixed_taken : (taken : TextSet) (settings : Settings) (m : Contents)
    → with_texts (with_texts (with_texts (with_texts taken (map (λ w. w.now) TARGET_NAMES)) (helper_names m)) (import_names (live_count m.imports)))
    (global_names settings.target)
    ≡ with_texts taken (fixed_names settings m)
unfolding fixed_names
fixed_taken taken settings m =
    let texts = map (λ w. w.now) TARGET_NAMES in
    let helpers = helper_names m in
    let imports = import_names (live_count m.imports) in
    let global = global_names settings.target in
    sym (
    with_texts-append taken texts (helpers ++ (imports ++ global))
    ∙ with_texts-append (with_texts taken texts) helpers (imports ++ global)
    ∙ with_texts-append (with_texts (with_texts taken texts) helpers) imports global)

-- of numbered imports: the last, and then those before
pub imports_step : (taken : TextSet) (n : ℕ) → 0 < n → with_texts taken (import_names n) ≡ with_texts (set.insert taken (codes "import" ++ decimal n)) (import_names (n - 1))
imports_step taken zero h = absurd (omega arith)
imports_step taken (suc n) h = rw (before n) refl
  where
    before : (n : ℕ) → suc n - 1 ≡ n
    before n = omega arith

placed_first : {A : Type 0} (taken : TextSet) (stems : List (List ℕ)) (i : ℕ) (e : Option A) (later : List (Option A))
    → with_texts taken (placed_names stems i (e ∷ later)) ≡ with_texts (with_texts taken (entry_names stems i e)) (placed_names stems (i + 1) later)
placed_first taken stems i None later = refl
placed_first taken stems i (Some x) later = with_texts-append taken (numbered_by stems i) (placed_names stems (i + 1) later)

-- of names with a place: those of an entry, and then those of the later ones
pub placed_step : {A : Type 0} (taken : TextSet) (stems : List (List ℕ)) (i : ℕ) (entries : List (Option A)) (e : Option A) → i < length entries → e ≡ get_or entries i e
    → with_texts taken (placed_names stems i (drop i entries)) ≡ with_texts (with_texts taken (entry_names stems i e)) (placed_names stems (i + 1) (drop (i + 1) entries))
placed_step taken stems i entries e within here =
    let cut : drop i entries ≡ e ∷ drop (i + 1) entries =
    drop-cons entries i e within ∙ ap (λ x. x ∷ drop (suc i) entries) (sym here) ∙ ap (λ k. e ∷ drop k entries) (sym (add-one i)) in
    ap (λ l. with_texts taken (placed_names stems i l)) cut ∙ placed_first taken stems i e (drop (i + 1) entries)

-- ---- what is asked

-- a name is in the set of a list where it is in the list
pub in_set : (names : List (List ℕ)) (name : List ℕ) → set.contains (with_texts set.empty names) name ≡ (is_one_of names name || false)
in_set names name = told_more set.empty names name ∙ ap (λ (b : Bool). is_one_of names name || b) (set.contains-empty (slice_cmp nat_cmp) name)

pub or_false : (b : Bool) → (b || false) ≡ b
or_false true = refl
or_false false = refl

found_alike : {A : Type 0} (f g : A → Bool) → ((x : A) → f x ≡ g x) → (xs : List A) → find f xs ≡ find g xs
found_alike f g same [] = refl
found_alike f g same (x ∷ xs) = ap (λ (b : Bool). cond b (Some x) (find f xs)) (same x) ∙ ap (cond (g x) (Some x)) (found_alike f g same xs)

first_alike : {A B : Type 0} (f g : A → Option B) → ((x : A) → f x ≡ g x) → (xs : List A) → first_of f xs ≡ first_of g xs
first_alike f g same [] = refl
first_alike f g same (x ∷ xs) = ap (λ o. option_or o (first_of f xs)) (same x) ∙ ap (option_or (g x)) (first_alike f g same xs)

named_alike : (f g : List ℕ → Bool) → ((x : List ℕ) → f x ≡ g x) → (o : Option (List ℕ)) → name_if f o ≡ name_if g o
named_alike f g same None = refl
named_alike f g same (Some x) = ap (λ (b : Bool). where_true b x) (same x)

taken_alike : (names others : List (List ℕ)) (described : JsImportName)
    → taken_in (with_texts set.empty names) (with_texts set.empty others) described ≡ taken_described names others described
taken_alike names others described =
    let test : List (List ℕ) → List ℕ → Bool = λ list. set.contains (with_texts set.empty list) in
    let same : (list : List (List ℕ)) (name : List ℕ) → test list name ≡ is_one_of list name = λ list name. in_set list name ∙ or_false (is_one_of list name) in
    let hosts = described_hosts false described in
    ap (λ o. option_or o (name_if (test others) (global_of described))) (found_alike (test names) (is_one_of names) (same names) hosts)
    ∙ ap (option_or (find (is_one_of names) hosts)) (named_alike (test others) (is_one_of others) (same others) (global_of described))

-- the first name that is taken or given by the sets is the first by the lists
pub taken_same : (taken given : TextSet) (names others : List (List ℕ)) (described : List JsImportName)
    → taken ≡ with_texts set.empty names → given ≡ with_texts set.empty others
    → first_of (taken_in taken given) described ≡ first_of (taken_described names others) described
taken_same taken given names others described is are =
    ap (λ (t : TextSet). first_of (taken_in t given) described) is
    ∙ ap (λ (t : TextSet). first_of (taken_in (with_texts set.empty names) t) described) are
    ∙ first_alike (taken_in (with_texts set.empty names) (with_texts set.empty others)) (taken_described names others) (taken_alike names others) described
