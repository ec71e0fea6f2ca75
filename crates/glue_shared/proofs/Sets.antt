-- A name is in a set exactly where it is in one of its parts.
use Rattle.std.proofs.Common.{◌≡◌, ℕ, zero, suc, ◌+◌, ◌-◌, ◌<◌, ◌&&◌, ◌||◌, List, ◌∷◌, ◌++◌, map, length, drop, get_or, Bool, true, false, Option, Some, None, codes, bytes_eq, Bor, refl, sym, ap, ◌∙◌, arith, add-one, drop-cons}
use Rattle.std.specs.Option.{is_some}
use Rattle.std.specs.Fmt.{decimal}
use Rattle.std.specs.List.{list_any, flat_map}
use Rattle.std.proofs.lemmas.List.Folds.{list_any-append}
use Rattle.wasm_core.specs.Contents.{Contents}
use Rattle.glue_shared.specs.declared.aux.WasmBindgenAux.{WasmBindgenAux}
use Rattle.glue_shared.specs.declared.import.JsImportName.{JsImportName}
use Rattle.glue_shared.specs.declared.names.TheConstants.{HOSTS, HELPER_NAMES, MEMORY_NAMES, TABLE_NAMES, TARGET_NAMES}
use Rattle.glue_shared.specs.declared.settings.Settings.{Settings}
use Rattle.glue_shared.specs.Names.{is_one_of, names_of, js_import, described_names, described_hosts, target_hosts, inspect_names, host_names, placed_names, import_names, live_count, global_names, helper_names, fixed_names}
use Rattle.glue_shared.proofs.Texts.{list_any-map, list_any-flat_map}

-- of borrowed texts
pub texts_any : (words : List (Bor (List ℕ))) (name : List ℕ) → is_one_of (map (λ w. w.now) words) name ≡ list_any (λ w. bytes_eq w.now name) words
texts_any words name = list_any-map (λ n. bytes_eq n name) (λ w. w.now) words

-- of texts with one text after them
pub prefixed_any : (text : List ℕ) (prefixes : List (List ℕ)) (name : List ℕ)
    → is_one_of (map (λ prefix. prefix ++ text) prefixes) name ≡ list_any (λ prefix. bytes_eq (prefix ++ text) name) prefixes
prefixed_any text prefixes name = list_any-map (λ n. bytes_eq n name) (λ prefix. prefix ++ text) prefixes

-- of texts with a number after them
pub numbered_any : (number : ℕ) (stems : List (Bor (List ℕ))) (name : List ℕ)
    → is_one_of (map (λ stem. stem ++ decimal number) (map (λ w. w.now) stems)) name ≡ list_any (λ w. bytes_eq (w.now ++ decimal number) name) stems
numbered_any number stems name =
    list_any-map (λ n. bytes_eq n name) (λ stem. stem ++ decimal number) (map (λ w. w.now) stems)
    ∙ list_any-map (λ stem. bytes_eq (stem ++ decimal number) name) (λ w. w.now) stems

-- of a join
pub one_of-append : (xs ys : List (List ℕ)) (name : List ℕ) → is_one_of (xs ++ ys) name ≡ (is_one_of xs name || is_one_of ys name)
one_of-append xs ys name = list_any-append (λ n. bytes_eq n name) xs ys

-- of the names that each of a list brings
flat_any : {A : Type 0} (f : A → List (List ℕ)) (xs : List A) (name : List ℕ) → is_one_of (flat_map f xs) name ≡ list_any (λ x. is_one_of (f x) name) xs
flat_any f xs name = list_any-flat_map (λ n. bytes_eq n name) f xs

-- of numbered imports: the last, or one before
pub import_step : (n : ℕ) (name : List ℕ) → 0 < n → is_one_of (import_names n) name ≡ (bytes_eq (codes "import" ++ decimal n) name || is_one_of (import_names (n - 1)) name)
import_step zero name h = absurd (omega arith)
import_step (suc n) name h = rw (before n) refl
  where
    before : (n : ℕ) → suc n - 1 ≡ n
    before n = omega arith

-- of names with a place: those of the first entry, or those of the later ones
placed_first : {A : Type 0} (stems : List (Bor (List ℕ))) (i : ℕ) (o : Option A) (later : List (Option A)) (name : List ℕ)
    → is_one_of (placed_names (map (λ w. w.now) stems) i (o ∷ later)) name
    ≡ ((is_some o && list_any (λ w. bytes_eq (w.now ++ decimal i) name) stems) || is_one_of (placed_names (map (λ w. w.now) stems) (i + 1) later) name)
placed_first stems i None later name = refl
placed_first stems i (Some x) later name =
    one_of-append (map (λ stem. stem ++ decimal i) (map (λ w. w.now) stems)) (placed_names (map (λ w. w.now) stems) (i + 1) later) name
    ∙ ap (λ b. b || is_one_of (placed_names (map (λ w. w.now) stems) (i + 1) later) name) (numbered_any i stems name)

pub placed_step : {A : Type 0} (stems : List (Bor (List ℕ))) (i : ℕ) (entries : List (Option A)) (e : Option A) (name : List ℕ) → i < length entries → e ≡ get_or entries i e
    → is_one_of (placed_names (map (λ w. w.now) stems) i (drop i entries)) name
    ≡ ((is_some e && list_any (λ w. bytes_eq (w.now ++ decimal i) name) stems) || is_one_of (placed_names (map (λ w. w.now) stems) (i + 1) (drop (i + 1) entries)) name)
placed_step stems i entries e name within here =
    let cut : drop i entries ≡ e ∷ drop (i + 1) entries =
    drop-cons entries i e within ∙ ap (λ x. x ∷ drop (suc i) entries) (sym here) ∙ ap (λ k. e ∷ drop k entries) (sym (add-one i)) in
    ap (λ l. is_one_of (placed_names (map (λ w. w.now) stems) i l) name) cut ∙ placed_first stems i e (drop (i + 1) entries) name

-- whether an entry at a place gives the name
abbrev pub gives : {A : Type 0} → List (Bor (List ℕ)) → ℕ → Option A → List ℕ → Bool
gives stems place e name = is_some e && list_any (λ w. bytes_eq (w.now ++ decimal place) name) stems

pub placed_found : {A : Type 0} (stems : List (Bor (List ℕ))) (i place : ℕ) (entries : List (Option A)) (e : Option A) (name : List ℕ) (whole : Bool) → i < length entries → e ≡ get_or entries i e → place ≡ i
    → whole ≡ is_one_of (placed_names (map (λ w. w.now) stems) i (drop i entries)) name → gives stems place e name ≡ true → true ≡ whole
placed_found stems i place entries e name whole within here at rest found =
    let later = is_one_of (placed_names (map (λ w. w.now) stems) (i + 1) (drop (i + 1) entries)) name in
    sym (rest ∙ placed_step stems i entries e name within here ∙ ap (λ b. b || later) (ap (λ k. gives stems k e name) (sym at) ∙ found))

pub placed_on : {A : Type 0} (stems : List (Bor (List ℕ))) (i place : ℕ) (entries : List (Option A)) (e : Option A) (name : List ℕ) (whole : Bool) → i < length entries → e ≡ get_or entries i e → place ≡ i
    → whole ≡ is_one_of (placed_names (map (λ w. w.now) stems) i (drop i entries)) name → gives stems place e name ≡ false
    → whole ≡ is_one_of (placed_names (map (λ w. w.now) stems) (i + 1) (drop (i + 1) entries)) name
placed_on stems i place entries e name whole within here at rest none =
    let later = is_one_of (placed_names (map (λ w. w.now) stems) (i + 1) (drop (i + 1) entries)) name in
    rest ∙ placed_step stems i entries e name within here ∙ ap (λ b. b || later) (ap (λ k. gives stems k e name) (sym at) ∙ none)

-- of described names: those of the imports and those of the re-exports
pub described_any : (p : JsImportName → Bool) (aux : WasmBindgenAux)
    → list_any p (described_names aux) ≡ (list_any (λ i. list_any p (names_of (js_import i.1))) aux.imports || list_any (λ r. p r.1.name) aux.reexports)
described_any p aux =
    list_any-append p (flat_map (λ i. names_of (js_import i.1)) aux.imports) (map (λ r. r.1.name) aux.reexports)
    ∙ ap (λ b. b || list_any p (map (λ r. r.1.name) aux.reexports)) (list_any-flat_map p (λ i. names_of (js_import i.1)) aux.imports)
    ∙ ap (λ b. list_any (λ i. list_any p (names_of (js_import i.1))) aux.imports || b) (list_any-map p (λ r. r.1.name) aux.reexports)

-- of four lists
four_parts : (a b c d : List (List ℕ)) (name : List ℕ)
    → is_one_of (a ++ (b ++ (c ++ d))) name ≡ (is_one_of a name || (is_one_of b name || (is_one_of c name || is_one_of d name)))
four_parts a b c d name = simp one_of-append

-- of three lists
three_parts : (a b c : List (List ℕ)) (name : List ℕ) → is_one_of (a ++ (b ++ c)) name ≡ (is_one_of a name || (is_one_of b name || is_one_of c name))
three_parts a b c name = simp one_of-append

-- of names of the outside
pub hosts_any : (settings : Settings) (aux : WasmBindgenAux) (name : List ℕ)
    → is_one_of (host_names settings aux) name
    ≡ (list_any (λ w. bytes_eq w.now name) HOSTS
    || (is_one_of (target_hosts settings.target) name
    || (list_any (λ d. is_one_of (described_hosts settings.omit_imports d) name) (described_names aux)
    || is_one_of (inspect_names settings aux) name)))
unfolding host_names
hosts_any settings aux name =
    let target = target_hosts settings.target in
    let described = flat_map (described_hosts settings.omit_imports) (described_names aux) in
    let rest = inspect_names settings aux in
    four_parts (map (λ w. w.now) HOSTS) target described rest name
    ∙ ap (λ b. b || (is_one_of target name || (is_one_of described name || is_one_of rest name))) (list_any-map (λ n. bytes_eq n name) (λ w. w.now) HOSTS)
    ∙ ap (λ b. list_any (λ w. bytes_eq w.now name) HOSTS || (is_one_of target name || (b || is_one_of rest name))) (flat_any (described_hosts settings.omit_imports) (described_names aux) name)

-- of names that helpers bind
pub helpers_any : (m : Contents) (name : List ℕ)
    → is_one_of (helper_names m) name
    ≡ (list_any (λ w. bytes_eq w.now name) HELPER_NAMES
    || (is_one_of (placed_names (map (λ w. w.now) MEMORY_NAMES) 0 m.memories) name
    || is_one_of (placed_names (map (λ w. w.now) TABLE_NAMES) 0 m.tables) name))
unfolding helper_names
helpers_any m name =
    let memories = placed_names (map (λ w. w.now) MEMORY_NAMES) 0 m.memories in
    let tables = placed_names (map (λ w. w.now) TABLE_NAMES) 0 m.tables in
    three_parts (map (λ w. w.now) HELPER_NAMES) memories tables name
    ∙ ap (λ b. b || (is_one_of memories name || is_one_of tables name)) (list_any-map (λ n. bytes_eq n name) (λ w. w.now) HELPER_NAMES)

-- of names that may be bound
pub fixed_any : (settings : Settings) (m : Contents) (name : List ℕ)
    → is_one_of (fixed_names settings m) name
    ≡ (list_any (λ w. bytes_eq w.now name) TARGET_NAMES
    || (is_one_of (helper_names m) name
    || (is_one_of (import_names (live_count m.imports)) name
    || is_one_of (global_names settings.target) name)))
unfolding fixed_names
fixed_any settings m name =
    let imports = import_names (live_count m.imports) in
    let global = global_names settings.target in
    four_parts (map (λ w. w.now) TARGET_NAMES) (helper_names m) imports global name
    ∙ ap (λ b. b || (is_one_of (helper_names m) name || (is_one_of imports name || is_one_of global name))) (list_any-map (λ n. bytes_eq n name) (λ w. w.now) TARGET_NAMES)
