-- What imports bring in, in their order.
use Rattle.std.proofs.Common.{◌≡◌, ℕ, zero, suc, ◌+◌, ◌<◌, ◌≤◌, Bool, true, false, cond, List, [], ◌∷◌, ◌++◌, map, length, Option, Some, None, refl, sym, ap, ◌∙◌, arith, zero-add}
use Rattle.std.specs.Prelude.{slice_get, count_by, if◌then◌else◌}
use Rattle.std.specs.List.{AllByRecursion, filter_map, cons_option, enumerate_from, range_with_len}
use Rattle.std.specs.Option.{option_map}
use Rattle.std.proofs.lemmas.List.Sums.{sum_by_push}
use Rattle.std.proofs.lemmas.Option.{none-some, same_Some}
use Rattle.wasm_types.specs.declared.ids.ImportId.{ImportId}
use Rattle.wasm_file.specs.declared.entries.FileImport.{FileImport}
use Rattle.wasm_file.specs.declared.entries.ImportType.{ImportType}
use Rattle.wasm_file_laws.proofs.EachItem.{all_weaker}
use Rattle.wasm_core.specs.declared.types.Import.{Import}
use Rattle.wasm_emission.specs.Emission.{live}
use Rattle.wasm_core.specs.Parsing.{places_of, kind_at, imports_behind, brought, joined}
use Rattle.wasm_collect.specs.Reach.{entry_at}
use Rattle.wasm_core_laws.specs.ModuleFits.{IfThere, IsBroughtBy}
use Rattle.wasm_core_laws.proofs.Everywhere.{all_kept, counted_more}

-- what stands for an import of a kind that it asks for
abbrev pub if_asked : {A : Type 0} → Bool → A → Option A
if_asked asked x = if asked then Some x else None

-- How imports bring in one kind: which ask for it, the entry that is made of one, the entry's import, and the entry's place.
pub record IsKind {A : Type 0} (asks : FileImport → Bool) (make : ImportId → ImportType → Option A) (import_of : A → Option ImportId) (place : Import → Option ℕ) : Type 0 where
  pub made : (i : ImportId) (x : FileImport) → option_map import_of (make i x.ty) ≡ if_asked (asks x) (Some i)
  pub told : (before : List FileImport) (x : FileImport) → place (record { «module» = x.«module»; name = x.name; kind = kind_at (places_of before) x.ty }) ≡ if_asked (asks x) (count_by asks before)

-- the entry names the import of a place below a number
abbrev pub IsImportedBelow : {A : Type 0} → ℕ → (A → Option ImportId) → A → Type 0
IsImportedBelow n import_of x = (k : ℕ) × (k < n) × (import_of x ≡ Some (record { 0 = k }))

-- how many pass a test, with one more at the end
last_more : {A : Type 0} (test : A → Bool) (b : Bool) (x : A) (xs : List A) → test x ≡ b → count_by test (xs ++ x ∷ []) ≡ count_by test xs + cond b 1 0
last_more test b x xs is = sum_by_push (λ x. cond (test x) 1 0) xs x ∙ ap (λ b. count_by test xs + cond b 1 0) is

-- ---- entries of one kind

module _ {A : Type 0} (asks : FileImport → Bool) (make : ImportId → ImportType → Option A) (import_of : A → Option ImportId) (place : Import → Option ℕ) (k : IsKind asks make import_of place) where
  -- what imports at places from a number on bring in
  abbrev brought_from : ℕ → List FileImport → List A
  brought_from from xs = filter_map (λ p. make (record { 0 = p.0 }) p.1.ty) (enumerate_from from xs)

  -- an entry that is made, or none
  made_is : (b : Bool) (o : Option A) (i : ImportId) → option_map import_of o ≡ if_asked b (Some i) → IfThere (λ x. import_of x ≡ Some i) o
  made_is b None i is = tt
  made_is true (Some x) i is = same_Some (import_of x) (Some i) is
  made_is false (Some x) i is = absurd (none-some (import_of x) (sym is))

  -- each place is below the end
  below : (n from : ℕ) (xs : List FileImport) → from + length xs ≤ n → AllByRecursion (λ p. p.0 < n) (enumerate_from from xs)
  below n from [] le = tt
  below n from (x ∷ xs) le = (omega (arith, le), below n (from + 1) xs (omega (arith, le)))

  -- each entry names the import of a place
  pub imported_below : (imports : List FileImport) → AllByRecursion (IsImportedBelow (length imports) import_of) (brought make imports)
  imported_below imports =
      let n = length imports in
      all_kept (IsImportedBelow n import_of) (λ p. make (record { 0 = p.0 }) p.1.ty) (enumerate_from 0 imports)
      (all_weaker (λ p. p.0 < n) (λ p. IfThere (IsImportedBelow n import_of) (make (record { 0 = p.0 }) p.1.ty)) (λ p lt. named n p.0 lt (make (record { 0 = p.0 }) p.1.ty) (made_is (asks p.1) (make (record { 0 = p.0 }) p.1.ty) (record { 0 = p.0 }) (k.made (record { 0 = p.0 }) p.1)))
      (enumerate_from 0 imports) (below n 0 imports (omega arith)))
    where
      named : (n i : ℕ) → i < n → (o : Option A) → IfThere (λ x. import_of x ≡ Some (record { 0 = i })) o → IfThere (IsImportedBelow n import_of) o
      named n i lt (Some x) h = (i, lt, h)
      named n i lt None h = tt

  -- one import more: an entry in front, where it asks for the kind
  front : (b : Bool) (o : Option A) (i : ImportId) (xs : List A) → option_map import_of o ≡ if_asked b (Some i) → length (cons_option o xs) ≡ cond b 1 0 + length xs
  front true (Some x) i xs is = omega arith
  front false None i xs is = omega arith
  front true None i xs is = absurd (none-some (Some i) is)
  front false (Some x) i xs is = absurd (none-some (import_of x) (sym is))

  -- what stands behind it
  front_at : (b : Bool) (o : Option A) (i : ImportId) (xs : List A) (n : ℕ) → option_map import_of o ≡ if_asked b (Some i) → slice_get (map import_of (cons_option o xs)) (cond b 1 0 + n) ≡ slice_get (map import_of xs) n
  front_at true (Some x) i xs n is = let e : 1 + n ≡ suc n = omega arith in rw e refl
  front_at false None i xs n is = let e : 0 + n ≡ n = omega arith in rw e refl
  front_at true None i xs n is = absurd (none-some (Some i) is)
  front_at false (Some x) i xs n is = absurd (none-some (import_of x) (sym is))

  -- as many entries as imports that ask for them, from a place on
  count_from : (from : ℕ) (xs : List FileImport) → length (brought_from from xs) ≡ count_by asks xs
  count_from from [] = refl
  count_from from (x ∷ xs) =
      front (asks x) (make (record { 0 = from }) x.ty) (record { 0 = from }) (brought_from (from + 1) xs) (k.made (record { 0 = from }) x)
      ∙ ap (λ n. cond (asks x) 1 0 + n) (count_from (from + 1) xs) ∙ sym (counted_more asks (asks x) x xs refl)

  -- as many entries as imports that ask for them
  pub brought_count : (imports : List FileImport) → length (brought make imports) ≡ count_by asks imports
  brought_count imports = count_from 0 imports

  -- an import that asks for the kind: its entry stands where the imports before it end
  at_from : (from : ℕ) (before rest : List FileImport) (x : FileImport) → asks x ≡ true → slice_get (map import_of (brought_from from (before ++ x ∷ rest))) (count_by asks before) ≡ Some (Some (record { 0 = from + length before }))
  at_from from [] rest x is =
      let e : from + 0 ≡ from = omega arith in
      rw e (here (make (record { 0 = from }) x.ty) (record { 0 = from }) (brought_from (from + 1) rest) (k.made (record { 0 = from }) x ∙ ap (λ b. if_asked b (Some (record { 0 = from }))) is))
    where
      here : (o : Option A) (i : ImportId) (xs : List A) → option_map import_of o ≡ Some (Some i) → slice_get (map import_of (cons_option o xs)) 0 ≡ Some (Some i)
      here (Some x) i xs is = is
      here None i xs is = absurd (none-some (Some i) is)
  at_from from (y ∷ before) rest x is =
      let e : from + 1 + length before ≡ from + suc (length before) = omega arith in
      let all = brought_from from (y ∷ (before ++ x ∷ rest)) in
      ap (λ n. slice_get (map import_of all) n) (counted_more asks (asks y) y before refl)
      ∙ front_at (asks y) (make (record { 0 = from }) y.ty) (record { 0 = from }) (brought_from (from + 1) (before ++ x ∷ rest)) (count_by asks before) (k.made (record { 0 = from }) y)
      ∙ at_from (from + 1) before rest x is ∙ ap (λ n. Some (Some (record { 0 = n }))) e

  -- The entries at the front, as those that imports bring in, name their imports.
  pub brought_by : (xs ys : List A) (before rest : List FileImport) (x : FileImport) → map import_of xs ≡ map import_of (brought make (before ++ x ∷ rest)) → asks x ≡ true → IsBroughtBy import_of (length before) (entry_at (joined xs ys) (count_by asks before))
  brought_by xs ys before rest x same is =
      named xs (count_by asks before) (length before) (ap (λ is. slice_get is (count_by asks before)) same ∙ at_from 0 before rest x is ∙ ap (λ n. Some (Some (record { 0 = n }))) (zero-add (length before)))
    where
      named : (xs : List A) (n i : ℕ) → slice_get (map import_of xs) n ≡ Some (Some (record { 0 = i })) → IsBroughtBy import_of i (entry_at (joined xs ys) n)
      named [] n i is = absurd (none-some (Some (record { 0 = i })) is)
      named (x ∷ xs) zero i is = same_Some (import_of x) (Some (record { 0 = i })) is
      named (x ∷ xs) (suc n) i is = named xs n i is

  -- The places that imports tell are one after another.
  pub told_places : (before rest : List FileImport) → filter_map place (live (imports_behind before rest)) ≡ range_with_len (count_by asks before) (count_by asks rest)
  unfolding imports_behind
  told_places before [] = refl
  told_places before (x ∷ rest) =
      more (asks x) (place (record { «module» = x.«module»; name = x.name; kind = kind_at (places_of before) x.ty })) (filter_map place (live (imports_behind (before ++ x ∷ []) rest))) (count_by asks before) (count_by asks rest) (k.told before x)
      (told_places (before ++ x ∷ []) rest ∙ ap (λ n. range_with_len n (count_by asks rest)) (last_more asks (asks x) x before refl))
      ∙ ap (range_with_len (count_by asks before)) (sym (counted_more asks (asks x) x rest refl))
    where
      more : (b : Bool) (o : Option ℕ) (ns : List ℕ) (from n : ℕ) → o ≡ if_asked b from → ns ≡ range_with_len (from + cond b 1 0) n → cons_option o ns ≡ range_with_len from (cond b 1 0 + n)
      more true o ns from n is h = let e : 1 + n ≡ suc n = omega arith in rw (is, e) (ap (λ ns. from ∷ ns) h)
      more false o ns from n is h =
          let e : 0 + n ≡ n = omega arith in
          let same : from + 0 ≡ from = omega arith in
          rw (is, e) (h ∙ ap (λ k. range_with_len k n) same)

-- imports that stand behind others are all there, and as many as there were
pub behind_some : (before rest : List FileImport) → imports_behind before rest ≡ map Some (live (imports_behind before rest))
unfolding imports_behind
behind_some before [] = refl
behind_some before (x ∷ rest) = ap (λ xs. Some (record { «module» = x.«module»; name = x.name; kind = kind_at (places_of before) x.ty }) ∷ xs) (behind_some (before ++ x ∷ []) rest)

-- there are as many as in the file
pub behind_count : (before rest : List FileImport) → length (live (imports_behind before rest)) ≡ length rest
unfolding imports_behind
behind_count before [] = refl
behind_count before (x ∷ rest) = ap suc (behind_count (before ++ x ∷ []) rest)
